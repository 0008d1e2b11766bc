-- A policy as its parts, and a file of an edition as the words that they make: the header, and for each section its
-- count and then its records. What changes a file in its parts needs no places.
--
--   Parts               the operators, atoms and nodes of a policy, each by its words
--   file_words_in e P   the file that they make
--   parts_in e f l      the parts of a file of a layout
--   layout_of_parts P   how many there are of each
--   EachLong k rs       each record has k words
--   LongPartsIn e P     each record is as long as the edition has it
--   RightPartsIn e P    the parts are right, but for the laws
--   LawfulPartsIn e P   the operators keep the laws where nodes name them as inner or sibling
use Rattle.std.specs.Prelude.{ℕ, ◌≤◌, ◌<◌, ◌≡◌, true, List, [], ◌∷◌, ◌++◌, map, length, slice_index, slice_index_or}
use Rattle.logic.specs.Lists.{All}
use Rattle.words.specs.Records.{flat}
use Rattle.row.specs.Row.{row_of}
use Rattle.policy.specs.Numbers.{header_of, operator_length_in, atom_length_in, node_length}
use Rattle.policy.specs.Numbers.{most_operators, most_atoms, most_nodes}
use Rattle.policy.specs.Atom.{atom_row, right_atom_match, right_atom_action}
use Rattle.policy.specs.Cells.{right_cell_in, operator_rows}
use Rattle.policy.specs.Whole.{own_atoms}
use Rattle.policy.specs.Read.{operators_in, atoms_in, nodes_in, layout}
use Rattle.policy.specs.File.{held}
use Rattle.policy.specs.Meaning.{OneTree, LawsKept}
use Rattle.policy.specs.Due.{RightNode}
use Rattle.policy.specs.declared.Edition.{Edition}
use Rattle.policy.specs.declared.Layout.{Layout}

-- the operators, atoms and nodes of a policy, each by its words
pub record Parts : Type 0 where
  pub operators : List (List ℕ)
  pub atoms : List (List ℕ)
  pub nodes : List (List ℕ)

-- the words of some records
abbrev pub record_words : List (List ℕ) → List ℕ
record_words rs = flat (λ r. r) rs

-- a section: its count, its records, and what stands behind
abbrev pub section_words : List (List ℕ) → List ℕ → List ℕ
section_words rs rest = length rs ∷ (record_words rs ++ rest)

-- the file that some parts make
abbrev pub file_words_in : Edition → Parts → List ℕ
file_words_in e P = header_of e ++ section_words P.operators (section_words P.atoms (section_words P.nodes []))

-- the parts of a file
abbrev pub parts_in : Edition → List ℕ → Layout → Parts
parts_in e f l = record {
  operators = operators_in e f l.operators;
  atoms = atoms_in e f l.operators l.atoms;
  nodes = nodes_in e f l.operators l.atoms l.nodes;
}

-- how many there are of each
abbrev pub layout_of_parts : Parts → Layout
layout_of_parts P = layout (length P.operators) (length P.atoms) (length P.nodes)

-- each record has k words
abbrev pub EachLong : ℕ → List (List ℕ) → Type 0
EachLong k rs = All (λ r. length r ≡ k) rs

-- each record is as long as the edition has it
pub record LongPartsIn (e : Edition) (P : Parts) : Type 0 where
  pub operators : EachLong (operator_length_in e) P.operators
  pub atoms : EachLong (atom_length_in e) P.atoms
  pub nodes : EachLong node_length P.nodes

-- right parts, but for the laws
pub record RightPartsIn (e : Edition) (P : Parts) : Type 0 where
  pub operators_long : EachLong (operator_length_in e) P.operators
  pub atoms_long : EachLong (atom_length_in e) P.atoms
  pub nodes_long : EachLong node_length P.nodes
  pub some_operators : 1 ≤ length P.operators
  pub few_operators : length P.operators ≤ most_operators
  pub few_atoms : length P.atoms ≤ most_atoms
  pub some_nodes : 1 ≤ length P.nodes
  pub few_nodes : length P.nodes ≤ most_nodes
  pub cells : (i j : ℕ) → i < length P.operators → j < operator_length_in e
      → right_cell_in e j (slice_index (slice_index_or P.operators i []) j) ≡ true
  pub matches : (i : ℕ) → i < length P.atoms → right_atom_match e (slice_index_or P.atoms i []) ≡ true
  pub actions : (i : ℕ) → i < length P.atoms → right_atom_action e (slice_index_or P.atoms i []) ≡ true
  pub right_nodes : (i : ℕ) → i < length P.nodes → RightNode (length P.operators) (slice_index_or P.nodes i [])
  pub one_tree : OneTree (held (operator_rows e P.operators) (map (λ r. row_of (atom_row e r)) P.atoms) P.nodes)
  pub all_taken : own_atoms P.nodes ≡ length P.atoms

-- the operators keep the laws where nodes name them as inner or sibling
abbrev pub LawfulPartsIn : Edition → Parts → Type 0
LawfulPartsIn e P = LawsKept (operator_rows e P.operators) P.nodes
