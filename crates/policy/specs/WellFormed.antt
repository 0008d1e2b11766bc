-- When a policy file is well formed, in the words of the scope, without the order in which it is read. See
-- docs/FORMAT.md, "The policy file".
--
--   WellFormedIn e f l   the file f of the edition e is well formed, with the layout l; WellFormed of the newest
use Rattle.std.specs.Prelude.{ℕ, ◌<◌, ◌≡◌, true, List, [], length, slice_index, slice_index_or}
use Rattle.policy.specs.Numbers.{latest, header_length_in, operator_length_in, atom_length_in, node_length}
use Rattle.policy.specs.Numbers.{most_operators, most_atoms, most_nodes}
use Rattle.policy.specs.Whole.{own_atoms}
use Rattle.policy.specs.Read.{atoms_at_in, nodes_at_in, end_in, operators_in, atoms_in, nodes_in}
use Rattle.policy.specs.Meaning.{OneTree, LawsKept}
use Rattle.policy.specs.File.{file_nodes_in}
use Rattle.policy.specs.Atom.{right_atom_match, right_atom_action}
use Rattle.policy.specs.Cells.{right_cell_in, operator_rows}
use Rattle.policy.specs.declared.Edition.{Edition}
use Rattle.policy.specs.declared.Layout.{Layout}
use Rattle.policy.specs.Due.{Present, RightHeader, RightNode}

-- a well-formed file of an edition, of a operators, b atoms and c nodes, but for the laws
pub record OtherwiseIn (e : Edition) (f : List ℕ) (a b c : ℕ) : Type 0 where
  pub header : RightHeader e f
  pub operators : Present f (header_length_in e) 1 most_operators (operator_length_in e) a
  pub atoms : Present f (atoms_at_in e a) 0 most_atoms (atom_length_in e) b
  pub nodes : Present f (nodes_at_in e a b) 1 most_nodes node_length c
  pub cells : (i j : ℕ) → i < a → j < operator_length_in e
      → right_cell_in e j (slice_index (slice_index_or (operators_in e f a) i []) j) ≡ true
  pub matches : (i : ℕ) → i < b → right_atom_match e (slice_index_or (atoms_in e f a b) i []) ≡ true
  pub actions : (i : ℕ) → i < b → right_atom_action e (slice_index_or (atoms_in e f a b) i []) ≡ true
  pub right_nodes : (i : ℕ) → i < c → RightNode a (slice_index_or (nodes_in e f a b c) i [])
  pub ends : length f ≡ end_in e a b c
  pub one_tree : OneTree (file_nodes_in e f (record { operators = a; atoms = b; nodes = c }))
  pub all_taken : own_atoms (nodes_in e f a b c) ≡ b

-- a well-formed file of an edition
pub record WellFormedIn (e : Edition) (f : List ℕ) (l : Layout) : Type 0 where
  pub otherwise : OtherwiseIn e f l.operators l.atoms l.nodes
  pub lawful : LawsKept (operator_rows e (operators_in e f l.operators))
      (nodes_in e f l.operators l.atoms l.nodes)

-- the same for the newest edition
abbrev pub Otherwise : List ℕ → ℕ → ℕ → ℕ → Type 0
Otherwise f a b c = OtherwiseIn latest f a b c

abbrev pub WellFormed : List ℕ → Layout → Type 0
WellFormed f l = WellFormedIn latest f l
