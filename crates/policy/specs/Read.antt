-- What reading a policy file of an edition answers, for every list of words: the first refusal in the order of the
-- stages, or the layout.
-- See docs/FORMAT.md, "The policy file" and "Numbers a caller can get back".
--
--   first_atom         where the first atom stands in a file of the newest edition
--   extra_fault        no words stand behind the last node (7)
--   whole_stages       once the sections are good: the end, the tree, the sum and the laws
--   stages, answer     all stages in order
--   Reading            what a file is read as
--   read_as, read_of   the answer, for an edition and for the newest
use Rattle.std.specs.Prelude.{ℕ, ◌+◌, List, [], ◌∷◌, Result, Ok, Err, length, drop, if◌then◌else◌, nat_le, nat_lt, slice_index}
use Rattle.words.specs.Records.{records}
use Rattle.policy.specs.Numbers.{latest, header_length_in, operator_length_in, atom_length_in, node_length, most_operators}
use Rattle.refusal.specs.declared.Reason.TheVariants.{ExtraWords}
use Rattle.refusal.specs.declared.Refusal.{Refusal}
use Rattle.policy.specs.Cells.{operator_rows}
use Rattle.policy.specs.declared.Edition.{Edition}
use Rattle.policy.specs.declared.Layout.{Layout}
use Rattle.policy.specs.declared.Section.TheVariants.{Operators, Atoms, Nodes}
use Rattle.policy.specs.Sections.{Test, unless, header_fault, section_fault, behind}
use Rattle.policy.specs.Whole.{shape_fault, sum_fault, laws_fault}

-- where the count of the atoms stands in a file of a operators
abbrev pub atoms_at_in : Edition → ℕ → ℕ
atoms_at_in e a = behind (header_length_in e) (Operators e) a

-- where the count of the nodes stands in a file of a operators and b atoms
abbrev pub nodes_at_in : Edition → ℕ → ℕ → ℕ
nodes_at_in e a b = behind (atoms_at_in e a) (Atoms e) b

-- where a file of a operators, b atoms and c nodes ends
abbrev pub end_in : Edition → ℕ → ℕ → ℕ → ℕ
end_in e a b c = behind (nodes_at_in e a b) (Nodes a) c

-- the operators of a file, each by its words
abbrev pub operators_in : Edition → List ℕ → ℕ → List (List ℕ)
operators_in e f a = records a (operator_length_in e) (drop (header_length_in e + 1) f)

-- the atoms
abbrev pub atoms_in : Edition → List ℕ → ℕ → ℕ → List (List ℕ)
atoms_in e f a b = records b (atom_length_in e) (drop (atoms_at_in e a + 1) f)

-- the nodes
abbrev pub nodes_in : Edition → List ℕ → ℕ → ℕ → ℕ → List (List ℕ)
nodes_in e f a b c = records c node_length (drop (nodes_at_in e a b + 1) f)

-- the same for the newest edition
abbrev pub atoms_at : ℕ → ℕ
atoms_at a = atoms_at_in latest a

abbrev pub nodes_at : ℕ → ℕ → ℕ
nodes_at a b = nodes_at_in latest a b

abbrev pub end_of : ℕ → ℕ → ℕ → ℕ
end_of a b c = end_in latest a b c

abbrev pub operator_records : List ℕ → ℕ → List (List ℕ)
operator_records f a = operators_in latest f a

abbrev pub atom_records : List ℕ → ℕ → ℕ → List (List ℕ)
atom_records f a b = atoms_in latest f a b

abbrev pub node_records : List ℕ → ℕ → ℕ → ℕ → List (List ℕ)
node_records f a b c = nodes_in latest f a b c

-- the word where the first atom stands, behind a operators and the count of the atoms; 0 if no file has so many
unfoldable pub first_atom : ℕ → ℕ
first_atom a = if nat_lt most_operators a then 0 else atoms_at a + 1

-- no words stand behind the end of a file
abbrev pub extra_fault : List ℕ → ℕ → Test
extra_fault f end = unless (nat_le (length f) end) ExtraWords end

-- what is tested once all three sections are good: the count of the operators stands at h, that of the nodes at q
unfoldable pub whole_stages : Edition → List ℕ → ℕ → ℕ → ℕ → ℕ → ℕ → List Test
whole_stages e f h a b c q =
    let ns : List (List ℕ) = records c node_length (drop (q + 1) f) in
    extra_fault f (behind q (Nodes a) c)
    ∷ shape_fault ns
    ∷ sum_fault ns b
    ∷ laws_fault ns (operator_rows e (records a (operator_length_in e) (drop (h + 1) f)))
    ∷ []

-- the stages of reading a file of a operators, b atoms and c nodes, in order
unfoldable pub stages : Edition → List ℕ → ℕ → ℕ → ℕ → List Test
stages e f a b c =
    header_fault e f
    ∷ section_fault f (header_length_in e) (Operators e)
    ∷ section_fault f (atoms_at_in e a) (Atoms e)
    ∷ section_fault f (nodes_at_in e a b) (Nodes a)
    ∷ whole_stages e f (header_length_in e) a b c (nodes_at_in e a b)

-- the layout of a file of a operators, b atoms and c nodes
abbrev pub layout : ℕ → ℕ → ℕ → Layout
layout a b c = record { operators = a; atoms = b; nodes = c }

-- what a file is read as: its layout, or a refusal
abbrev pub Reading : Type 0
Reading = Result Layout Refusal

-- the first refusal of some stages, or the layout
abbrev pub answer : List Test → Layout → Reading
answer [] l = Ok l
answer (Ok u ∷ ts) l = answer ts l
answer (Err r ∷ ts) l = Err r

-- WHAT READING ANSWERS, for each edition: the three counts are the words that stand in their places
unfoldable pub read_as : Edition → List ℕ → Reading
read_as e f =
    let a : ℕ = slice_index f (header_length_in e) in
    let b : ℕ = slice_index f (atoms_at_in e a) in
    let c : ℕ = slice_index f (nodes_at_in e a b) in
    answer (stages e f a b c) (layout a b c)

-- for the newest edition
abbrev pub read_of : List ℕ → Reading
read_of f = read_as latest f
