-- The numbers of a policy file, each named once: how many words a record has in each edition, how many records and how
-- deep. See docs/FORMAT.md, "The policy file".
--
--   latest                                                           the newest edition
--   header_length_in, header_of                                      the words before the first count
--   operator_length_in, atom_length_in                               the words of records, by edition; without In those
--                                                                    of the newest
--   node_length, first_operator                                      the words of a node; the place of the first
--                                                                    operator
--   longest_file                                                     the words of the longest file
--   most_operators, most_atoms, most_nodes, most_children, deepest   limits
use Rattle.std.specs.Prelude.{ℕ, ◌+◌, ◌*◌, List, []}
use Rattle.action.specs.Operator.{cell_count}
use Rattle.row.specs.Row.{row_length}
use Rattle.policy.specs.declared.Edition.{Edition}
use Rattle.policy.specs.declared.Edition.TheVariants.{First}

-- the newest edition
abbrev pub latest : Edition
latest = First

-- the words before the first count
abbrev pub header_length_in : Edition → ℕ
header_length_in First = 0

-- those words
abbrev pub header_of : Edition → List ℕ
header_of First = []

-- the words of an operator: its cells
abbrev pub operator_length_in : Edition → ℕ
operator_length_in First = cell_count

-- the words of an atom: a match, then an action
abbrev pub atom_length_in : Edition → ℕ
atom_length_in First = row_length

-- the same for the newest edition
abbrev pub header_length : ℕ
header_length = header_length_in latest

abbrev pub operator_length : ℕ
operator_length = operator_length_in latest

abbrev pub atom_length : ℕ
atom_length = atom_length_in latest

-- where the first operator stands, behind the count of the operators
abbrev pub first_operator : ℕ
first_operator = header_length + 1

-- the words of a node: inner, parent and sibling operator indexes, own-atom count, child count
abbrev pub node_length : ℕ
node_length = 5

-- at most so many operators, and at least 1
abbrev pub most_operators : ℕ
most_operators = 32

-- at most so many atoms, in the file and in a node
abbrev pub most_atoms : ℕ
most_atoms = 1024

-- at most so many nodes, and at least 1
abbrev pub most_nodes : ℕ
most_nodes = 256

-- at most so many children of a node
abbrev pub most_children : ℕ
most_children = 255

-- the words of the longest file: three counts, and three full sections
abbrev pub longest_file : ℕ
longest_file =
    header_length + 3 + operator_length * most_operators + atom_length * most_atoms + node_length * most_nodes

-- the deepest that a node may stand; the root has depth 1
abbrev pub deepest : ℕ
deepest = 16
