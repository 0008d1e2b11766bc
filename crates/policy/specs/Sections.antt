-- What the sections of a policy file are refused with, for every list of words: the count, then the whole section, then
-- its records in order. See docs/FORMAT.md, "The policy file" and "Numbers a caller can get back".
--
--   Test                         what a test comes to: nothing, or a refusal
--   unless, _else_               a refusal where a test is not met; the first of two
--   each                         the first refusal of records, cells or operators in order
--   record_length, least, most   the words of a section's records; the fewest and the most that it may have
--   header_fault                 the header is the edition's
--   count_fault                  a section's count is there (1) and within its limits (2)
--   record_fault                 an operator's cells (3), an atom's match (4) and then its action (5), a node's words
--                                (6)
--   behind                       where a section ends: the next one's count stands there
--   section_fault                the count, then the whole section (1), then its records in order
use Rattle.std.specs.Prelude.{ℕ, ◌+◌, ◌*◌, Bool, ◌&&◌, List, [], ◌∷◌, Result, Ok, Err, length, drop, if◌then◌else◌, nat_le, nat_lt, slice_index, ⊤}
use Rattle.words.specs.Records.{records}
use Rattle.refusal.specs.Refusals.{refusal_at}
use Rattle.refusal.specs.declared.Reason.{Reason}
use Rattle.refusal.specs.declared.Reason.TheVariants.{ShortFile, WrongCount, WrongCell, WrongMatch, WrongAction, WrongNode}
use Rattle.refusal.specs.declared.Refusal.{Refusal}
use Rattle.policy.specs.Numbers.{operator_length_in, atom_length_in, node_length}
use Rattle.policy.specs.Numbers.{most_operators, most_atoms, most_nodes, most_children}
use Rattle.policy.specs.Atom.{right_atom_match, right_atom_action}
use Rattle.policy.specs.Cells.{right_cell_in}
use Rattle.policy.specs.declared.Edition.{Edition}
use Rattle.policy.specs.declared.Edition.TheVariants.{First}
use Rattle.policy.specs.declared.Section.{Section}
use Rattle.policy.specs.declared.Section.TheVariants.{Operators, Atoms, Nodes}

-- what a test comes to: nothing, or a refusal
abbrev pub Test : Type 0
Test = Result ⊤ Refusal

-- the refusal for a reason at a place, where a test is not met
abbrev pub unless : Bool → Reason → ℕ → Test
unless b why at = if b then Ok tt else Err (refusal_at why at)

-- the first of two refusals
abbrev pub ◌else◌ : Test → Test → Test
◌else◌ (Ok u) y = y
◌else◌ (Err r) y = Err r

-- the first refusal of members, such as records, that stand k apart from a place on
abbrev pub each : {X : Type 0} → (ℕ → X → Test) → ℕ → ℕ → List X → Test
each t at k [] = Ok tt
each t at k (x ∷ xs) = ◌else◌ (t at x) (each t (at + k) k xs)

-- the words of a section's records
abbrev pub record_length : Section → ℕ
record_length (Operators e) = operator_length_in e
record_length (Atoms e) = atom_length_in e
record_length (Nodes n) = node_length

-- the fewest records that a section may have
abbrev pub least : Section → ℕ
least (Operators e) = 1
least (Atoms e) = 0
least (Nodes n) = 1

-- the most records that a section may have
abbrev pub most : Section → ℕ
most (Operators e) = most_operators
most (Atoms e) = most_atoms
most (Nodes n) = most_nodes

-- the header of an edition: the first has none
abbrev pub header_fault : Edition → List ℕ → Test
header_fault First f = Ok tt

-- the count of a section is there, and within its limits
unfoldable pub count_fault : List ℕ → ℕ → Section → Test
count_fault f at s =
    ◌else◌ (unless (nat_lt at (length f)) ShortFile (length f))
    (unless (nat_le (least s) (slice_index f at) && nat_le (slice_index f at) (most s)) WrongCount at)

-- the cell j of an operator that stands at a place is right
abbrev pub cell_fault : Edition → ℕ → ℕ → ℕ → Test
cell_fault e at j c = unless (right_cell_in e j c) WrongCell (at + j)

-- the cells of an operator are right
unfoldable pub cells_fault : Edition → ℕ → List ℕ → Test
cells_fault e at r = each (cell_fault e at) 0 1 r

-- the match of an atom is right, then its action
unfoldable pub atom_fault : Edition → ℕ → List ℕ → Test
atom_fault e at r = ◌else◌ (unless (right_atom_match e r) WrongMatch at) (unless (right_atom_action e r) WrongAction at)

-- the words of a node: inner, parent and sibling operator indexes, own-atom count, child count
abbrev pub inner_of : List ℕ → ℕ
inner_of r = slice_index r 0

abbrev pub parent_of : List ℕ → ℕ
parent_of r = slice_index r 1

abbrev pub sibling_of : List ℕ → ℕ
sibling_of r = slice_index r 2

abbrev pub own_of : List ℕ → ℕ
own_of r = slice_index r 3

abbrev pub children_of : List ℕ → ℕ
children_of r = slice_index r 4

-- the operator indexes of a node are below the number of operators, its counts within their limits
unfoldable pub node_fault : ℕ → ℕ → List ℕ → Test
node_fault operators at r =
    unless
    (nat_lt (inner_of r) operators
    && nat_lt (parent_of r) operators
    && nat_lt (sibling_of r) operators
    && nat_le (own_of r) most_atoms
    && nat_le (children_of r) most_children)
    WrongNode
    at

-- a record of a section is right
abbrev pub record_fault : Section → ℕ → List ℕ → Test
record_fault (Operators e) at r = cells_fault e at r
record_fault (Atoms e) at r = atom_fault e at r
record_fault (Nodes n) at r = node_fault n at r

-- where a section of n records ends, whose count stands at a place
abbrev pub behind : ℕ → Section → ℕ → ℕ
behind at s n = at + 1 + record_length s * n

-- a section: its count, then the whole section, then its records in order
unfoldable pub section_fault : List ℕ → ℕ → Section → Test
section_fault f at s =
    let k : ℕ = record_length s in
    let n : ℕ = slice_index f at in
    ◌else◌ (count_fault f at s)
    (◌else◌ (unless (nat_le (behind at s n) (length f)) ShortFile (length f))
    (each (record_fault s) (at + 1) k (records n k (drop (at + 1) f))))
