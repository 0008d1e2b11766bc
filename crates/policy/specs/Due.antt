-- When a section is good, and which of the refusals 1 to 6 is due to it where several could be given, and at which
-- place, in the words of the format and not by the stages of reading: "count, then the whole section present, then
-- records in order (4 before 5)". See docs/FORMAT.md, "The policy file" and "Numbers a caller can get back".
--
--   Present                  a section: its count is there and within limits, and so are all its records
--   RightNode, RightHeader   a node's words are right; a file begins with the header of an edition
--   FirstWrong               the first place that is not right
--   RightRecord, record_at   a record of a section is right; the record at an index
--   Good                     a section is present, and all its records are right
--   RecordDue, SectionDue    which refusal is due to a wrong record, and to a section
--   HeaderDue                which refusal is due to a header
use Rattle.std.specs.Prelude.{ℕ, ◌+◌, ◌*◌, ◌≤◌, ◌<◌, ◌≡◌, true, false, List, [], ◌⊎◌, length, take, drop, slice_index, slice_index_or}
use Rattle.words.specs.Records.{records}
use Rattle.policy.specs.Numbers.{header_length_in, header_of, operator_length_in, most_atoms, most_children}
use Rattle.refusal.specs.declared.Reason.{Reason}
use Rattle.refusal.specs.declared.Reason.TheVariants.{ShortFile, WrongCount, WrongCell, WrongMatch, WrongAction, WrongNode}
use Rattle.policy.specs.Atom.{right_atom_match, right_atom_action}
use Rattle.policy.specs.Cells.{right_cell_in}
use Rattle.policy.specs.Sections.{record_length, least, most, inner_of, parent_of, sibling_of, own_of, children_of}
use Rattle.policy.specs.declared.Edition.{Edition}
use Rattle.policy.specs.declared.Edition.TheVariants.{First}
use Rattle.policy.specs.declared.Section.{Section}
use Rattle.policy.specs.declared.Section.TheVariants.{Operators, Atoms, Nodes}

-- the count at a place is n, from low to high, and the n records of k words behind it are there
pub record Present (f : List ℕ) (at low high k n : ℕ) : Type 0 where
  pub there : at < length f
  pub count : slice_index f at ≡ n
  pub least : low ≤ n
  pub most : n ≤ high
  pub whole : at + 1 + k * n ≤ length f

-- a node's operator indexes are below the number of operators, its counts within their limits
pub record RightNode (operators : ℕ) (r : List ℕ) : Type 0 where
  pub inner : inner_of r < operators
  pub parent : parent_of r < operators
  pub sibling : sibling_of r < operators
  pub own : own_of r ≤ most_atoms
  pub children : children_of r ≤ most_children

-- a file begins with the header of an edition
abbrev pub RightHeader : Edition → List ℕ → Type 0
RightHeader e f = take (header_length_in e) f ≡ header_of e

-- place i is the first below n that is not right
pub record FirstWrong (Right : ℕ → Type 0) (n i : ℕ) : Type 0 where
  pub within : i < n
  pub wrong : ¬ Right i
  pub before : (j : ℕ) → j < i → Right j

-- a record of a section is right: each cell of an operator, an atom's match and action, a node's indexes and counts
abbrev pub RightRecord : Section → List ℕ → Type 0
RightRecord (Operators e) r = (j : ℕ) → j < operator_length_in e → right_cell_in e j (slice_index r j) ≡ true
RightRecord (Atoms e) r = (right_atom_match e r ≡ true) × (right_atom_action e r ≡ true)
RightRecord (Nodes a) r = RightNode a r

-- record i of a section of n records whose count stands at a place
abbrev pub record_at : List ℕ → ℕ → Section → ℕ → ℕ → List ℕ
record_at f at s n i = slice_index_or (records n (record_length s) (drop (at + 1) f)) i []

-- a good section of n records whose count stands at a place: it is present, and each record is right
pub record Good (f : List ℕ) (at : ℕ) (s : Section) (n : ℕ) : Type 0 where
  pub present : Present f at (least s) (most s) (record_length s) n
  pub right : (i : ℕ) → i < n → RightRecord s (record_at f at s n i)

-- what is due to a wrong record r that begins at a place
pub data RecordDue (at : ℕ) (r : List ℕ) : Section → Reason → ℕ → Type 0 where
  -- an operator: 3 at the word of its first wrong cell
  cell : {e : Edition} {j : ℕ} → FirstWrong (λ i. right_cell_in e i (slice_index r i) ≡ true) (operator_length_in e) j
      → RecordDue at r (Operators e) WrongCell (at + j)
  -- an atom: 4 at its first word if its match is wrong, whatever its action is; 5 there if only its action is
  match : {e : Edition} → right_atom_match e r ≡ false → RecordDue at r (Atoms e) WrongMatch at
  action : {e : Edition} → right_atom_match e r ≡ true → right_atom_action e r ≡ false
      → RecordDue at r (Atoms e) WrongAction at
  -- a node: 6 at its first word, whichever of its words is wrong
  node : {a : ℕ} → ¬ RightNode a r → RecordDue at r (Nodes a) WrongNode at

-- what is due to a section whose count stands at a place: "count, then the whole section present, then records in
-- order"
pub data SectionDue (f : List ℕ) (at : ℕ) (s : Section) : Reason → ℕ → Type 0 where
  -- the file ends before the count: 1 at the file's word count
  no_count : length f ≤ at → SectionDue f at s ShortFile (length f)
  -- the count is beyond its limits, whatever follows it: 2 at its word
  beyond : at < length f → (slice_index f at < least s) ⊎ (most s < slice_index f at) → SectionDue f at s WrongCount at
  -- the file ends inside the section, whatever is there of it: 1 at the file's word count
  cut : at < length f → least s ≤ slice_index f at → slice_index f at ≤ most s
      → length f < at + 1 + record_length s * slice_index f at
      → SectionDue f at s ShortFile (length f)
  -- the whole section is present: what is due to its first wrong record
  wrong_record : {n i place : ℕ} {why : Reason} → Present f at (least s) (most s) (record_length s) n
      → FirstWrong (λ j. RightRecord s (record_at f at s n j)) n i
      → RecordDue (at + 1 + record_length s * i) (record_at f at s n i) s why place
      → SectionDue f at s why place

-- what is due to a header: that of the first edition has no words, and nothing is
abbrev pub HeaderDue : Edition → List ℕ → Reason → ℕ → Type 0
HeaderDue First f why at = ⊥
