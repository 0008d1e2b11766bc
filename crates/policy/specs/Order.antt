-- Which of the refusals 1 to 9 a file gets where several could be given, and at which place, in the words of the format
-- and not by the stages of `read_as`: "Reading goes section by section: count, then the whole section present, then
-- records in order (4 before 5); then 7, 8, 9, 10. In 8, nodes go in order: first whether the tree had already ended,
-- then depth." What is due to a section stands in Due.antt beside this file, and what place a tree has for a node in
-- Meaning.antt. See docs/FORMAT.md, "The policy file" and "Numbers a caller can get back".
--
--   child_counts_in   the child counts of the nodes of a file of an edition
--   GoodSections      the header and all three sections are good
--   Due e f why at    the refusal for a reason at a place is due to the file f of the edition e
--   FileOrder         a file of any edition gets the refusal that is due
use Rattle.std.specs.Prelude.{ℕ, ◌<◌, ◌≡◌, false, List, map, ◌↔◌, length, Err}
use Rattle.refusal.specs.Refusals.{law_broken, reason_number, refusal_at}
use Rattle.refusal.specs.declared.Reason.{Reason}
use Rattle.refusal.specs.declared.Reason.TheVariants.{ExtraWords, NoTree, WrongSum}
use Rattle.policy.specs.Numbers.{header_length_in}
use Rattle.policy.specs.Sections.{children_of}
use Rattle.policy.specs.Whole.{own_atoms}
use Rattle.policy.specs.Read.{read_as, atoms_at_in, nodes_at_in, end_in, nodes_in}
use Rattle.policy.specs.File.{file_nodes_in}
use Rattle.policy.specs.Due.{RightHeader, FirstWrong, Good, SectionDue, HeaderDue}
use Rattle.policy.specs.Meaning.{OneTree, ended, HasPlace}
use Rattle.policy.specs.WellFormed.{OtherwiseIn}
use Rattle.policy.specs.declared.Edition.{Edition}
use Rattle.policy.specs.declared.Section.TheVariants.{Operators, Atoms, Nodes}

-- the child counts of the nodes of a file of an edition
abbrev pub child_counts_in : Edition → List ℕ → ℕ → ℕ → ℕ → List ℕ
child_counts_in e f a b c = map children_of (nodes_in e f a b c)

-- the header and all three sections are good: a operators, b atoms and c nodes
pub record GoodSections (e : Edition) (f : List ℕ) (a b c : ℕ) : Type 0 where
  pub header : RightHeader e f
  pub operators : Good f (header_length_in e) (Operators e) a
  pub atoms : Good f (atoms_at_in e a) (Atoms e) b
  pub nodes : Good f (nodes_at_in e a b) (Nodes a) c

-- WHICH REFUSAL IS DUE to a file of an edition: its reason and its place
pub data Due (e : Edition) (f : List ℕ) : Reason → ℕ → Type 0 where
  in_header : {why : Reason} {at : ℕ} → HeaderDue e f why at → Due e f why at
  -- "Reading goes section by section": a section's refusal, where the header and the sections before it are good
  in_operators : {why : Reason} {at : ℕ} → RightHeader e f → SectionDue f (header_length_in e) (Operators e) why at
      → Due e f why at
  in_atoms : {a at : ℕ} {why : Reason} → RightHeader e f → Good f (header_length_in e) (Operators e) a
      → SectionDue f (atoms_at_in e a) (Atoms e) why at → Due e f why at
  in_nodes : {a b at : ℕ} {why : Reason} → RightHeader e f → Good f (header_length_in e) (Operators e) a
      → Good f (atoms_at_in e a) (Atoms e) b → SectionDue f (nodes_at_in e a b) (Nodes a) why at → Due e f why at
  -- "then 7": words after the last node; the first of them
  extra : {a b c : ℕ} → GoodSections e f a b c → end_in e a b c < length f → Due e f ExtraWords (end_in e a b c)
  -- "8": the first node that the tree has no place for; its index
  no_place : {a b c i : ℕ} → GoodSections e f a b c → length f ≡ end_in e a b c
      → FirstWrong (HasPlace (child_counts_in e f a b c)) c i → Due e f NoTree i
  -- every node has its place and children are missing; the node count
  missing : {a b c : ℕ} → GoodSections e f a b c → length f ≡ end_in e a b c
      → ((i : ℕ) → i < c → HasPlace (child_counts_in e f a b c) i) → ended (child_counts_in e f a b c) ≡ false
      → Due e f NoTree c
  -- "9": the nodes are one tree, and their own-atom counts do not add up to the atoms; place 0
  sum : {a b c : ℕ} → GoodSections e f a b c → length f ≡ end_in e a b c
      → OneTree (file_nodes_in e f (record { operators = a; atoms = b; nodes = c }))
      → ¬ (own_atoms (nodes_in e f a b c) ≡ b) → Due e f WrongSum 0

-- THE ORDER OF REFUSALS 1 TO 9, in a file of any edition (file-order)
pub record FileOrder : Type 0 where
  -- a file gets the refusal that is due, and without a law none but that
  pub due : (e : Edition) (f : List ℕ) (why : Reason) (at : ℕ) → ¬ (reason_number why ≡ law_broken)
      → (read_as e f ≡ Err (refusal_at why at)) ↔ Due e f why at
  -- "10" comes last: where none of these is due the file is well formed but for the laws
  pub last : (e : Edition) (f : List ℕ) → ((why : Reason) (at : ℕ) → ¬ Due e f why at)
      → (a : ℕ) × (b : ℕ) × (c : ℕ) × OtherwiseIn e f a b c
