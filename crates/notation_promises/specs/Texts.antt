-- What is promised of texts in the notation, of all bytes: each has one answer, the grammar says which texts are
-- policies and which policy each is, and what is printed, or turned into words and back, is the same. See
-- docs/NOTATION.md.
--
--   Accepted, OnePolicy     the texts that are read are those of the grammar, and no text is two policies
--   Same p q                two policies are the same but for places
--   Printed                 the canonical text of a right policy is that policy, and no other
--   Kept f                  a file that is accepted, turned into text and back, is the same words
--   OnlyLaws                what a text gives is a file that is accepted, or refused for a broken law and for nothing
--                           else
--   FaultPlace              a fault's place lies in the text, in a line and a column of it
--   Stands text name at     the bytes of a text at a place are a name
--   IsBuiltin o             an operator is there from the start, so that no word need name it
--   AllStand text p         a policy's names and labels stand at their places, but for those of such operators
--   PlacesStand             so do those of what is read
--   WordFound (faults)      what a message shows as found is the word of the text that stands there
--   WordsExactly            what a word says is read exactly where it is written
--   TextsPromised           all of these
use Rattle.std.specs.Prelude.{ℕ, ◌+◌, ◌≤◌, ◌<◌, ◌≡◌, true, List, ◌↔◌, ◌⊎◌, Ok, Err, length, take, drop, is_some}
use Rattle.logic.specs.Lists.{All}
use Rattle.tokens.specs.Place.{IsPlace, place_of}
use Rattle.refusal.specs.Refusals.{law_broken, refusal_number}
use Rattle.refusal.specs.declared.Refusal.{Refusal}
use Rattle.policy.specs.Parts.{layout_of_parts}
use Rattle.policy.specs.Read as policy
use Rattle.policy.specs.declared.Layout.{Layout}
use Rattle.values.specs.Grammar.{NumberExactly, PrefixExactly, HostBitsExactly, UnitExactly, ProtocolExactly, CodeExactly, NameNotOwn}
use Rattle.notation.specs.declared.fault.Fault.{Fault}
use Rattle.notation.specs.Policy.{OperatorEntry, RuleEntry, NodeEntry, Entries}
use Rattle.notation.specs.Operators.{builtin_of}
use Rattle.notation.specs.Right.{RightEntries, bare}
use Rattle.notation.specs.Nodes.{read_of}
use Rattle.notation.specs.Meaning.{IsText}
use Rattle.faults.specs.Theorems.{WordFound}
use Rattle.canon.specs.Text.{canonical}
use Rattle.translate.specs.Words.{parts_of, words_of}
use Rattle.translate.specs.Names.{policy_of}

-- two policies are the same but for the places of their names
abbrev pub Same : Entries → Entries → Type 0
Same p q = bare p ≡ bare q

-- a text is read as a policy without places
abbrev pub IsRead : List ℕ → Entries → Type 0
IsRead text p = (q : Entries) × (read_of text ≡ Ok q) × (bare q ≡ p)

-- the texts that are read are exactly those of the grammar, each as the policy that it is there
abbrev pub Accepted : Type 0
Accepted = (text : List ℕ) (p : Entries) → IsRead text p ↔ IsText text p

-- no text is two policies
abbrev pub OnePolicy : Type 0
OnePolicy = (text : List ℕ) (p q : Entries) → IsText text p → IsText text q → p ≡ q

-- what is read can be given
abbrev pub ReadRight : Type 0
ReadRight = (text : List ℕ) (p : Entries) → read_of text ≡ Ok p → RightEntries p

-- the canonical text of a policy is read as that policy
abbrev pub Printed : Type 0
Printed = (p : Entries) → RightEntries p → (q : Entries) × (read_of (canonical p) ≡ Ok q) × Same q p

-- and is that of no other one
abbrev pub PrintedOnce : Type 0
PrintedOnce = (p q : Entries) → RightEntries p → RightEntries q → canonical p ≡ canonical q → Same p q

-- a file that is accepted, turned into text and back, is the same words
abbrev pub Kept : Type 0
Kept = (f : List ℕ) (l : Layout) → policy.read_of f ≡ Ok l
    → (q : Entries) × (read_of (canonical (policy_of f l)) ≡ Ok q) × (words_of q ≡ f)

-- the file of a text is accepted
abbrev pub IsAccepted : Entries → Type 0
IsAccepted p = policy.read_of (words_of p) ≡ Ok (layout_of_parts (parts_of p))

-- or refused for a broken law, whose operator is one of the text's
pub record IsLawless (p : Entries) : Type 0 where
  pub refusal : Refusal
  pub given : policy.read_of (words_of p) ≡ Err refusal
  pub law : refusal_number refusal ≡ law_broken
  pub operator : refusal.place < length p.operators

abbrev pub OnlyLaws : Type 0
OnlyLaws = (text : List ℕ) (p : Entries) → read_of text ≡ Ok p → IsAccepted p ⊎ IsLawless p

-- a fault's place lies in the text
abbrev pub FaultPlace : Type 0
FaultPlace = (text : List ℕ) (f : Fault) → read_of text ≡ Err f
    → (f.at ≤ length text) × IsPlace text f.at (place_of text f.at)

-- the bytes of a text at a place are a name
abbrev pub Stands : List ℕ → List ℕ → ℕ → Type 0
Stands text name at = (at + length name ≤ length text) × (name ≡ take (length name) (drop at text))

-- an operator is one of the two that are there from the start
abbrev pub IsBuiltin : OperatorEntry → Type 0
IsBuiltin o = is_some (builtin_of o.name) ≡ true

-- an operator's name stands at its place, unless it is there from the start: where no word names it, its place is that
-- of the node which uses it
abbrev pub OperatorStands : List ℕ → OperatorEntry → Type 0
OperatorStands text o = Stands text o.name o.at ⊎ IsBuiltin o

-- a rule's label stands at its place
abbrev pub RuleStands : List ℕ → RuleEntry → Type 0
RuleStands text r = Stands text r.label r.at

-- a node's name stands at its place, and its rules' labels stand at theirs
abbrev pub NodeStands : List ℕ → NodeEntry → Type 0
NodeStands text n = Stands text n.name n.at × All (RuleStands text) n.rules

-- all names and labels of a policy stand at their places
pub record AllStand (text : List ℕ) (p : Entries) : Type 0 where
  pub operators : All (OperatorStands text) p.operators
  pub nodes : All (NodeStands text) p.nodes

-- what is read stands where it is said to stand
abbrev pub PlacesStand : Type 0
PlacesStand = (text : List ℕ) (p : Entries) → read_of text ≡ Ok p → AllStand text p

-- what a single word says is read exactly where it is written: numbers, prefixes but for host bits, units, protocols
-- and cells; and no name is a word of the notation
pub record WordsExactly : Type 0 where
  pub numbers : NumberExactly
  pub prefixes : PrefixExactly
  pub host_bits : HostBitsExactly
  pub units : UnitExactly
  pub protocols : ProtocolExactly
  pub codes : CodeExactly
  pub names : NameNotOwn

-- WHAT IS PROMISED OF TEXTS
pub record TextsPromised : Type 0 where
  pub accepted : Accepted
  pub one_policy : OnePolicy
  pub read_right : ReadRight
  pub printed : Printed
  pub printed_once : PrintedOnce
  pub kept : Kept
  pub only_laws : OnlyLaws
  pub fault_place : FaultPlace
  pub places : PlacesStand
  pub word_found : WordFound
  pub words_exactly : WordsExactly
