-- What is proved of reading, but for the order of its refusals, which stands in Order.antt. Each statement is proved in
-- proofs/ under the name given behind it; one of all editions (As) is said once more of the newest.
--
--   AcceptedAs, AcceptedExactly            a file is accepted exactly when it is well formed
--   FileTree, AcceptedTree                 the nodes of an accepted file are one tree
--   AcceptedAtoms                          every atom belongs to one node
--   BrokenLaw, RefusedLaw, BrokenRefused   what 10 says of a file, and that it is given wherever a law is broken
--   RefusedPlain                           every other refusal names no law
--   PartsAccepted, AcceptedParts           a file is accepted exactly when its parts are right and lawful
--   PartsWhole, PartsRead                  a file is what its parts make, and has the parts that it is made of
--   PartsSame                              parts of the right lengths that make one file are the same
use Rattle.std.specs.Prelude.{ℕ, ◌≤◌, ◌<◌, ◌≡◌, true, List, ◌↔◌, Ok, Err, None}
use Rattle.theory.specs.Tree.{bare, ◌▸◌, depth}
use Rattle.theory.specs.Nodes.{plant, list_tree, all_atoms}
use Rattle.action.specs.Laws.{Shows}
use Rattle.refusal.specs.Refusals.{law_broken, failure_of, refusal_number}
use Rattle.refusal.specs.declared.Reason.TheVariants.{LawBroken}
use Rattle.action.specs.declared.LawFailure.{LawFailure}
use Rattle.refusal.specs.declared.Refusal.{Refusal}
use Rattle.policy.specs.Numbers.{latest, deepest}
use Rattle.policy.specs.Read.{operators_in, nodes_in, operator_records, node_records, layout, read_as, read_of}
use Rattle.policy.specs.Whole.{named}
use Rattle.policy.specs.Cells.{operator_rows}
use Rattle.policy.specs.Meaning.{operator_at, LawsKept, KeepsLaws}
use Rattle.policy.specs.File.{atoms_of, file_nodes, tree_of}
use Rattle.policy.specs.WellFormed.{OtherwiseIn, Otherwise, WellFormedIn, WellFormed}
use Rattle.policy.specs.Parts.{Parts, file_words_in, parts_in, layout_of_parts}
use Rattle.policy.specs.Parts.{LongPartsIn, RightPartsIn, LawfulPartsIn}
use Rattle.policy.specs.declared.Edition.{Edition}
use Rattle.policy.specs.declared.Layout.{Layout}

-- a file is accepted exactly when it is well formed (accepted-as, accepted-exactly)
abbrev pub AcceptedAs : Type 0
AcceptedAs = (e : Edition) (f : List ℕ) (l : Layout) → (read_as e f ≡ Ok l) ↔ WellFormedIn e f l

abbrev pub AcceptedExactly : Type 0
AcceptedExactly = (f : List ℕ) (l : Layout) → (read_of f ≡ Ok l) ↔ WellFormed f l

-- the nodes of an accepted file are one tree, and that tree's nodes in file order are the file's (accepted-tree)
pub record FileTree (f : List ℕ) (l : Layout) : Type 0 where
  pub planted : plant (file_nodes f l) ≡ tree_of f l ▸ bare
  pub lists : list_tree (tree_of f l) ≡ file_nodes f l
  pub shallow : depth (tree_of f l) ≤ deepest

abbrev pub AcceptedTree : Type 0
AcceptedTree = (f : List ℕ) (l : Layout) → read_of f ≡ Ok l → FileTree f l

-- every atom of an accepted file belongs to exactly one node: the nodes' atoms, one node's behind the other's, are the
-- file's (accepted-atoms)
abbrev pub AcceptedAtoms : Type 0
AcceptedAtoms = (f : List ℕ) (l : Layout) → read_of f ≡ Ok l → all_atoms (file_nodes f l) ≡ atoms_of f l

-- a file otherwise well formed, in which the operator that a refusal names by its place is used inside a node or
-- between siblings and breaks the law that it names, at the actions that it shows; the operators before it that are
-- used so keep the laws
pub record BrokenLawIn (e : Edition) (f : List ℕ) (r : Refusal) : Type 0 where
  pub operators : ℕ
  pub atoms : ℕ
  pub nodes : ℕ
  pub otherwise : OtherwiseIn e f operators atoms nodes
  pub within : r.place < operators
  pub used : named r.place (nodes_in e f operators atoms nodes) ≡ true
  pub failure : LawFailure
  pub reason : r.reason ≡ LawBroken failure
  pub shows : Shows (operator_at (operator_rows e (operators_in e f operators)) r.place) failure
  pub first_such : (i : ℕ) → i < r.place → named i (nodes_in e f operators atoms nodes) ≡ true
      → KeepsLaws (operator_at (operator_rows e (operators_in e f operators)) i)

abbrev pub BrokenLaw : List ℕ → Refusal → Type 0
BrokenLaw f r = BrokenLawIn latest f r

-- the refusal for a broken law says so (refused-law-as, refused-law), and is given wherever one is broken in a file
-- otherwise well formed (broken-refused-as, broken-refused)
abbrev pub RefusedLawAs : Type 0
RefusedLawAs = (e : Edition) (f : List ℕ) (r : Refusal) → read_as e f ≡ Err r → refusal_number r ≡ law_broken
    → BrokenLawIn e f r

abbrev pub RefusedLaw : Type 0
RefusedLaw = (f : List ℕ) (r : Refusal) → read_of f ≡ Err r → refusal_number r ≡ law_broken → BrokenLaw f r

abbrev pub BrokenRefusedAs : Type 0
BrokenRefusedAs = (e : Edition) (f : List ℕ) (a b c : ℕ) → OtherwiseIn e f a b c
    → ¬ LawsKept (operator_rows e (operators_in e f a)) (nodes_in e f a b c)
    → (r : Refusal) × (read_as e f ≡ Err r) × (refusal_number r ≡ law_broken)

abbrev pub BrokenRefused : Type 0
BrokenRefused = (f : List ℕ) (a b c : ℕ) → Otherwise f a b c → ¬ LawsKept (operator_records f a) (node_records f a b c)
    → (r : Refusal) × (read_of f ≡ Err r) × (refusal_number r ≡ law_broken)

-- every other refusal has a number below it, and names no law (refused-plain-as, refused-plain)
abbrev pub RefusedPlainAs : Type 0
RefusedPlainAs = (e : Edition) (f : List ℕ) (r : Refusal) → read_as e f ≡ Err r → ¬ (refusal_number r ≡ law_broken)
    → (1 ≤ (refusal_number r)) × (refusal_number r < law_broken) × (failure_of r.reason ≡ None)

abbrev pub RefusedPlain : Type 0
RefusedPlain = (f : List ℕ) (r : Refusal) → read_of f ≡ Err r → ¬ (refusal_number r ≡ law_broken)
    → (1 ≤ (refusal_number r)) × (refusal_number r < law_broken) × (failure_of r.reason ≡ None)

-- the file that right and lawful parts make is accepted, with their layout (parts-accepted)
abbrev pub PartsAccepted : Type 0
PartsAccepted = (e : Edition) (P : Parts) → RightPartsIn e P → LawfulPartsIn e P
    → read_as e (file_words_in e P) ≡ Ok (layout_of_parts P)

-- and an accepted file's parts are right and lawful (accepted-parts)
abbrev pub AcceptedParts : Type 0
AcceptedParts = (e : Edition) (f : List ℕ) (l : Layout) → read_as e f ≡ Ok l
    → RightPartsIn e (parts_in e f l) × LawfulPartsIn e (parts_in e f l)

-- a file well formed but for the laws is what its parts make (parts_whole)
abbrev pub PartsWhole : Type 0
PartsWhole = (e : Edition) (f : List ℕ) (a b c : ℕ) → OtherwiseIn e f a b c
    → file_words_in e (parts_in e f (layout a b c)) ≡ f

-- and the file that right parts make has these parts (parts-read)
abbrev pub PartsRead : Type 0
PartsRead = (e : Edition) (P : Parts) → RightPartsIn e P → parts_in e (file_words_in e P) (layout_of_parts P) ≡ P

-- parts of the right lengths that make one file are the same, whatever their words are (parts-same)
abbrev pub PartsSame : Type 0
PartsSame = (e : Edition) (P Q : Parts) → LongPartsIn e P → LongPartsIn e Q → file_words_in e P ≡ file_words_in e Q
    → P ≡ Q
