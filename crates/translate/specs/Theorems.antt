-- What is proved of policies and the words of their files. Each statement is proved in proofs/ under the name given
-- behind it.
--
--   OnlyLaws       the file of a right policy is accepted, or refused for a broken law
--   FromRight      the policy that an accepted file is, is right
--   WordsSame      and its words are the file
use Rattle.std.specs.Prelude.{ℕ, ◌≡◌, ◌⊎◌, List, Ok, Err}
use Rattle.refusal.specs.Refusals.{law_broken, refusal_number}
use Rattle.refusal.specs.declared.Refusal.{Refusal}
use Rattle.policy.specs.Read.{read_of}
use Rattle.policy.specs.Parts.{layout_of_parts}
use Rattle.policy.specs.declared.Layout.{Layout}
use Rattle.notation.specs.Policy.{Entries}
use Rattle.notation.specs.Right.{RightEntries}
use Rattle.translate.specs.Words.{parts_of, words_of}
use Rattle.translate.specs.Names.{policy_of}

-- the file of a right policy is accepted with its layout, or refused for a broken law (only-laws)
abbrev pub OnlyLaws : Type 0
OnlyLaws = (p : Entries) → RightEntries p
    → (read_of (words_of p) ≡ Ok (layout_of_parts (parts_of p)))
    ⊎ ((r : Refusal) × (read_of (words_of p) ≡ Err r) × (refusal_number r ≡ law_broken))

-- the policy that an accepted file is, is right (from-right)
abbrev pub FromRight : Type 0
FromRight = (f : List ℕ) (l : Layout) → read_of f ≡ Ok l → RightEntries (policy_of f l)

-- and its words are the file (words-same)
abbrev pub WordsSame : Type 0
WordsSame = (f : List ℕ) (l : Layout) → read_of f ≡ Ok l → words_of (policy_of f l) ≡ f
