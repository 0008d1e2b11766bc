-- An action and its two words say the same: by cases of the action, or of the kind where the words are right.
use Prim.Native.Nat.{ℕ, zero, suc, ◌<◌}
use native.Mathlib.Omega.{arith}
use mathlib.Core.Path.{◌≡◌, refl, sym}
use mathlib.Core.Logic.{⊎_elim}
use lib.Dec.{eqb, ltb}
use borrow.Author.Tests.{ltb-true, eqb-true}
use Rattle.logic.proofs.Tests.{and_left, and_right, or_split}
use Rattle.action.specs.Action.{gmb, kind_of, rate_of, action_of, right_rate, right_action, in_range}
use Rattle.action.specs.Theorems.{ActionOfWords, WordsOfAction, RightWords}
use Rattle.action.specs.declared.Action.TheVariants.{DontCare, Allow, Deny, Gmb}

pub action-of-words : ActionOfWords
unfolding action_of
action-of-words DontCare = refl
action-of-words Allow = refl
action-of-words Deny = refl
action-of-words (Gmb n) = refl

-- the kinds that have no rate
words-without-rate : (k n : ℕ) → k < gmb → n ≡ 0 → (kind_of (action_of k n) ≡ k) × (rate_of (action_of k n) ≡ n)
unfolding action_of
words-without-rate zero n h e = (refl, sym e)
words-without-rate (suc zero) n h e = (refl, sym e)
words-without-rate (suc (suc zero)) n h e = (refl, sym e)
words-without-rate (suc (suc (suc k))) n h e = absurd (omega arith)

pub words-of-action : WordsOfAction
unfolding right_action action_of
words-of-action k n h =
    ⊎_elim
    (λ l. words-without-rate k n (ltb-true k gmb (and_left (ltb k gmb) (eqb n 0) l)) (eqb-true n 0 (and_right (ltb k gmb) (eqb n 0) l)))
    (λ r. rw (eqb-true k gmb (and_left (eqb k gmb) (right_rate n) r)) (refl, refl))
    (or_split _ _ h)

pub right-words : RightWords
unfolding right_action in_range
right-words DontCare = refl
right-words Allow = refl
right-words Deny = refl
right-words (Gmb n) = refl
