-- The cases of a kind below GMB's or GMB's, and of a rate of 0 or more, tell the same.
use Rattle.std.proofs.Common.{ℕ, ◌≡◌, sym, ap, ◌∙◌, Bool, true, false, not, ◌&&◌, ◌||◌, eqb, leb, ltb, arith}
use mathlib.Core.Path.{refl}
use mathlib.Core.Bool.{beq, and-true, and-false, or-true, false≢true}
use mathlib.Core.Logic.{⊎_elim}
use borrow.Author.Tests.{eqb-true, eqb-false, leb-true, le-leb, ltb-true, lt-ltb}
use Rattle.logic.proofs.Tests.{by-test, same_test, or_split}
use Rattle.action.specs.Action.{gmb, largest_rate, right_rate, right_action}
use Rattle.action.proofs.Action.right_words.Goals as goal

-- at most m is below it or it
up_to : (k m : ℕ) → leb k m ≡ (ltb k m || eqb k m)
up_to k m =
    same_test (leb k m) (ltb k m || eqb k m)
    (λ h. by-test (eqb k m) (λ e. ap (λ (t : Bool). ltb k m || t) e ∙ or-true (ltb k m))
    (λ f. ap (λ (t : Bool). t || eqb k m) (lt-ltb k m (omega (arith, leb-true k m h, eqb-false k m f)))))
    (λ h. ⊎_elim (λ l. le-leb k m (omega (arith, ltb-true k m l))) (λ e. le-leb k m (omega (arith, eqb-true k m e))) (or_split (ltb k m) (eqb k m) h))

-- at least 1 is not 0
from_one : (n : ℕ) → leb 1 n ≡ not (eqb n 0)
from_one n =
    by-test (eqb n 0)
    (λ e. by-test (leb 1 n) (λ t. absurd (omega (arith, leb-true 1 n t, eqb-true n 0 e))) (λ f. f) ∙ sym (ap not e))
    (λ f. le-leb 1 n (omega (arith, eqb-false n 0 f)) ∙ sym (ap not f))

-- by whether the kind is below GMB's, whether it is that, whether the rate is 0, and whether it is small enough
by_cases : (b g z s : Bool) → (b ≡ true → g ≡ false) → (z ≡ true → s ≡ true)
    → ((b || g) && s && beq g (not z)) ≡ ((b && z) || (g && (not z && s)))
by_cases true true z s apart small = absurd (false≢true (sym (apart refl)))
by_cases true false true s apart small = and-true s ∙ small refl
by_cases true false false s apart small = and-false s
by_cases false true true s apart small = and-false s
by_cases false true false s apart small = and-true s
by_cases false false z s apart small = refl

told : (k n : ℕ) → (leb k gmb && leb n largest_rate && beq (eqb k gmb) (not (eqb n 0))) ≡ ((ltb k gmb && eqb n 0) || (eqb k gmb && right_rate n))
told k n =
    ap (λ (t : Bool). t && leb n largest_rate && beq (eqb k gmb) (not (eqb n 0))) (up_to k gmb)
    ∙ by_cases (ltb k gmb) (eqb k gmb) (eqb n 0) (leb n largest_rate)
    (λ b. by-test (eqb k gmb) (λ g. absurd (omega (arith, ltb-true k gmb b, eqb-true k gmb g))) (λ f. f))
    (λ z. le-leb n largest_rate (omega (arith, eqb-true n 0 z)))
    ∙ sym (ap (λ (t : Bool). (ltb k gmb && eqb n 0) || (eqb k gmb && (t && leb n largest_rate))) (from_one n))

pub returns : goal.returns
unfolding right_action
returns c = told c.args.kind c.args.rate
