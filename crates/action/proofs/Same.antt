-- The test of equal actions, against their equality.
use Prim.Native.Nat.{ℕ}
use native.Mathlib.Omega.{arith}
use mathlib.Core.Path.{◌≡◌, sym, ap, ap₂, ◌∙◌}
use mathlib.Core.Bool.{true, false}
use lib.Dec.{eqb}
use borrow.Author.Tests.{eqb-true, eq-eqb}
use Rattle.logic.proofs.Tests.{and_left, and_right, and_both}
use Rattle.action.specs.Action.{kind_of, rate_of, action_of}
use Rattle.action.specs.Laws.{same}
use Rattle.action.specs.declared.Action.{Action}
use Rattle.action.proofs.Words.{action-of-words}

pub same-eq : (a b : Action) → same a b ≡ true → a ≡ b
same-eq a b t =
    let k : kind_of a ≡ kind_of b = eqb-true _ _ (and_left (eqb (kind_of a) (kind_of b)) (eqb (rate_of a) (rate_of b)) t) in
    let n : rate_of a ≡ rate_of b = eqb-true _ _ (and_right (eqb (kind_of a) (kind_of b)) (eqb (rate_of a) (rate_of b)) t) in
    sym (action-of-words a) ∙ ap₂ action_of k n ∙ action-of-words b

pub eq-same : (a b : Action) → a ≡ b → same a b ≡ true
eq-same a b e = and_both (eq-eqb _ _ (ap kind_of e)) (eq-eqb _ _ (ap rate_of e))

pub unequal : (x y : Action) → same x y ≡ false → ¬ (x ≡ y)
unequal x y t e = let z : ◌≡◌ {A = ℕ} 0 1 = cc (eq-same x y e) in omega arith
