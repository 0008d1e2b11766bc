-- Laws of values that may be constrained, by the four cases of what is constrained. Assumes nothing.
use mathlib.Core.Path.{◌≡◌, refl, sym, ap, ◌∙◌}
use mathlib.Core.Bool.{Bool, true, false, ◌||◌, and-true, and_comm, false≢true}
use Prim.Native.Nat.{ℕ, zero, suc, ◌<◌}
use native.Mathlib.Omega.{arith}
use lib.Dec.{eqb}
use borrow.Author.Tests.{eqb-true, eq-eqb}
use Rattle.field.specs.Value.{meets_value, values_meet, value_inside, common_value, right_value}
use Rattle.field.specs.Theorems.{ValueBoth, ValueInsideExactly}
use Rattle.logic.specs.Tests.{Joins, Keeps}
use Rattle.logic.proofs.Tests.{and-under}

-- A NUMBER MEETS BOTH VALUES exactly when they meet and it meets both together
pub value-both : ValueBoth
unfolding meets_value values_meet
value-both true v true v' x =
    and_comm (eqb v x) (eqb v' x)
    ∙ and-under (eqb v' x) (eqb v' v) (eqb v x) (λ e. ap (λ (k : ℕ). eqb v' k) (sym (eqb-true v x e)))
value-both true v false v' x = and-true (eqb v x)
value-both false v on' v' x = refl

pub value-joins : (on : Bool) (v : ℕ) (on' : Bool) (v' x : ℕ)
    → Joins (meets_value on v x) (meets_value on' v' x) (values_meet on v on' v') (meets_value (on || on') (common_value on v v') x)
value-joins on v on' v' x = record { eq = value-both on v on' v' x }

-- a value meets itself
pub meets-own-value : (on : Bool) (v : ℕ) → meets_value on v v ≡ true
unfolding meets_value
meets-own-value true v = eq-eqb v v refl
meets-own-value false v = refl

-- two right values are right together
pub common-value-right : (on on' : Bool) (limit v v' : ℕ)
    → Keeps (right_value on limit v) (right_value on' limit v') (right_value (on || on') limit (common_value on v v'))
unfolding right_value
common-value-right true on' limit v v' = record { gives = λ p q. p }
common-value-right false on' limit v v' = record { gives = λ p q. q }

-- and below what both are below
pub common-value-below : (on : Bool) (limit v v' : ℕ) → v < limit → v' < limit → common_value on v v' < limit
common-value-below true limit v v' p q = p
common-value-below false limit v v' p q = q

-- where one value lies inside another, a number that meets the one meets the other; and lying inside goes on
pub value-meets : (on : Bool) (v : ℕ) (on' : Bool) (v' x : ℕ) → value_inside on v on' v' ≡ true → meets_value on v x ≡ true → meets_value on' v' x ≡ true
unfolding value_inside meets_value
value-meets on v false v' x h k = refl
value-meets true v true v' x h k = eq-eqb v' x (eqb-true v' v h ∙ eqb-true v x k)
value-meets false v true v' x h k = absurd (false≢true h)

pub value-trans : (on : Bool) (v : ℕ) (on' : Bool) (v' : ℕ) (on'' : Bool) (v'' : ℕ)
    → value_inside on v on' v' ≡ true → value_inside on' v' on'' v'' ≡ true → value_inside on v on'' v'' ≡ true
unfolding value_inside
value-trans on v on' v' false v'' h k = refl
value-trans true v true v' true v'' h k = eq-eqb v'' v (eqb-true v'' v' k ∙ eqb-true v' v h)
value-trans false v true v' true v'' h k = absurd (false≢true h)
value-trans on v false v' true v'' h k = absurd (false≢true k)

-- where one value lies inside another, it is constrained if the other is
pub value_on : (on : Bool) (v : ℕ) (on' : Bool) (v' : ℕ) → value_inside on v on' v' ≡ true → on' ≡ true → on ≡ true
unfolding value_inside
value_on true v on' v' h e = refl
value_on false v true v' h e = h
value_on false v false v' h e = e

-- two numbers tell that a value lies inside another: x, which it is where it is constrained, and y, which meets it too where it is not
pub value-told : (on : Bool) (v : ℕ) (on' : Bool) (v' x y : ℕ) → (on ≡ true → x ≡ v) → (on ≡ false → ¬ (x ≡ y))
    → meets_value on' v' x ≡ true → (on ≡ false → meets_value on' v' y ≡ true) → value_inside on v on' v' ≡ true
unfolding value_inside meets_value
value-told on v false v' x y own apart f g = refl
value-told true v true v' x y own apart f g = eq-eqb v' v (eqb-true v' x f ∙ own refl)
value-told false v true v' x y own apart f g = absurd (apart refl (sym (eqb-true v' x f) ∙ eqb-true v' y (g refl)))

-- every number meets a value that is not constrained
pub meets-free : (on : Bool) (v x : ℕ) → on ≡ false → meets_value on v x ≡ true
unfolding meets_value
meets-free on v x e = rw e

-- a number other than v, below two
abbrev other : ℕ → ℕ
other zero = 1
other (suc v) = 0

other_differs : (v : ℕ) → ¬ (v ≡ other v)
other_differs zero e = omega (arith, e)
other_differs (suc v) e = omega (arith, e)

other-below : (v : ℕ) → other v < 2
other-below zero = omega arith
other-below (suc v) = omega arith

-- ONE VALUE LIES INSIDE ANOTHER exactly when what meets it meets the other: v itself does, and if v is unconstrained another number too
pub value-inside-exactly : ValueInsideExactly
value-inside-exactly limit on v on' v' two below = (λ e x h m. value-meets on v on' v' x e m, found)
  where
    found : ((x : ℕ) → x < limit → meets_value on v x ≡ true → meets_value on' v' x ≡ true) → value_inside on v on' v' ≡ true
    found f =
        value-told on v on' v' v (other v) (λ _. refl) (λ _. other_differs v) (f v below (meets-own-value on v))
        (λ e. f (other v) (omega (arith, other-below v)) (meets-free on v (other v) e))
