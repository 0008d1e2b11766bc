-- Joining keeps actions in range, under right codes: a plain code gives one of the two whole or no rate, and in the ninth cell the larger, the smaller and
-- the sum cut off at the largest are rates again; by the code.
use Prim.Native.Nat.{ℕ, ◌≤◌, ◌<◌, max, min}
use native.Mathlib.Omega.{arith}
use mathlib.Core.Path.{◌≡◌, refl}
use mathlib.Core.Bool.{true}
use lib.ListN.{get_or}
use lib.Dec.{leb}
use borrow.Author.Tests.{leb-true, le-leb}
use Rattle.logic.proofs.Tests.{and_left, and_right, and_both}
use Rattle.action.specs.Action.{rate_of, largest_rate, right_rate, in_range}
use Rattle.action.specs.Operator.{cell, rate_cell, largest_code, largest_rate_code, added, coded}
use Rattle.action.specs.Theorems.{JoinInRange}
use Rattle.action.specs.declared.Action.{Action}
use Rattle.action.specs.declared.Action.TheVariants.{Gmb}
use Rattle.action.proofs.Joined.{identity}
use Rattle.action.proofs.Codes.{by-plain, by-rates, by-care, by-cell, join-cell}

-- what a plain code gives is in range
coded-range : (c : ℕ) (a b : Action) → in_range a ≡ true → in_range b ≡ true → c ≤ largest_code → in_range (coded c a b) ≡ true
unfolding coded in_range
coded-range c a b p q h = by-plain (λ c. in_range (coded c a b) ≡ true) refl refl refl p q c h

pub rate-in : (m : ℕ) → right_rate m ≡ true → (1 ≤ m) × (m ≤ largest_rate)
rate-in m e = (leb-true 1 m (and_left _ _ e), leb-true m largest_rate (and_right (leb 1 m) _ e))

pub in-rate : (m : ℕ) → 1 ≤ m → m ≤ largest_rate → right_rate m ≡ true
in-rate m p q = and_both (le-leb 1 m p) (le-leb m largest_rate q)

-- the larger and the smaller of two rates, and their sum up to the largest
rate-range : (c m n : ℕ) → right_rate m ≡ true → right_rate n ≡ true → largest_code < c → c ≤ largest_rate_code → in_range (coded c (Gmb m) (Gmb n)) ≡ true
unfolding coded in_range
rate-range c m n p q l h =
    let a = rate-in m p in
    let b = rate-in n q in
    by-rates (λ c. in_range (coded c (Gmb m) (Gmb n)) ≡ true)
    (in-rate (max m n) (omega (arith, a.0, b.0)) (omega (arith, a.1, b.1)))
    (in-rate (min m n) (omega (arith, a.0, b.0)) (omega (arith, a.1, b.1)))
    (in-rate (added m n) (omega (arith, a.0, b.0)) (omega arith))
    c l h

-- JOINING RATES IN RANGE NEVER MAKES ONE OUTSIDE IT
pub join-range : JoinInRange
unfolding in_range
join-range o r a b p q =
    by-care a
    (λ e. rw (e, (identity o b).0) q)
    (λ na. by-care b
    (λ e. rw (e, (identity o a).1) p)
    (λ nb.
    rw (join-cell o a b na nb)
    (by-cell o a b na nb r
    (coded-range (get_or o (cell a b) 0) a b p q)
    (λ e f l h. both e f l h))))
  where
    both : a ≡ Gmb (rate_of a) → b ≡ Gmb (rate_of b) → largest_code < get_or o rate_cell 0 → get_or o rate_cell 0 ≤ largest_rate_code
        → in_range (coded (get_or o (cell a b) 0) a b) ≡ true
    both e f l h = rw (e, f) (rate-range (get_or o rate_cell 0) (rate_of a) (rate_of b) (rw e at p) (rw f at q) l h)
