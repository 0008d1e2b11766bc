-- Where the pairs of the list commute, all actions up to the largest rate do, whatever the operator's codes: what a code gives for a rate beside none
-- follows from what it gives for 1, and of the codes for two rates only those that tell left from right do not commute; by the code.
use Prim.Native.Nat.{ℕ, zero, suc, ◌≤◌}
use native.Mathlib.Omega.{arith}
use mathlib.Core.Path.{◌≡◌, refl, sym, ap, ◌∙◌}
use mathlib.Core.Bool.{Bool, true, false}
use mathlib.Core.List.{List}
use lib.Dec.{leb}
use lib.ListN.{get_or}
use borrow.Author.Tests.{leb-true}
use Rattle.std.specs.Prelude.{Ok}
use Rattle.action.specs.Action.{rate_of, largest_rate}
use Rattle.action.specs.Operator.{cell, rate_cell, coded, join}
use Rattle.action.specs.Laws.{◌among◌, shown, pairs, same, told, commutes, first_pair}
use Rattle.action.specs.declared.Action.{Action}
use Rattle.action.specs.declared.Action.TheVariants.{DontCare, Allow, Deny, Gmb}
use Rattle.action.specs.declared.LawFailure.{LawFailure}
use Rattle.action.proofs.Along.{along-ok, all_among}
use Rattle.action.proofs.Product.{among-product}
use Rattle.action.proofs.Joined.{identity}
use Rattle.action.proofs.Same.{same-eq, eq-same}
use Rattle.action.proofs.Codes.{by-plain, by-code, unknown-code, by-care, join-cell}
use Rattle.action.proofs.Rates.{rerate, Follows, plain-follows, one-shown, two-shown, allow-shown, deny-shown}

pub tested : (b : Bool) (f : LawFailure) → told b f ≡ Ok tt → b ≡ true
tested true f e = refl
tested false f e = cc

pub kept : (x y : Action) (f : LawFailure) → x ≡ y → told (same x y) f ≡ Ok tt
kept x y f e = rw (eq-same x y e)

-- what is joined has no larger rate than the largest
coded-bound : (a b : Action) → rate_of a ≤ largest_rate → rate_of b ≤ largest_rate → (c : ℕ) → rate_of (coded c a b) ≤ largest_rate
unfolding coded
coded-bound a b p q =
    by-code (λ c. rate_of (coded c a b) ≤ largest_rate)
    (by-plain (λ c. rate_of (coded c a b) ≤ largest_rate) (omega arith) (omega arith) (omega arith) p q)
    (omega (arith, p, q))
    (omega (arith, p, q))
    (omega arith)
    (λ c h. rw (unknown-code c a b h) (omega arith))

pub join-bound : (o : List ℕ) (a b : Action) → rate_of a ≤ largest_rate → rate_of b ≤ largest_rate → rate_of (join o a b) ≤ largest_rate
join-bound o a b p q =
    by-care a
    (λ e. rw (e, (identity o b).0) q)
    (λ na. by-care b
    (λ e. rw (e, (identity o a).1) p)
    (λ nb. rw (join-cell o a b na nb) (coded-bound a b p q (get_or o (cell a b) 0))))

pub shown-bound : (a : Action) → a among shown → rate_of a ≤ largest_rate
unfolding shown
shown-bound a m = leb-true (rate_of a) largest_rate (all_among (λ a. leb (rate_of a) largest_rate) shown refl a m)

-- the change of 1 to another rate
abbrev to : ℕ → ℕ → ℕ
to n zero = 0
to n (suc k) = n

-- a code follows it, beside an action that has no rate, before and after
module _ (n : ℕ) (h : n ≤ largest_rate) (a : Action) (before : rate_of a ≡ 0) (after : rate_of (rerate (to n) a) ≡ 0) where
  left-follows : (c : ℕ) → Follows (to n) c a (Gmb 1)
  unfolding coded
  left-follows =
      by-code (λ c. Follows (to n) c a (Gmb 1)) (λ c. plain-follows (to n) c a (Gmb 1))
      (rw (before, after) (ap Gmb (omega arith)))
      (rw (before, after) (ap Gmb (omega arith)))
      (rw (before, after) (ap Gmb (omega (arith, h))))
      (λ c l. rw (unknown-code c (rerate (to n) a) (Gmb n) l, unknown-code c a (Gmb 1) l) refl)

  right-follows : (c : ℕ) → Follows (to n) c (Gmb 1) a
  unfolding coded
  right-follows =
      by-code (λ c. Follows (to n) c (Gmb 1) a) (λ c. plain-follows (to n) c (Gmb 1) a)
      (rw (before, after) (ap Gmb (omega arith)))
      (rw (before, after) (ap Gmb (omega arith)))
      (rw (before, after) (ap Gmb (omega (arith, h))))
      (λ c l. rw (unknown-code c (Gmb n) (rerate (to n) a) l, unknown-code c (Gmb 1) a l) refl)

-- a code that commutes at 1 and 2 commutes at any two rates
one-not-two : ¬ (Gmb 1 ≡ Gmb 2)
one-not-two e = let z : ◌≡◌ {A = ℕ} 1 2 = ap rate_of e in absurd (omega (arith, z))

rates-commute : (m n c : ℕ) → coded c (Gmb 1) (Gmb 2) ≡ coded c (Gmb 2) (Gmb 1) → coded c (Gmb m) (Gmb n) ≡ coded c (Gmb n) (Gmb m)
unfolding coded
rates-commute m n =
    by-code (λ c. coded c (Gmb 1) (Gmb 2) ≡ coded c (Gmb 2) (Gmb 1) → coded c (Gmb m) (Gmb n) ≡ coded c (Gmb n) (Gmb m))
    (by-plain (λ c. coded c (Gmb 1) (Gmb 2) ≡ coded c (Gmb 2) (Gmb 1) → coded c (Gmb m) (Gmb n) ≡ coded c (Gmb n) (Gmb m))
    (λ e. refl) (λ e. refl) (λ e. refl)
    (λ e. absurd (one-not-two e))
    (λ e. absurd (one-not-two (sym e))))
    (λ e. ap Gmb (omega arith))
    (λ e. ap Gmb (omega arith))
    (λ e. ap Gmb (omega arith))
    (λ c l e. rw (unknown-code c (Gmb m) (Gmb n) l, unknown-code c (Gmb n) (Gmb m) l) refl)

-- THE PAIRS ARE ENOUGH: where they commute, all actions up to the largest rate do
module _ (o : List ℕ) (quiet : first_pair o ≡ Ok tt) where
  pub commutes-listed : (u v : Action) → u among shown → v among shown → join o u v ≡ join o v u
  unfolding commutes pairs first_pair
  commutes-listed u v m n =
      same-eq (join o u v) (join o v u)
      (tested _ _ (along-ok (commutes o) pairs quiet (u, v) (among-product (u, v) shown shown m n)))

  pub commutes-bounded : (a b : Action) → rate_of a ≤ largest_rate → rate_of b ≤ largest_rate → join o a b ≡ join o b a
  unfolding join
  commutes-bounded DontCare b p q = rw ((identity o b).0, (identity o b).1) refl
  commutes-bounded Allow DontCare p q = rw ((identity o Allow).0, (identity o Allow).1) refl
  commutes-bounded Allow Allow p q = refl
  commutes-bounded Allow Deny p q = commutes-listed Allow Deny allow-shown deny-shown
  commutes-bounded Allow (Gmb n) p q =
      left-follows n q Allow refl refl (get_or o (cell Allow (Gmb 1)) 0)
      ∙ ap (rerate (to n)) (commutes-listed Allow (Gmb 1) allow-shown one-shown)
      ∙ sym (right-follows n q Allow refl refl (get_or o (cell (Gmb 1) Allow) 0))
  commutes-bounded Deny DontCare p q = rw ((identity o Deny).0, (identity o Deny).1) refl
  commutes-bounded Deny Allow p q = commutes-listed Deny Allow deny-shown allow-shown
  commutes-bounded Deny Deny p q = refl
  commutes-bounded Deny (Gmb n) p q =
      left-follows n q Deny refl refl (get_or o (cell Deny (Gmb 1)) 0)
      ∙ ap (rerate (to n)) (commutes-listed Deny (Gmb 1) deny-shown one-shown)
      ∙ sym (right-follows n q Deny refl refl (get_or o (cell (Gmb 1) Deny) 0))
  commutes-bounded (Gmb m) DontCare p q = rw ((identity o (Gmb m)).0, (identity o (Gmb m)).1) refl
  commutes-bounded (Gmb m) Allow p q =
      right-follows m p Allow refl refl (get_or o (cell (Gmb 1) Allow) 0)
      ∙ ap (rerate (to m)) (commutes-listed (Gmb 1) Allow one-shown allow-shown)
      ∙ sym (left-follows m p Allow refl refl (get_or o (cell Allow (Gmb 1)) 0))
  commutes-bounded (Gmb m) Deny p q =
      right-follows m p Deny refl refl (get_or o (cell (Gmb 1) Deny) 0)
      ∙ ap (rerate (to m)) (commutes-listed (Gmb 1) Deny one-shown deny-shown)
      ∙ sym (left-follows m p Deny refl refl (get_or o (cell Deny (Gmb 1)) 0))
  commutes-bounded (Gmb m) (Gmb n) p q = rates-commute m n (get_or o rate_cell 0) (commutes-listed (Gmb 1) (Gmb 2) one-shown two-shown)
