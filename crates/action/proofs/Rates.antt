-- Joining follows a change of rates wherever the ninth cell does. Where that cell does not add, this is every change that keeps the order, and any three
-- rates are such a change of 1, 2 and 4.
use Prim.Native.Nat.{ℕ, zero, suc, ◌≤◌, ◌<◌, min, max}
use native.Mathlib.Omega.{arith}
use mathlib.Core.Path.{◌≡◌, refl, sym, ap}
use mathlib.Core.Bool.{Bool, true, false, cond}
use mathlib.Core.List.Memᴰ
use mathlib.Core.List.{List}
use lib.ListN.{get_or}
use Rattle.logic.proofs.Tests.{by_le}
use Rattle.action.specs.Action.{kind_of, is_dont_care, rate_of}
use Rattle.action.specs.Operator.{cell, rate_cell, largest_code, coded, join, RightCodes}
use Rattle.action.specs.Laws.{◌among◌, shown}
use Rattle.action.specs.declared.Action.{Action}
use Rattle.action.specs.declared.Action.TheVariants.{DontCare, Allow, Deny, Gmb}
use Rattle.action.proofs.Codes.{adding, by-plain, by-rates, by-care, by-cell}
use Rattle.action.proofs.Joined.{identity}

-- an action with its rate changed
abbrev pub rerate : (ℕ → ℕ) → Action → Action
rerate f DontCare = DontCare
rerate f Allow = Allow
rerate f Deny = Deny
rerate f (Gmb n) = Gmb (f n)

kind-rerate : (f : ℕ → ℕ) (a : Action) → kind_of (rerate f a) ≡ kind_of a
kind-rerate f DontCare = refl
kind-rerate f Allow = refl
kind-rerate f Deny = refl
kind-rerate f (Gmb n) = refl

-- what a code gives follows a change of rates
abbrev pub Follows : (ℕ → ℕ) → ℕ → Action → Action → Type 0
Follows f c a b = coded c (rerate f a) (rerate f b) ≡ rerate f (coded c a b)

-- and so does the ninth cell at two actions, if they are GMBs
abbrev pub Ninth : List ℕ → (ℕ → ℕ) → Action → Action → Type 0
Ninth o f a b = (m n : ℕ) → a ≡ Gmb m → b ≡ Gmb n → Follows f (get_or o rate_cell 0) (Gmb m) (Gmb n)

-- a plain code gives one of the two whole, or no rate
pub plain-follows : (f : ℕ → ℕ) (c : ℕ) (a b : Action) → c ≤ largest_code → Follows f c a b
unfolding coded
plain-follows f c a b h = by-plain (λ c. Follows f c a b) refl refl refl refl refl c h

module _ (o : List ℕ) (r : RightCodes o) (f : ℕ → ℕ) where
  cell-follows : (a b : Action) → ¬ (a ≡ DontCare) → ¬ (b ≡ DontCare) → Ninth o f a b → Follows f (get_or o (cell a b) 0) a b
  cell-follows a b na nb h =
      by-cell o a b na nb r
      (plain-follows f (get_or o (cell a b) 0) a b)
      (λ p q _ _. rw (p, q) (h (rate_of a) (rate_of b) p q))

  pub join-rerate : (a b : Action) → Ninth o f a b → join o (rerate f a) (rerate f b) ≡ rerate f (join o a b)
  unfolding join
  join-rerate a b h =
      by-care a
      (λ e. rw (e, (identity o b).0, (identity o (rerate f b)).0) refl)
      (λ na. by-care b
      (λ e. rw (e, (identity o a).1, (identity o (rerate f a)).1) refl)
      (λ nb. both na nb))
    where
      chosen : (s t : Bool) (x y z : Action) → cond s (rerate f x) (cond t (rerate f y) (rerate f z)) ≡ rerate f (cond s x (cond t y z))
      chosen true t x y z = refl
      chosen false true x y z = refl
      chosen false false x y z = refl

      both : ¬ (a ≡ DontCare) → ¬ (b ≡ DontCare) → join o (rerate f a) (rerate f b) ≡ rerate f (join o a b)
      both na nb =
          rw (kind-rerate f a, kind-rerate f b, cell-follows a b na nb h)
          (chosen (is_dont_care a) (is_dont_care b) b a (coded (get_or o (cell a b) 0) a b))

  -- so a law that holds at some actions holds at the changed ones
  pub commutes-rerate : (u v a b : Action) → Ninth o f u v → Ninth o f v u → rerate f u ≡ a → rerate f v ≡ b
      → join o u v ≡ join o v u → join o a b ≡ join o b a
  commutes-rerate u v a b h k p q e = cc (join-rerate u v h, join-rerate v u k)

  pub associates-rerate : (u v w a b c : Action)
      → Ninth o f u v → Ninth o f (join o u v) w → Ninth o f v w → Ninth o f u (join o v w)
      → rerate f u ≡ a → rerate f v ≡ b → rerate f w ≡ c
      → join o (join o u v) w ≡ join o u (join o v w) → join o (join o a b) c ≡ join o a (join o b c)
  associates-rerate u v w a b c h i j k p q s e =
      cc (join-rerate u v h, join-rerate (join o u v) w i, join-rerate v w j, join-rerate u (join o v w) k)

-- a change of rates that keeps the order
abbrev pub Rising : (ℕ → ℕ) → Type 0
Rising f = (m n : ℕ) → m ≤ n → f m ≤ f n

module _ (f : ℕ → ℕ) (rising : Rising f) where
  larger-rerate : (m n : ℕ) → max (f m) (f n) ≡ f (max m n)
  larger-rerate m n =
      by_le m n
      (λ h. let e : max m n ≡ n = omega arith in rw e (omega (arith, rising m n h)))
      (λ h. let e : max m n ≡ m = omega arith in rw e (omega (arith, rising n m (omega arith))))

  smaller-rerate : (m n : ℕ) → min (f m) (f n) ≡ f (min m n)
  smaller-rerate m n =
      by_le m n
      (λ h. let e : min m n ≡ m = omega arith in rw e (omega (arith, rising m n h)))
      (λ h. let e : min m n ≡ n = omega arith in rw e (omega (arith, rising n m (omega arith))))

  -- a code that does not add follows such a change at all rates
  pub rising-follows : (c m n : ℕ) → c < adding → Follows f c (Gmb m) (Gmb n)
  unfolding coded
  rising-follows c m n h =
      by_le c largest_code (plain-follows f c (Gmb m) (Gmb n)) (λ l.
      by-rates (λ c. c < adding → Follows f c (Gmb m) (Gmb n))
      (λ k. ap Gmb (larger-rerate m n))
      (λ k. ap Gmb (smaller-rerate m n))
      (λ k. absurd (omega (arith, k)))
      c l (omega (arith, h)) h)

-- a rate of the list that a change of rates takes to n
pub record Reached (f : ℕ → ℕ) (n : ℕ) : Type 0 where
  pub from : ℕ
  pub listed : Gmb from among shown
  pub becomes : f from ≡ n

-- those of the list
pub allow-shown : Allow among shown
unfolding shown
allow-shown = Memᴰ.head refl

pub deny-shown : Deny among shown
unfolding shown
deny-shown = Memᴰ.tail (Memᴰ.head refl)

pub one-shown : Gmb 1 among shown
unfolding shown
one-shown = Memᴰ.tail (Memᴰ.tail (Memᴰ.head refl))

pub two-shown : Gmb 2 among shown
unfolding shown
two-shown = Memᴰ.tail (Memᴰ.tail (Memᴰ.tail (Memᴰ.head refl)))

pub four-shown : Gmb 4 among shown
unfolding shown
four-shown = Memᴰ.tail (Memᴰ.tail (Memᴰ.tail (Memᴰ.tail (Memᴰ.head refl))))

-- an action of the list that a change of rates takes to x, with the rate k where it is a GMB
pub record Shown (f : ℕ → ℕ) (k : ℕ) (x : Action) : Type 0 where
  pub from : Action
  pub listed : from among shown
  pub becomes : rerate f from ≡ x
  pub at : (m : ℕ) → from ≡ Gmb m → m ≡ k

pub shown_of : (f : ℕ → ℕ) (k : ℕ) (x : Action) → ¬ (x ≡ DontCare) → Gmb k among shown → f k ≡ rate_of x → Shown f k x
unfolding shown
shown_of f k DontCare h s e = absurd (h refl)
shown_of f k Allow h s e =
    record { from = Allow; listed = Memᴰ.head refl; becomes = refl; at = λ m d. let z : ◌≡◌ {A = ℕ} 1 3 = ap kind_of d in absurd (omega arith) }
shown_of f k Deny h s e =
    record { from = Deny; listed = Memᴰ.tail (Memᴰ.head refl); becomes = refl; at = λ m d. let z : ◌≡◌ {A = ℕ} 2 3 = ap kind_of d in absurd (omega arith) }
shown_of f k (Gmb n) h s e = record { from = Gmb k; listed = s; becomes = ap Gmb e; at = λ m d. sym (ap rate_of d) }

-- 1, 2 and 4 taken to three rates
abbrev stairs : ℕ → ℕ → ℕ → ℕ → ℕ
stairs p q r zero = 0
stairs p q r (suc zero) = p
stairs p q r (suc (suc zero)) = q
stairs p q r (suc (suc (suc n))) = r

-- what never falls in one step keeps the order
climbs : (f : ℕ → ℕ) → ((n : ℕ) → f n ≤ f (suc n)) → (m n : ℕ) → m ≤ n → f m ≤ f n
climbs f step m zero h = let e : m ≡ 0 = omega arith in rw e (omega arith)
climbs f step m (suc n) h =
    by_le m n
    (λ g. omega (arith, climbs f step m n g, step n))
    (λ g. let e : m ≡ suc n = omega arith in rw e (omega arith))

stairs-rise : (p q r : ℕ) → p ≤ q → q ≤ r → Rising (stairs p q r)
stairs-rise p q r h k = climbs (stairs p q r) step
  where
    step : (n : ℕ) → stairs p q r n ≤ stairs p q r (suc n)
    step zero = omega arith
    step (suc zero) = h
    step (suc (suc zero)) = k
    step (suc (suc (suc n))) = omega arith

-- one change that reaches three rates from the list
pub record Spread (a b c : ℕ) : Type 0 where
  pub f : ℕ → ℕ
  pub rising : Rising f
  pub first : Reached f a
  pub second : Reached f b
  pub third : Reached f c

module _ (p q r : ℕ) where
  low : Reached (stairs p q r) p
  low = record { from = 1; listed = one-shown; becomes = refl }

  mid : Reached (stairs p q r) q
  mid = record { from = 2; listed = two-shown; becomes = refl }

  high : Reached (stairs p q r) r
  high = record { from = 4; listed = four-shown; becomes = refl }

-- there is one for any three rates: they stand in one of six orders
pub spread : (a b c : ℕ) → Spread a b c
spread a b c =
    by_le a b
    (λ ab. by_le b c
    (λ bc. as-stairs a b c ab bc (low a b c) (mid a b c) (high a b c))
    (λ cb. by_le a c
    (λ ac. as-stairs a c b ac (omega arith) (low a c b) (high a c b) (mid a c b))
    (λ ca. as-stairs c a b (omega arith) ab (mid c a b) (high c a b) (low c a b))))
    (λ ba. by_le a c
    (λ ac. as-stairs b a c (omega arith) ac (mid b a c) (low b a c) (high b a c))
    (λ ca. by_le b c
    (λ bc. as-stairs b c a bc (omega arith) (high b c a) (low b c a) (mid b c a))
    (λ cb. as-stairs c b a (omega arith) (omega arith) (high c b a) (mid c b a) (low c b a))))
  where
    as-stairs : (p q r : ℕ) → p ≤ q → q ≤ r → Reached (stairs p q r) a → Reached (stairs p q r) b → Reached (stairs p q r) c → Spread a b c
    as-stairs p q r h k x y z = record { f = stairs p q r; rising = stairs-rise p q r h k; first = x; second = y; third = z }
