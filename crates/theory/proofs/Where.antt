-- The places that pass a test: by induction over the places. Assumes nothing.
use Rattle.std.proofs.Common.{ℕ, zero, suc, ◌<◌, arith, ◌≡◌, refl, sym, ◌∙◌, Bool, true, false, cond, List, [], ◌∷◌, ◌++◌, append-nil, get_or, length}
use Rattle.std.proofs.Common.{length-append, eqb, eq-eqb, ne_eqb, lt-ltb, le-ltb}
use mathlib.Core.Bool.{false≢true}
use lib.ListN.{get_or-append}
use lib.Seq.{get_or_at}
use Rattle.logic.proofs.Tests.{by-test, by_le}
use Rattle.theory.specs.Number.{has}
use Rattle.theory.specs.Hidden.{places_where}
use Rattle.theory.specs.Theorems.{HasWhere, WhereRises}
use Rattle.theory.proofs.Fewest.{has-at}

module _ (test : ℕ → Bool) where
  has-append : (y : ℕ) (xs ys : List ℕ) → has y (xs ++ ys) ≡ cond (has y xs) true (has y ys)
  has-append y [] ys = refl
  has-append y (x ∷ xs) ys = by-test (eqb y x) (λ t. rw t) (λ t. rw t (has-append y xs ys))

  pub has-where : HasWhere test
  has-where zero i = rw (le-ltb i 0 (omega arith))
  has-where (suc n) i =
      rw (has-append i (places_where test n) (cond (test n) (n ∷ []) []), has-where n i)
      (by_le i n
      (λ l. by_le n i
      (λ g.
      let e : i ≡ n = omega arith in
      rw (e, le-ltb n n (omega arith), lt-ltb n (suc n) (omega arith)) (by-test (test n) (λ t. rw (t, eq-eqb n n refl)) (λ t. rw t)))
      (λ g.
      rw (lt-ltb i n g, lt-ltb i (suc n) (omega arith))
      (by-test (test i)
      (λ t. rw t)
      (λ t. rw t (by-test (test n) (λ u. rw (u, ne_eqb i n (λ e. omega arith))) (λ u. rw u))))))
      (λ l.
      rw (le-ltb i n (omega arith), le-ltb i (suc n) l)
      (by-test (test n) (λ u. rw (u, ne_eqb i n (λ e. omega arith))) (λ u. rw u))))

  -- Every place in places_where lies below n.
  where_below : (n k : ℕ) → k < length (places_where test n) → get_or (places_where test n) k 0 < n
  where_below n k h =
      by_le n (get_or (places_where test n) k 0)
      (λ l.
      let out : has (get_or (places_where test n) k 0) (places_where test n) ≡ false =
      has-where n (get_or (places_where test n) k 0) ∙ rw (le-ltb (get_or (places_where test n) k 0) n l) in
      absurd (false≢true (sym out ∙ has-at (places_where test n) k h)))
      (λ l. l)

  pub where-rises : WhereRises test
  where-rises zero k h = absurd (omega arith)
  where-rises (suc n) k h =
      let ps : List ℕ = places_where test n in
      by-test (test n)
      (λ t.
      let g : suc k < length (ps ++ (n ∷ [])) = rw t at h in
      let m : suc k < suc (length ps) = omega (arith, length-append ps (n ∷ [])) in
      rw t
      (by_le (length ps) (suc k)
      (λ l.
      let e : length ps ≡ suc k = omega arith in
      rw (get_or_at ps n [] 0 (suc k) e, get_or-append ps (n ∷ []) 0 k (omega arith)) (where_below n k (omega arith)))
      (λ l. rw (get_or-append ps (n ∷ []) 0 k (omega arith), get_or-append ps (n ∷ []) 0 (suc k) l) (where-rises n k l))))
      (λ t.
      let g : suc k < length (ps ++ []) = rw t at h in
      rw t (rw append-nil (where-rises n k (rw append-nil at g))))
