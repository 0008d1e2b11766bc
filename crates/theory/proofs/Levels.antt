-- Levels and priorities: each level is by the rule over the levels before it, and a row's level is above that of each earlier row that it overlaps.
use Rattle.std.proofs.Common.{ℕ, zero, suc, ◌-◌, ◌≤◌, ◌<◌, max, arith, ◌≡◌, refl, sym, ◌∙◌, Bool, true, List, [], ◌∷◌, ◌++◌, map, get_or, length, length-append}
use Rattle.std.proofs.Common.{eqb}
use lib.ListN.{get_or-append}
use lib.Seq.{get_or_at}
use borrow.Author.Tests.{eqb-false}
use Rattle.logic.proofs.Tests.{by-test, by_le}
use Rattle.theory.specs.Number.{above, levels, level_count, priorities, at_level, overlaps_at}
use Rattle.theory.specs.Theorems.{PrioritiesRight, PrioritiesRange}
use Rattle.theory.proofs.Seek.{Passing, passing-more}

module _ (over : ℕ → ℕ → Bool) where
  -- The levels ls of n rows are by the scope's rule, each from the levels before it.
  pub record Levelled (n : ℕ) (ls : List ℕ) : Type 0 where
    pub many : length ls ≡ n
    pub rule : (i : ℕ) → i < n → get_or ls i 0 ≡ above over ls i i

  -- Levels behind the rows looked at change nothing.
  pub above-prefix : (ls xs : List ℕ) (i k : ℕ) → k ≤ length ls → above over (ls ++ xs) i k ≡ above over ls i k
  above-prefix ls xs i zero h = refl
  above-prefix ls xs i (suc k) h = simp (above-prefix ls xs i k (omega arith), get_or-append ls xs 0 k h)

  -- One row more, as a loop over the rows goes.
  pub levelled-snoc : (n : ℕ) (ls : List ℕ) → Levelled n ls → Levelled (suc n) (ls ++ (above over ls n n ∷ []))
  levelled-snoc n ls r =
      let e : length ls ≡ n = r.many in
      let xs : List ℕ = above over ls n n ∷ [] in
      record {
        many = length-append ls xs ∙ omega arith;
        rule = λ i h. by_le n i
            (λ l. let q : i ≡ n = omega arith in rw q (get_or_at ls (above over ls n n) [] 0 n e ∙ sym (above-prefix ls xs n n (omega arith))))
            (λ l. get_or-append ls xs 0 i (omega arith) ∙ r.rule i l ∙ sym (above-prefix ls xs i i (omega arith)));
      }

  pub levelled : (n : ℕ) → Levelled n (levels over n)
  levelled zero = record { many = refl; rule = λ i h. absurd (omega arith) }
  levelled (suc n) = levelled-snoc n (levels over n) (levelled n)

  -- The level is above that of each overlapping row.
  above-counts : (ls : List ℕ) (i k j : ℕ) → j < k → over j i ≡ true → get_or ls j 0 < above over ls i k
  above-counts ls i zero j h o = absurd (omega arith)
  above-counts ls i (suc k) j h o =
      by_le k j
      (λ l. let q : k ≡ j = omega arith in rw (q, o) (omega arith))
      (λ l. omega (arith, above-counts ls i k j l o))

  -- A level above 0 comes from an overlapping row one level lower.
  pub above_from : (ls : List ℕ) (i k l : ℕ) → above over ls i k ≡ suc l → Passing (overlaps_at over ls i l) k
  above_from ls i zero l e = absurd (omega arith)
  above_from ls i (suc k) l e =
      by-test (overlaps_at over ls i l k)
      (λ t. record { place = k; within = omega arith; passes = t })
      (λ t.
      let before : above over ls i k ≡ suc l =
      by-test (over k i)
      (λ o.
      let e' : max (above over ls i k) (suc (get_or ls k 0)) ≡ suc l = rw o at e in
      omega (arith, eqb-false (get_or ls k 0) l (rw o at t)))
      (λ o. let e' : max (above over ls i k) 0 ≡ suc l = rw o at e in omega arith) in
      passing-more (above_from ls i k l before))

pub level-below : (ls : List ℕ) (i : ℕ) → i < length ls → get_or ls i 0 < level_count ls
level-below [] i h = absurd (omega arith)
level-below (l ∷ ls) zero h = omega arith
level-below (l ∷ ls) (suc i) h = omega (arith, level-below ls i (omega arith))

-- The highest level is that of some row.
pub level-highest : (ls : List ℕ) (l : ℕ) → level_count ls ≡ suc l → Passing (at_level ls l) (length ls)
level-highest [] l e = absurd (omega arith)
level-highest (x ∷ ls) l e =
    by-test (eqb x l)
    (λ t. record { place = 0; within = omega arith; passes = t })
    (λ t.
    let w : Passing (at_level ls l) (length ls) = level-highest ls l (omega (arith, eqb-false x l t)) in
    record { place = suc w.place; within = omega (arith, w.within); passes = w.passes })

get_d_map : (f : ℕ → ℕ) (ls : List ℕ) (i : ℕ) → i < length ls → get_or (map f ls) i 0 ≡ f (get_or ls i 0)
get_d_map f [] i h = absurd (omega arith)
get_d_map f (x ∷ ls) zero h = refl
get_d_map f (x ∷ ls) (suc i) h = get_d_map f ls i (omega arith)

module _ (over : ℕ → ℕ → Bool) (n : ℕ) where
  pub length-levels : length (levels over n) ≡ n
  length-levels = (levelled over n).many

  -- Of two rows that overlap the earlier has the lower level.
  level-above : (j i : ℕ) → j < i → i < n → over j i ≡ true → get_or (levels over n) j 0 < get_or (levels over n) i 0
  level-above j i h k o = rw ((levelled over n).rule i k) (above-counts over (levels over n) i i j h o)

  pub priority : (i : ℕ) → i < n → get_or (priorities (levels over n)) i 0 ≡ level_count (levels over n) - get_or (levels over n) i 0
  priority i h = get_d_map (λ l. level_count (levels over n) - l) (levels over n) i (omega (arith, length-levels))

  pub priorities-right : PrioritiesRight over n
  priorities-right j i h k o =
      rw (priority i k, priority j (omega arith))
      (omega (arith, level-above j i h k o, level-below (levels over n) i (omega (arith, length-levels))))

  pub priorities-range : PrioritiesRange over n
  priorities-range i h = rw (priority i h) (omega (arith, level-below (levels over n) i (omega (arith, length-levels))))
