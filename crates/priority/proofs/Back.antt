-- A row's level, going back over the rows before it: the best so far together with what the rows still to come give is the level. Assumes nothing.
use Prim.Native.Nat.{ℕ, zero, suc, ◌+◌, ◌-◌, ◌≤◌, ◌<◌, max}
use native.Mathlib.Omega.{arith}
use mathlib.Core.Path.{◌≡◌}
use mathlib.Core.Bool.{Bool, cond}
use mathlib.Core.List.{List, [], ◌∷◌, ◌++◌}
use lib.ListN.{get_or}
use Rattle.logic.proofs.Tests.{by-test}
use Rattle.theory.specs.Number.{above, levels, level_count}
use Rattle.theory.proofs.Levels.{level-below, length-levels}
use Rattle.flow.specs.Match.{overlap}
use Rattle.flow.specs.declared.Match.{Match}
use Rattle.table.specs.Table.{past}
use Rattle.priority.specs.Numbering.{over}
use Rattle.row.specs.Row.{rows_in}

-- levels below a number give no more than that number
pub above_most : (test : ℕ → ℕ → Bool) (ls : List ℕ) (i k count : ℕ) → ((j : ℕ) → j < k → get_or ls j 0 < count) → above test ls i k ≤ count
above_most test ls i zero count f = omega arith
above_most test ls i (suc k) count f =
    let h : above test ls i k ≤ count = above_most test ls i k count (λ j g. f j (omega arith)) in
    let l : get_or ls k 0 < count = f k (omega arith) in
    by-test (test k i) (λ t. rw t (omega arith)) (λ t. rw t (omega arith))

-- the last of the rows before a place, and the others
above-last : (test : ℕ → ℕ → Bool) (ls : List ℕ) (i j : ℕ) → 0 < j
    → above test ls i j ≡ max (above test ls i (j - 1)) (cond (test (j - 1) i) (suc (get_or ls (j - 1) 0)) 0)
above-last test ls i zero h = absurd (omega arith)
above-last test ls i (suc k) h = let q : suc k - 1 ≡ k = omega arith in rw q

-- the loop that goes back: a turn, its end, and where no row before can raise the best
module _ (ws ls : List ℕ) (i j best w : ℕ) (inv : max best (above (over ws) ls i j) ≡ w) where
  pub back-turn : 0 < j → (m k : Match) → m ≡ (get_or (rows_in ws) i past).matching → k ≡ (get_or (rows_in ws) (j - 1) past).matching → (b : ℕ)
      → b ≡ max best (cond (overlap k m) (suc (get_or ls (j - 1) 0)) 0) → max b (above (over ws) ls i (j - 1)) ≡ w
  unfolding over
  back-turn h m k e e' b d =
      let y : ℕ = cond (over ws (j - 1) i) (suc (get_or ls (j - 1) 0)) 0 in
      let d' : b ≡ max best y = rw (e, e') at d in
      omega (arith, above-last (over ws) ls i j h)

  pub back_end : j ≤ 0 → best ≡ w
  back_end h =
      let q : j ≡ 0 = omega arith in
      let e : max best 0 ≡ w = rw q at inv in
      omega arith

  pub back-stop : (count : ℕ) → j ≤ i → count ≤ best → ((k : ℕ) → k < i → get_or ls k 0 < count) → best ≡ w
  back-stop count h g f = omega (arith, above_most (over ws) ls i j count (λ k l. f k (omega arith)))

-- a level that is by the rule is no higher than the number that the levels before it are below
pub level-most : (ws ls : List ℕ) (i count l : ℕ) → ((j : ℕ) → j < i → get_or ls j 0 < count) → l ≡ above (over ws) ls i i
    → (l ≡ above (over ws) ls i i) × (l ≤ count)
level-most ws ls i count l f e = (e, rw e (above_most (over ws) ls i i count f))

-- one level more, at the end of some levels
pub count-snoc : (ls : List ℕ) (l : ℕ) → level_count (ls ++ (l ∷ [])) ≡ max (level_count ls) (l + 1)
count-snoc [] l = omega arith
count-snoc (x ∷ ls) l = omega (arith, count-snoc ls l)

-- there are no more levels than rows
pub count-few : (test : ℕ → ℕ → Bool) (n : ℕ) → level_count (levels test n) ≤ n
count-few test zero = omega arith
count-few test (suc n) =
    let ls : List ℕ = levels test n in
    let h : above test ls n n ≤ level_count ls = above_most test ls n n (level_count ls) (λ j g. level-below ls j (omega (arith, length-levels test n))) in
    omega (arith, count-snoc ls (above test ls n n), count-few test n)
