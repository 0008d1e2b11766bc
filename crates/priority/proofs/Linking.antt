-- The loop that stores the chain from its end: what is still to be laid, over what is there, is the whole chain. Assumes nothing.
use Prim.Native.Nat.{ℕ, zero, suc, ◌+◌, ◌-◌, ◌≤◌, ◌<◌}
use native.Mathlib.Omega.{arith}
use mathlib.Core.Path.{◌≡◌, refl, sym, ap, ◌∙◌}
use mathlib.Core.Bool.{Bool}
use mathlib.Core.List.{List, [], ◌∷◌, ◌++◌}
use lib.ListN.{length, set, length-append, length-set}
use Rattle.words.specs.Words.{laid}
use Rattle.theory.specs.Number.{level_count, at_level, first_of_level, overlaps_at, step_back, chain_to, chain_under}
use Rattle.theory.proofs.Seek.{seek-first}
use Rattle.theory.proofs.Levels.{level-highest}
use Rattle.priority.specs.Numbering.{over}
use Rattle.priority.proofs.Seeking.{seek-within}
use Rattle.words.proofs.Laid.{laid_one}
use Rattle.priority.proofs.Stores.{laid-last}

-- the part of the chain that ends at row `at` of level k is still to be laid over the buffer l, which was l₀
pub record Linking (ws ls l₀ l : List ℕ) (count k at : ℕ) : Type 0 where
  pub within : k < length l
  pub same : length l ≡ length l₀
  pub row : at < length ls
  pub ahead : laid 0 (chain_to (over ws) ls k at) l ≡ laid 0 (chain_under (over ws) ls count) l₀

-- the part of a chain that ends at level k has k + 1 rows
pub length-chain : (test : ℕ → ℕ → Bool) (ls : List ℕ) (k i : ℕ) → length (chain_to test ls k i) ≡ suc k
length-chain test ls zero i = refl
length-chain test ls (suc k) i =
    let j : ℕ = step_back test ls i k in
    length-append (chain_to test ls k j) (i ∷ []) ∙ omega (arith, length-chain test ls k j)

-- no chain at all
pub linking-none : (ws ls l : List ℕ) (count : ℕ) → count ≡ 0 → l ≡ laid 0 (chain_under (over ws) ls count) l
unfolding laid
linking-none ws ls l count e = rw e

-- the end of the chain
pub linking-start : (ws ls l : List ℕ) (count at : ℕ) → count ≡ level_count ls → (count ≡ 0 → ⊥) → count ≤ length l
    → at ≡ first_of_level ls (count - 1) → Linking ws ls l l count (count - 1) at
linking-start ws ls l zero at e n h d = absurd (n refl)
linking-start ws ls l (suc k) at e n h d =
    let q : suc k - 1 ≡ k = omega arith in
    let d' : at ≡ first_of_level ls k = rw q at d in
    rw q
    (record {
      within = omega arith;
      same = refl;
      row = rw d' (seek-first (at_level ls k) (length ls) (level-highest ls k (sym e))).within;
      ahead = ap (λ i. laid 0 (chain_to (over ws) ls k i) l) d';
    })

-- one step back
pub linking-turn : (ws ls l₀ l : List ℕ) (count k at at' : ℕ) (l' : List ℕ) → Linking ws ls l₀ l count k at → 0 < k
    → l' ≡ set l k at → at' ≡ step_back (over ws) ls at (k - 1) → Linking ws ls l₀ l' count (k - 1) at'
linking-turn ws ls l₀ l count zero at at' l' g h e d = absurd (omega arith)
linking-turn ws ls l₀ l count (suc k) at at' l' g h e d =
    let q : suc k - 1 ≡ k = omega arith in
    let d' : at' ≡ step_back (over ws) ls at k = rw q at d in
    let n : length l' ≡ length l = ap length e ∙ length-set l (suc k) at in
    let within : step_back (over ws) ls at k ≤ 0 + at = seek-within (overlaps_at (over ws) ls at k) at 0 in
    rw q
    (record {
      within = omega (arith, g.within);
      same = n ∙ g.same;
      row = omega (arith, g.row);
      ahead = ap (laid 0 (chain_to (over ws) ls k at')) e
          ∙ laid-last (chain_to (over ws) ls k at') l (suc k) at (length-chain (over ws) ls k at') g.within
          ∙ ap (λ i. laid 0 (chain_to (over ws) ls k i ++ (at ∷ [])) l) d'
          ∙ g.ahead;
    })

-- its place is stored already
pub record Linked (ws ls l₀ l : List ℕ) (count k at : ℕ) : Type 0 where
  pub before : List ℕ
  pub link : Linking ws ls l₀ before count k at
  pub is : l ≡ set before k at

-- one step back, which is stored then
pub linked-turn : (ws ls l₀ l : List ℕ) (count k at at' : ℕ) (l' : List ℕ) → Linked ws ls l₀ l count k at → 0 < k
    → at' ≡ step_back (over ws) ls at (k - 1) → l' ≡ set l (k - 1) at' → Linked ws ls l₀ l' count (k - 1) at'
linked-turn ws ls l₀ l count k at at' l' g h d e = record {
  before = l;
  link = linking-turn ws ls l₀ g.before count k at at' l g.link h g.is d;
  is = e;
}

-- the start of the chain is stored last
pub linked-end : (ws ls l₀ l : List ℕ) (count k at : ℕ) → Linked ws ls l₀ l count k at → k ≤ 0 → l ≡ laid 0 (chain_under (over ws) ls count) l₀
linked-end ws ls l₀ l count zero at g h = g.is ∙ sym (laid_one 0 at g.before) ∙ g.link.ahead
linked-end ws ls l₀ l count (suc k) at g h = absurd (omega arith)
