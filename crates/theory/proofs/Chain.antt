-- The chain is right: by induction over the level, each step back finds a row since a level above 0 comes from one level lower.
use Rattle.std.proofs.Common.{ℕ, zero, suc, ◌≤◌, ◌<◌, arith, ◌≡◌, refl, sym, ◌∙◌, Bool, List, [], ◌∷◌, ◌++◌, get_or, length, length-append, eqb-true}
use lib.ListN.{get_or-append}
use lib.Seq.{get_or_at}
use Rattle.logic.proofs.Tests.{by_le, and_left, and_right}
use Rattle.theory.specs.Number.{FirstPlace, levels, level_count, at_level, first_of_level, overlaps_at, step_back, chain_to, chain_under, Chained}
use Rattle.theory.specs.Theorems.{ChainHolds}
use Rattle.theory.proofs.Seek.{seek-first}
use Rattle.theory.proofs.Levels.{levelled, above_from, level-highest, length-levels}

module _ (over : ℕ → ℕ → Bool) (ls : List ℕ) where
  -- A chain of rows up to i that ends at row i, of level l.
  record ChainedTo (c : List ℕ) (l i : ℕ) : Type 0 where
    many : length c ≡ suc l
    ends : get_or c l 0 ≡ i
    rows : (k : ℕ) → k ≤ l → get_or c k 0 ≤ i
    steps : (k : ℕ) → k < l → FirstPlace (overlaps_at over ls (get_or c (suc k) 0) k) (get_or c (suc k) 0) (get_or c k 0)

  chained-one : (i : ℕ) → ChainedTo (i ∷ []) 0 i
  chained-one i = record {
    many = refl;
    ends = refl;
    rows = λ k h. let q : k ≡ 0 = omega arith in rw q (omega arith);
    steps = λ k h. absurd (omega arith);
  }

  -- One row more at the end.
  chained-snoc : (c : List ℕ) (l k i : ℕ) → ChainedTo c l k → FirstPlace (overlaps_at over ls i l) i k → ChainedTo (c ++ (i ∷ [])) (suc l) i
  chained-snoc c l k i r f =
      let m : length c ≡ suc l = r.many in
      let old : (j : ℕ) → j ≤ l → get_or (c ++ (i ∷ [])) j 0 ≡ get_or c j 0 = λ j g. get_or-append c (i ∷ []) 0 j (omega arith) in
      let new : get_or (c ++ (i ∷ [])) (suc l) 0 ≡ i = get_or_at c i [] 0 (suc l) m in
      record {
        many = length-append c (i ∷ []) ∙ omega arith;
        ends = new;
        rows = λ j g. by_le j l
            (λ d. rw (old j d) (omega (arith, r.rows j d, f.within)))
            (λ d. let q : j ≡ suc l = omega arith in rw (q, new) (omega arith));
        steps = λ j g. by_le l j
            (λ d. let q : j ≡ l = omega arith in rw (q, old l (omega arith), new, r.ends) f)
            (λ d. rw (old j (omega arith), old (suc j) d) (r.steps j d));
      }

module _ (over : ℕ → ℕ → Bool) (n : ℕ) where
  -- A row above level 0 has a row to step back to.
  step-first : (i l : ℕ) → i < n → get_or (levels over n) i 0 ≡ suc l → FirstPlace (overlaps_at over (levels over n) i l) i (step_back over (levels over n) i l)
  step-first i l h e =
      let ls : List ℕ = levels over n in
      seek-first (overlaps_at over ls i l) i (above_from over ls i i l (sym ((levelled over n).rule i h) ∙ e))

  chained-to : (l i : ℕ) → i < n → get_or (levels over n) i 0 ≡ l → ChainedTo over (levels over n) (chain_to over (levels over n) l i) l i
  chained-to zero i h e = chained-one over (levels over n) i
  chained-to (suc l) i h e =
      let ls : List ℕ = levels over n in
      let k : ℕ = step_back over ls i l in
      let f : FirstPlace (overlaps_at over ls i l) i k = step-first i l h e in
      let low : get_or ls k 0 ≡ l = eqb-true (get_or ls k 0) l (and_right (over k i) (at_level ls l k) f.passes) in
      chained-snoc over ls (chain_to over ls l k) l k i (chained-to l k (omega (arith, f.within)) low) f

  -- The highest level has a first row.
  top-first : (l : ℕ) → level_count (levels over n) ≡ suc l
      → FirstPlace (at_level (levels over n) l) (length (levels over n)) (first_of_level (levels over n) l)
  top-first l e = seek-first (at_level (levels over n) l) (length (levels over n)) (level-highest (levels over n) l e)

  chained-under : (l : ℕ) → level_count (levels over n) ≡ l → Chained over (levels over n) (chain_under over (levels over n) l)
  chained-under zero e = record {
    many = sym e;
    rows = λ k h. absurd (omega arith);
    in_order = λ k h. absurd (omega arith);
    overlaps = λ k h. absurd (omega arith);
    ends = λ k h. absurd (omega arith);
    steps = λ k h. absurd (omega arith);
  }
  chained-under (suc l) e =
      let ls : List ℕ = levels over n in
      let i : ℕ = first_of_level ls l in
      let c : List ℕ = chain_to over ls l i in
      let f : FirstPlace (at_level ls l) (length ls) i = top-first l e in
      let r : ChainedTo over ls c l i = chained-to l i (omega (arith, f.within, length-levels over n)) (eqb-true (get_or ls i 0) l f.passes) in
      let m : length c ≡ suc l = r.many in
      record {
        many = m ∙ sym e;
        rows = λ k h. omega (arith, r.rows k (omega arith), f.within);
        in_order = λ k h. (r.steps k (omega arith)).within;
        overlaps = λ k h. and_left (over (get_or c k 0) (get_or c (suc k) 0)) (at_level ls k (get_or c k 0)) (r.steps k (omega arith)).passes;
        ends = λ k h. let q : k ≡ l = omega arith in rw (q, r.ends) f;
        steps = λ k h. r.steps k (omega arith);
      }

  pub chain-holds : ChainHolds over n
  chain-holds = chained-under (level_count (levels over n)) refl
