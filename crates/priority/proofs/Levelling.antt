-- The loop that stores the levels: the levels of the rows that are done, then the words that were there. Assumes nothing.
use Prim.Native.Nat.{ℕ, ◌+◌, ◌≤◌, ◌<◌, max}
use native.Mathlib.Omega.{arith}
use native.Mathlib.Numerals.{add-one}
use mathlib.Core.Path.{◌≡◌, refl, sym, ap, ◌∙◌}
use mathlib.Core.List.{List, [], ◌∷◌, ◌++◌, append-nil}
use lib.ListN.{length, get_or, drop, set, length-set, drop_of_length-le, get_or-append}
use Rattle.theory.specs.Number.{above, levels, level_count}
use Rattle.theory.proofs.Levels.{above-prefix, level-below, length-levels}
use Rattle.table.specs.Table.{row_count}
use Rattle.priority.specs.Numbering.{over, levels_of}
use Rattle.priority.proofs.Back.{count-snoc, count-few}
use Rattle.priority.proofs.Stores.{store-next}

-- the buffer l, which was l₀, has the levels of the first i rows, and there are count of them
pub record Levelling (ws l₀ l : List ℕ) (i count : ℕ) : Type 0 where
  pub within : i ≤ length l
  pub same : length l ≡ length l₀
  pub done : l ≡ levels (over ws) i ++ drop i l₀
  pub counted : count ≡ level_count (levels (over ws) i)
  pub few : count ≤ i

pub levelling-start : (ws l : List ℕ) → Levelling ws l l 0 0
levelling-start ws l = record { within = omega arith; same = refl; done = refl; counted = refl; few = omega arith }

module _ {ws l₀ l : List ℕ} {i count : ℕ} (g : Levelling ws l₀ l i count) where
  -- the levels that are done are below their count
  pub levelling-below : (j : ℕ) → j < i → get_or l j 0 < count
  levelling-below j h =
      let ls : List ℕ = levels (over ws) i in
      let n : length ls ≡ i = length-levels (over ws) i in
      rw (g.done, g.counted, get_or-append ls (drop i l₀) 0 j (omega arith)) (level-below ls j (omega arith))

  module _ (h : i < length l) (v : ℕ) (e : v ≡ above (over ws) l i i) where
    -- the next level is by the rule over the levels that are done
    next_level : v ≡ above (over ws) (levels (over ws) i) i i
    next_level =
        e
        ∙ ap (λ x. above (over ws) x i i) g.done
        ∙ above-prefix (over ws) (levels (over ws) i) (drop i l₀) i i (omega (arith, length-levels (over ws) i))

    pub levelling-turn : (c : ℕ) → c ≡ max count (v + 1) → Levelling ws l₀ (set l i v) (i + 1) c
    levelling-turn c d =
        let n : length (set l i v) ≡ length l = length-set l i v in
        let more : levels (over ws) (i + 1) ≡ levels (over ws) i ++ (v ∷ []) =
        ap (levels (over ws)) (add-one i) ∙ ap (λ x. levels (over ws) i ++ (x ∷ [])) (sym next_level) in
        let c' : c ≡ level_count (levels (over ws) (i + 1)) =
        d ∙ ap (λ x. max x (v + 1)) g.counted ∙ sym (count-snoc (levels (over ws) i) v) ∙ ap level_count (sym more) in
        record {
          within = omega arith;
          same = n ∙ g.same;
          done = ap (λ x. set x i v) g.done
              ∙ store-next (levels (over ws) i) l₀ i v (length-levels (over ws) i) (omega (arith, g.same))
              ∙ ap (λ x. x ++ drop (i + 1) l₀) (sym more);
          counted = c';
          few = rw c' (count-few (over ws) (i + 1));
        }

  pub levelling-end : length l₀ ≡ row_count ws → length l ≤ i → (count ≡ level_count (levels_of ws)) × (l ≡ levels_of ws)
  unfolding levels_of
  levelling-end e h =
      let q : i ≡ row_count ws = omega (arith, g.within, g.same) in (
        g.counted ∙ ap (λ n. level_count (levels (over ws) n)) q,
        g.done
            ∙ ap (λ x. levels (over ws) i ++ x) (drop_of_length-le l₀ {i = i} (omega arith))
            ∙ append-nil (levels (over ws) i)
            ∙ ap (levels (over ws)) q,
      )
