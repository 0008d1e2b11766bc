-- The numbering from its parts: levels, chain and priorities of a right table, and the ways through the buffers' lengths. Assumes nothing.
use Prim.Native.Nat.{ℕ, ◌-◌, ◌≤◌, ◌<◌}
use native.Mathlib.Omega.{arith}
use mathlib.Core.Path.{◌≡◌, refl, sym, ap, ap₂, ◌∙◌}
use mathlib.Core.Bool.{true, false, ◌&&◌}
use mathlib.Core.List.{List, ◌++◌, map}
use lib.Dec.{leb}
use lib.ListN.{length, get_or, drop, length-map}
use borrow.Author.Tests.{leb-true}
use Rattle.logic.proofs.Tests.{and_left, and_right}
use Rattle.words.specs.Words.{laid}
use Rattle.theory.specs.Number.{level_count, chain_under}
use Rattle.theory.proofs.Levels.{level-below, length-levels}
use Rattle.table.specs.Table.{row_count, check_of, RightTable}
use Rattle.std.specs.Prelude.{Result, Ok, Err}
use Rattle.refusal.specs.Refusals.{refusal_at}
use Rattle.refusal.specs.declared.Reason.TheVariants.{ShortBuffer}
use Rattle.refusal.specs.declared.Refusal.{Refusal}
use Rattle.table.proofs.Tables.{check-exactly}
use Rattle.priority.specs.Numbering.{over, levels_of, priorities_of, chain_of, number_of, priorities_after, chain_after, Answered}
use Rattle.priority.proofs.Back.{count-few}
use Rattle.words.proofs.Laid.{laid-front}

-- a level for each row, and no more levels than rows
pub levels-many : (ws : List ℕ) → length (levels_of ws) ≡ row_count ws
unfolding levels_of
levels-many ws = length-levels (over ws) (row_count ws)

pub levels-few : (ws : List ℕ) → level_count (levels_of ws) ≤ row_count ws
unfolding levels_of
levels-few ws = count-few (over ws) (row_count ws)

-- and a priority for each row
pub priorities-many : (ws : List ℕ) → length (priorities_of ws) ≡ row_count ws
priorities-many ws = length-map (levels_of ws) (λ l. level_count (levels_of ws) - l) ∙ levels-many ws

-- what the levels that were stored are to the next steps
module _ (ws ls : List ℕ) (count : ℕ) (e : count ≡ level_count (levels_of ws)) (d : ls ≡ levels_of ws) where
  pub stored-many : length ls ≡ row_count ws
  stored-many = ap length d ∙ levels-many ws

  pub stored-count : count ≡ level_count ls
  stored-count = e ∙ ap level_count (sym d)

  pub stored-few : count ≤ row_count ws
  stored-few = rw e (levels-few ws)

  pub stored-below : (j : ℕ) → j < length ls → get_or ls j 0 ≤ count
  stored-below j h = rw (e, d) (let l : get_or (levels_of ws) j 0 < level_count (levels_of ws) = level-below (levels_of ws) j (rw (← d) h) in omega arith)

  pub stored-priorities : (l : List ℕ) → l ≡ map (λ x. count - x) ls → l ≡ priorities_of ws
  stored-priorities l h = h ∙ ap₂ (λ n k. map (λ x. n - x) k) e d

  pub stored-chain : (l l₀ : List ℕ) → l ≡ laid 0 (chain_under (over ws) ls count) l₀ → l ≡ laid 0 (chain_of ws) l₀
  stored-chain l l₀ h = h ∙ ap₂ (λ n k. laid 0 (chain_under (over ws) k n) l₀) e d

-- an answer of n
abbrev pub counting : ℕ → Result ℕ Refusal
counting n = Ok n

-- a table that is not right
pub wrong-table : (ws ps cs : List ℕ) (f : Refusal) → check_of ws ≡ Err f → Answered ws ps cs (Err f) ps cs
unfolding number_of priorities_after chain_after
wrong-table ws ps cs f d = rw d (refl, refl, refl)

module _ (ws ps cs : List ℕ) (n : ℕ) (t : RightTable ws × (n ≡ row_count ws)) where
  passed : check_of ws ≡ Ok n
  passed = (check-exactly ws n).1 t

  -- a buffer is too short
  pub short-buffer : (leb n (length ps) && leb n (length cs)) ≡ false → Answered ws ps cs (Err (refusal_at ShortBuffer 0)) ps cs
  unfolding number_of priorities_after chain_after
  short-buffer h = rw (passed, h) (refl, refl, refl)

  module _ (h : (leb n (length ps) && leb n (length cs)) ≡ true) where
    -- neither is
    pub long-enough : (n ≤ length ps) × (n ≤ length cs)
    long-enough = (
      leb-true n (length ps) (and_left (leb n (length ps)) (leb n (length cs)) h),
      leb-true n (length cs) (and_right (leb n (length ps)) (leb n (length cs)) h),
    )

    pub numbered-right : (count : ℕ) → count ≡ level_count (levels_of ws) → (out : List ℕ) → out ≡ priorities_of ws
        → (cs' : List ℕ) → cs' ≡ laid 0 (chain_of ws) cs → Answered ws ps cs (Ok count) (out ++ drop n ps) cs'
    unfolding number_of priorities_after chain_after
    numbered-right count e out d cs' f =
        rw (passed, h) (
          ap counting e,
          ap (λ x. x ++ drop n ps) d ∙ sym (laid-front (priorities_of ws) ps n (priorities-many ws ∙ sym t.1) long-enough.0),
          f,
        )
