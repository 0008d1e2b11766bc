-- A switch under a right numbering: a matching row before the one obeyed would overlap it and have a higher number, so the one obeyed is the first.
use Rattle.std.proofs.Common.{ℕ, ◌<◌, arith, ◌≡◌, sym, ◌∙◌, Bool, true, List, get_or, length}
use mathlib.Core.Bool.{false≢true}
use Rattle.logic.proofs.Tests.{by-test, by_le}
use Rattle.theory.specs.declared.Row.{Row}
use Rattle.theory.specs.Rows.{matches_at}
use Rattle.theory.specs.Number.{FirstPlace, rows_overlap, levels, priorities, Right, Obeyed}
use Rattle.theory.specs.Theorems.{Overlapping, SwitchScan, SwitchPriorities, SwitchFirst}
use Rattle.theory.proofs.Places.{scan-place}
use Rattle.theory.proofs.Levels.{priorities-right}

module _ {M P A : Type 0} (meets : M → P → Bool) (overlap : M → M → Bool) (overlapping : Overlapping meets overlap)
    (d : Row M A) (N : List (Row M A)) (q : ℕ → ℕ) (right : Right (rows_overlap overlap d N) (length N) q) (p : P) where
  -- Of two matching rows the earlier has the higher number.
  matching-higher : (j i : ℕ) → j < i → i < length N → matches_at meets d N p j ≡ true → matches_at meets d N p i ≡ true → q i < q j
  matching-higher j i h k s t = right j i h k (overlapping (get_or N j d).matching (get_or N i d).matching p s t)

  obeyed-first : (i : ℕ) → Obeyed meets d N q p i → FirstPlace (matches_at meets d N p) (length N) i
  obeyed-first i o = record {
    within = o.within;
    passes = o.matches;
    skips = λ j h. by-test (matches_at meets d N p j)
        (λ t. absurd (omega (arith, matching-higher j i h o.within t o.matches, o.highest j (omega (arith, o.within)) t)))
        (λ t. t);
  }

module _ {M P A : Type 0} (meets : M → P → Bool) (dont_care : A) (overlap : M → M → Bool) where
  pub switch-scan : SwitchScan meets dont_care overlap
  switch-scan overlapping d N q right p i o = sym (scan-place meets dont_care d N p i (obeyed-first meets overlap overlapping d N q right p i o)).0

  pub switch-priorities : SwitchPriorities meets dont_care overlap
  switch-priorities overlapping d N =
      switch-scan overlapping d N (λ k. get_or (priorities (levels (rows_overlap overlap d N) (length N))) k 0)
      (priorities-right (rows_overlap overlap d N) (length N))

  pub switch-first : SwitchFirst meets dont_care overlap
  switch-first overlapping d N q right p i f = record {
    within = f.within;
    matches = f.passes;
    highest = λ j h t. by_le j i
        (λ l. by_le i j
        (λ m. let e : j ≡ i = omega arith in rw e (omega arith))
        (λ m. absurd (false≢true (sym (f.skips j m) ∙ t))))
        (λ l. omega (arith, matching-higher meets overlap overlapping d N q right p i j l h f.passes t));
  }
