-- The search for the first place that passes a test, as `position` makes it. Assumes nothing.
use Prim.Native.Nat.{ℕ, zero, suc, ◌+◌, ◌≤◌, ◌<◌}
use native.Mathlib.Omega.{arith}
use mathlib.Core.Path.{◌≡◌, refl, sym, ap, ap₂, ◌∙◌}
use mathlib.Core.Bool.{Bool, cond, ◌&&◌}
use mathlib.Core.List.{List, [], ◌∷◌}
use lib.Dec.{eqb, ltb}
use lib.ListN.{length, get_or, take}
use lib.Seq.{length-take-le, get_or-take}
use borrow.Author.Tests.{ltb-false}
use Rattle.std.specs.List.{position, position_or_len, zip}
use Rattle.std.specs.Option.{unwrap_or}
use Rattle.std.proofs.lemmas.List.Recursion.{is_position_or_len}
use Rattle.std.proofs.lemmas.Slice.Zip.{length-zip, get_or-zip}
use Rattle.logic.proofs.Tests.{by-test}
use Rattle.words.specs.Records.{records}
use Rattle.theory.specs.Number.{seek, overlaps_at, step_back}
use Rattle.flow.specs.Match.{match_of, overlap}
use Rattle.flow.specs.declared.Match.{Match}
use Rattle.table.specs.Table.{row_count, past}
use Rattle.table.proofs.Tables.{match-read}
use Rattle.priority.specs.Numbering.{over}
use Rattle.row.specs.Row.{row_length, rows_in}

-- the search goes no further than the places it has
pub seek-within : (test : ℕ → Bool) (n at : ℕ) → seek test n at ≤ at + n
seek-within test zero at = omega arith
seek-within test (suc n) at =
    by-test (test at) (λ t. rw t (omega arith)) (λ t. rw t (omega (arith, seek-within test n (suc at))))

-- the search among the places of a list, as `position` makes it
seek-suc : (test : ℕ → Bool) (n at : ℕ) → seek test n (suc at) ≡ suc (seek (λ j. test (suc j)) n at)
seek-suc test zero at = refl
seek-suc test (suc n) at = by-test (test (suc at)) (λ t. rw t) (λ t. rw t (seek-suc test n (suc at)))

module _ {A : Type 0} (d : A) (test : A → Bool) where
  seek-list : (xs : List A) → seek (λ j. test (get_or xs j d)) (length xs) 0 ≡ position_or_len test xs
  seek-list = is_position_or_len (λ l. seek (λ j. test (get_or l j d)) (length l) 0) test refl step
    where
      step : (x : A) (l : List A)
          → cond (test x) 0 (seek (λ j. test (get_or (x ∷ l) j d)) (length l) 1) ≡ cond (test x) 0 (1 + seek (λ j. test (get_or l j d)) (length l) 0)
      step x l =
          let e : seek (λ j. test (get_or (x ∷ l) j d)) (length l) 1 ≡ 1 + seek (λ j. test (get_or l j d)) (length l) 0 =
          omega (arith, seek-suc (λ j. test (get_or (x ∷ l) j d)) (length l) 0) in
          ap (cond (test x) 0) e

  pub first-position : (xs : List A) → unwrap_or (position test xs) (length xs) ≡ seek (λ j. test (get_or xs j d)) (length xs) 0
  first-position xs =
      let n : ℕ = position_or_len test xs in
      let found : seek (λ j. test (get_or xs j d)) (length xs) 0 ≡ n = seek-list xs in
      let most : seek (λ j. test (get_or xs j d)) (length xs) 0 ≤ 0 + length xs = seek-within (λ j. test (get_or xs j d)) (length xs) 0 in
      by-test (ltb n (length xs))
      (λ t. rw t (sym found))
      (λ t. let h : length xs ≤ n = ltb-false n (length xs) t in rw t (omega arith))

-- two tests that agree find the same
seek-same : (test test' : ℕ → Bool) (n at : ℕ) → ((j : ℕ) → j < at + n → test j ≡ test' j) → seek test n at ≡ seek test' n at
seek-same test test' zero at f = refl
seek-same test test' (suc n) at f =
    ap₂ (λ b k. cond b at k) (f at (omega arith)) (seek-same test test' n (suc at) (λ j h. f j (omega arith)))

-- the test of a level and a row, as a step back makes it
abbrev pub pair-test : Match → ℕ → ℕ × List ℕ → Bool
pair-test m l p = overlap (match_of p.1) m && eqb p.0 l

-- what it finds first among the levels and rows before a row
pub step-position : (ws ls : List ℕ) (rows : List (List ℕ)) (i l : ℕ) (m : Match) → m ≡ (get_or (rows_in ws) i past).matching
    → rows ≡ records (row_count ws) row_length ws → i ≤ length ls → i ≤ length rows
    → unwrap_or (position (pair-test m l) (zip (take i ls) (take i rows))) i ≡ step_back (over ws) ls i l
unfolding over
step-position ws ls rows i l m e d h k =
    let pairs : List (ℕ × List ℕ) = zip (take i ls) (take i rows) in
    let n : length (take i ls) ≡ i = length-take-le i ls h in
    let n' : length (take i rows) ≡ i = length-take-le i rows k in
    let q : length pairs ≡ i = length-zip (take i ls) (take i rows) ∙ omega arith in
    let same : (j : ℕ) → j < 0 + i → pair-test m l (get_or pairs j (0, [])) ≡ overlaps_at (over ws) ls i l j = λ j g.
    ap (pair-test m l) (get_or-zip (take i ls) (take i rows) j (0, []) (omega arith) (omega arith))
    ∙ rw (get_or-take i ls j 0 (omega arith), get_or-take i rows j [] (omega arith), match-read ws rows j (get_or rows j []) d refl, e) in
    ap (unwrap_or (position (pair-test m l) pairs)) (sym q)
    ∙ first-position (0, []) (pair-test m l) pairs
    ∙ ap (λ x. seek (λ j. pair-test m l (get_or pairs j (0, []))) x 0) q
    ∙ seek-same (λ j. pair-test m l (get_or pairs j (0, []))) (overlaps_at (over ws) ls i l) i 0 same
