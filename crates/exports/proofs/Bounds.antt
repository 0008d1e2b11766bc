-- The numbers of an answer fit a word: a table that passes the check has no more than 4,096 rows. Assumes nothing.
use Prim.Native.Nat.{ℕ, suc, ◌+◌, ◌≤◌, ◌%◌}
use native.Mathlib.Omega.{arith}
use mathlib.Core.Bool.{◌&&◌}
use mathlib.Core.List.{List, [], ◌∷◌}
use lib.ListN.{length}
use lib.Dec.{eqb, leb}
use borrow.Author.Tests.{leb-true}
use Rattle.std.specs.Prelude.{Result, Ok, Err}
use Rattle.logic.proofs.Tests.{by-test, and_right}
use Rattle.words.specs.Records.{records}
use Rattle.words.proofs.RecordLaws.{length-records}
use Rattle.theory.specs.declared.Row.{Row}
use Rattle.theory.specs.Rows.{tried}
use Rattle.flow.specs.Match.{meets}
use Rattle.flow.specs.Packet.{packet_of, right_packet_words}
use Rattle.flow.specs.declared.Match.{Match}
use Rattle.flow.specs.declared.Packet.{Packet}
use Rattle.action.specs.declared.Action.{Action}
use Rattle.row.specs.Row.{row_length, most_rows, right_row, rows_in}
use Rattle.refusal.specs.Refusals.{answer_place}
use Rattle.refusal.specs.declared.Refusal.{Refusal}
use Rattle.refusal.specs.declared.Reason.TheVariants.{WrongRow}
use Rattle.table.specs.Table.{row_count, right_length, first_wrong, check_rows, check_of}
use Rattle.table.specs.Scan.{found, where_right, scan_of, scan_tried}
use Rattle.table.proofs.Tables.{length-rows}
use Rattle.theory.specs.Number.{level_count}
use Rattle.priority.specs.Numbering.{levels_of, numbered, number_of}

place_from : (i : ℕ) (rs : List (List ℕ)) → answer_place (first_wrong right_row WrongRow i rs) ≤ i + length rs
place_from i [] = omega arith
place_from i (r ∷ rs) =
    by-test (right_row r)
    (λ t. rw t (omega (arith, place_from (suc i) rs)))
    (λ t. rw t (omega arith))

place_within : (ws : List ℕ) → answer_place (check_of ws) ≤ most_rows
unfolding check_of check_rows right_length
place_within ws =
    by-test (right_length ws)
    (λ t.
    let few : row_count ws ≤ most_rows = leb-true (row_count ws) most_rows (and_right (eqb (length ws % row_length) 0) _ t) in
    let p = place_from 0 (records (row_count ws) row_length ws) in
    rw t (omega (arith, p, few, length-records (row_count ws) row_length ws)))
    (λ t. rw t (omega arith))

tried_within : (N : List (Row Match Action)) (p : Packet) → tried meets N p ≤ length N
tried_within [] p = omega arith
tried_within (r ∷ N) p =
    by-test (meets r.matching p)
    (λ t. rw t (omega arith))
    (λ t. rw t (omega (arith, tried_within N p)))

module _ (ws ps : List ℕ) where
  pub scan-place-small : answer_place (scan_of ws ps) ≤ most_rows
  unfolding scan_of
  scan-place-small =
      by-test (right_packet_words ps)
      (λ t. rw t (go (check_of ws) (place_within ws)))
      (λ t. rw t (omega arith))
    where
      go : (c : Result ℕ Refusal) → answer_place c ≤ most_rows → answer_place (where_right c (found 0 (rows_in ws) (packet_of ps))) ≤ most_rows
      go (Ok n) h = omega arith
      go (Err f) h = h

  pub scan-tried-small : scan_tried (scan_of ws ps) ≤ most_rows
  unfolding scan_of check_of right_length
  scan-tried-small =
      by-test (right_packet_words ps)
      (λ t. by-test (right_length ws)
      (λ u.
      let few : row_count ws ≤ most_rows = leb-true (row_count ws) most_rows (and_right (eqb (length ws % row_length) 0) _ u) in
      rw (t, u) (go (check_rows ws) few))
      (λ u. rw (t, u) (omega arith)))
      (λ t. rw t (omega arith))
    where
      go : (c : Result ℕ Refusal) → row_count ws ≤ most_rows → scan_tried (where_right c (found 0 (rows_in ws) (packet_of ps))) ≤ most_rows
      go (Ok n) h = omega (arith, tried_within (rows_in ws) (packet_of ps), length-rows ws)
      go (Err f) h = omega arith

pub number-place-small : (ws : List ℕ) (p c : ℕ) → answer_place (number_of ws p c) ≤ most_rows
unfolding number_of
number-place-small ws p c = go (check_of ws) (place_within ws) (level_count (levels_of ws))
  where
    go : (x : Result ℕ Refusal) → answer_place x ≤ most_rows → (l : ℕ) → answer_place (numbered x p c l) ≤ most_rows
    go (Ok n) h l = by-test (leb n p && leb n c) (λ t. rw t (omega arith)) (λ t. rw t (omega arith))
    go (Err f) h l = h
