-- What the answer tells: the rows that stay are right as they were, and the scan finds the same without the others. Assumes nothing.
use Prim.Native.Nat.{ℕ, ◌*◌, ◌-◌, ◌≤◌}
use native.Mathlib.Omega.{arith}
use mathlib.Core.Path.{◌≡◌, refl, sym, ap, subst, ◌∙◌}
use mathlib.Core.List.{List, ◌++◌}
use lib.ListN.{length, take}
use lib.Seq.{take_at}
use Rattle.logic.proofs.Tests.{by-test}
use Rattle.words.specs.Words.{zeros}
use Rattle.theory.specs.Rows.{scan}
use Rattle.theory.proofs.HiddenLaws.{hidden-less, hidden-every, scan-hidden}
use Rattle.flow.specs.Packet.{packet_of, right_packet_words}
use Rattle.flow.specs.Match.{meets, inside}
use Rattle.flow.proofs.Inside.{inside-meets}
use Rattle.action.specs.declared.Action.{Action}
use Rattle.action.specs.declared.Action.TheVariants.{DontCare}
use Rattle.row.specs.Row.{row_length, most_rows, RightRow, rows_in, words_of, table_rows}
use Rattle.table.specs.Table.{row_count, check_of, RightTable}
use Rattle.refusal.specs.Refusals.{answer_number}
use Rattle.refusal.specs.declared.Refusal.{Refusal}
use Rattle.table.specs.Scan.{scan_action}
use Rattle.std.specs.Prelude.{Result, Ok, Err}
use Rattle.table.proofs.Tables.{length-rows, check-exactly, table-rows, table-words, rows-read}
use Rattle.table.proofs.Scans.{scan-found, scan-refused}
use Rattle.hidden.specs.Hidden.{kept_rows, kept_words, kept_by, kept_of, table_by, table_kept}
use Rattle.hidden.specs.Theorems.{KeptTells, KeptRows, RightKept, RefusedExactly, RefusedStays, SameAction}
use Rattle.hidden.proofs.Passed.{counted, kept-long}

-- the words of the rows that stay of a right table are a right table of so many rows
kept-right : (ws : List ℕ) → RightTable ws → check_of (kept_words ws) ≡ counted (length (kept_rows ws))
unfolding kept_words
kept-right ws t =
    let few : length (kept_rows ws) ≤ most_rows = omega (arith, hidden-less Action inside (rows_in ws), length-rows ws, t.few) in
    let words : RightTable (words_of (kept_rows ws)) = table-words (kept_rows ws) (hidden-every Action inside RightRow (rows_in ws) (table-rows ws t)) few in
    (check-exactly (words_of (kept_rows ws)) (length (kept_rows ws))).1 (words, omega (arith, kept-long ws))

-- what is told of a right table
module _ (ws : List ℕ) (n : ℕ) (e : check_of ws ≡ counted n) where
  right : RightTable ws
  right = ((check-exactly ws n).0 e).0

  pub told : KeptTells ws (length (kept_rows ws))
  unfolding table_kept kept_words
  told =
      let k : length (kept_words ws) ≡ length (kept_rows ws) * row_length = kept-long ws in
      let rest : List ℕ = zeros (length ws - length (kept_words ws)) in
      let after : table_kept ws ≡ kept_words ws ++ rest = ap (table_by ws) e in
      let front : table_rows (length (kept_rows ws)) (table_kept ws) ≡ kept_words ws =
      ap (take (length (kept_rows ws) * row_length)) after ∙ take_at (kept_words ws) rest _ k in
      record {
        right = right;
        count = refl;
        fewer = omega (arith, hidden-less Action inside (rows_in ws), length-rows ws);
        rows = ap rows_in front ∙ rows-read (kept_rows ws);
        check = ap check_of front ∙ kept-right ws right;
        words = after;
      }

pub right_kept : RightKept
unfolding kept_of
right_kept ws t = ap (kept_by ws) ((check-exactly ws (row_count ws)).1 (t, refl))

-- by what the check finds
by-check : (ws : List ℕ) (X : Result ℕ Refusal → Type 0) → ((n : ℕ) → check_of ws ≡ Ok n → X (Ok n))
    → ((f : Refusal) → check_of ws ≡ Err f → X (Err f))
    → X (check_of ws)
by-check ws X rows wrong = go (check_of ws) refl
  where
    go : (x : Result ℕ Refusal) → check_of ws ≡ x → X x
    go (Ok n) e = rows n e
    go (Err f) e = wrong f e

pub kept-rows : KeptRows
unfolding kept_of
kept-rows ws n = by-check ws (λ x. kept_by ws x ≡ Ok n → KeptTells ws n)
    (λ m c q. let many : length (kept_rows ws) ≡ n = cc in subst (KeptTells ws) many (told ws m c))
    (λ f c q. let z : ◌≡◌ {A = ℕ} 0 1 = cc in absurd (omega arith))

pub refused-exactly : RefusedExactly
unfolding kept_of
refused-exactly ws f = (
  by-check ws (λ x. kept_by ws x ≡ Err f → x ≡ Err f) (λ m c q. let z : ◌≡◌ {A = ℕ} 0 1 = cc in absurd (omega arith)) (λ g c q. q),
  λ e. ap (kept_by ws) e,
)

pub refused-stays : RefusedStays
unfolding table_kept
refused-stays ws f q = ap (table_by ws) ((refused-exactly ws f).0 q)

pub same-action : SameAction
same-action ws packet n e =
    let k : KeptTells ws n = kept-rows ws n e in
    let t : List ℕ = table_rows n (table_kept ws) in
    let right : RightTable t = ((check-exactly t n).0 k.check).0 in
    by-test (right_packet_words packet)
    (λ p.
    let after = scan-found t packet right p in
    let before = scan-found ws packet k.right p in (
      ap answer_number after ∙ sym (ap answer_number before),
      ap scan_action after
          ∙ ap (λ N. scan meets DontCare N (packet_of packet)) k.rows
          ∙ scan-hidden meets DontCare inside inside-meets (rows_in ws) (packet_of packet)
          ∙ sym (ap scan_action before),
    ))
    (λ p.
    let after = (scan-refused t packet).0 p in
    let before = (scan-refused ws packet).0 p in
    (ap answer_number after ∙ sym (ap answer_number before), ap scan_action after ∙ sym (ap scan_action before)))
