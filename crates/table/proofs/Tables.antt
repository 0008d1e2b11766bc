-- Tables against their rows: each row by its place, what the check passes, and rows written and read; by induction over the rows. Assumes nothing.
use Prim.Native.Nat.{ℕ, zero, suc, ◌+◌, ◌*◌, ◌%◌, ◌≤◌, ◌<◌}
use native.Mathlib.Omega.{arith}
use mathlib.Core.Path.{◌≡◌, refl, sym, ap, ap₂, ◌∙◌}
use mathlib.Core.Bool.{Bool, true, not, ◌&&◌}
use mathlib.Core.List.{List, [], ◌∷◌, ◌++◌, map}
use lib.Dec.{eqb, leb}
use lib.ListN.{length, get_or, take, drop, length-drop, length-map, take-append-drop, get_or-map}
use lib.Seq.{take_all, length-take-le}
use borrow.Author.Tests.{eqb-true, eq-eqb, leb-true, le-leb, not-true, not-false}
use Rattle.logic.proofs.Tests.{by-test, by_le, and_left, and_right, and_both}
use Rattle.words.specs.Records.{records, rows_of, flat}
use Rattle.words.proofs.RecordLaws.{length-records, records-at, rows-flat, flat-at}
use Rattle.theory.specs.declared.Row.{Row}
use Rattle.theory.specs.Number.{FirstPlace}
use Rattle.flow.specs.Match.{match_of, is_empty, right_match}
use Rattle.flow.specs.declared.Match.{Match}
use Rattle.action.specs.declared.Action.{Action}
use Rattle.action.proofs.Words.{right-words}
use Rattle.row.specs.Row.{row_length, most_rows, row_of, row_words, right_row, right_row_match, right_row_action, RightRow}
use Rattle.row.specs.Row.{rows_in, table_rows}
use Rattle.row.specs.Spelled.{row-some, row-long, row_back}
use Rattle.row.proofs.RowLaws.{words_count, action-read, words_back}
use Rattle.refusal.specs.Refusals.{refusal_at}
use Rattle.refusal.specs.declared.Reason.{Reason}
use Rattle.refusal.specs.declared.Reason.TheVariants.{WrongTable, WrongRow}
use Rattle.refusal.specs.declared.Refusal.{Refusal}
use Rattle.table.specs.Table.{row_count, past, right_length, first_wrong, check_rows, check_of, row_at, RightTable}
use Rattle.table.specs.Theorems.{CheckExactly, CheckFirst, TableRows, TableWords, RowsRead, RowsWritten}
use Rattle.std.specs.Prelude.{Result, Ok, Err}
use Rattle.logic.proofs.Lists.{all-at, all_map}

-- a table has as many rows as its row count says
pub length-rows : (ws : List ℕ) → length (rows_in ws) ≡ row_count ws
unfolding rows_of
length-rows ws = length-map (records (row_count ws) row_length ws) row_of ∙ length-records (row_count ws) row_length ws

-- row i of a table is that of the words of row i
pub row-at : (ws : List ℕ) (i : ℕ) → i < row_count ws → get_or (rows_in ws) i past ≡ row_of (row_at ws i)
unfolding rows_of
row-at ws i h = get_or-map row_of (records (row_count ws) row_length ws) i [] ∙ ap row_of (records-at (row_count ws) row_length i ws h)

-- the match of row i, as its words are read; past the last row there are none
pub match-read : (ws : List ℕ) (rows : List (List ℕ)) (i : ℕ) (row : List ℕ) → rows ≡ records (row_count ws) row_length ws
    → row ≡ get_or rows i [] → match_of row ≡ (get_or (rows_in ws) i past).matching
unfolding rows_of
match-read ws rows i row e d =
    let same : row ≡ get_or (records (row_count ws) row_length ws) i [] = d ∙ ap (λ (rs : List (List ℕ)). get_or rs i []) e in
    ap match_of same ∙ ap (λ r. r.matching) (sym (get_or-map row_of (records (row_count ws) row_length ws) i []))

-- a row whose words are right is right, and a right row has right words
pub row-right : (ws : List ℕ) → right_row ws ≡ true → RightRow (row_of ws)
unfolding right_row right_row_match
row-right ws h =
    let m : Bool = right_match (match_of ws) in
    let some : Bool = not (is_empty (match_of ws)) in
    let both : (m && some) ≡ true = and_left (m && some) (right_row_action ws) h in
    record {
      matching = and_left m some both;
      not_empty = not-true (is_empty (match_of ws)) (and_right m some both);
      action = action-read ws (and_right (m && some) (right_row_action ws) h);
    }

pub words_right : (r : Row Match Action) → RightRow r → right_row (row_words r) ≡ true
unfolding right_row right_row_match right_row_action
words_right r h = and_both (and_both h.matching (ap not h.not_empty)) (right-words r.action ∙ h.action)

pub right-action : (ws : List ℕ) → right_row ws ≡ true → right_row_action ws ≡ true
unfolding right_row
right-action ws h = and_right (right_row_match ws && not (is_empty (match_of ws))) (right_row_action ws) h

-- the two answers of a check of records
abbrev counted : ℕ → Result ℕ Refusal
counted n = Ok n

abbrev pub named : Reason → ℕ → Result ℕ Refusal
named why i = Err (refusal_at why i)

-- a check of records, of which each is to be right
module _ (right : List ℕ → Bool) (why : Reason) where
  -- where all are right, it counts them; where record j is the first that is not, it names it
  pub check-counts : (i : ℕ) (rs : List (List ℕ)) → ((j : ℕ) → j < length rs → right (get_or rs j []) ≡ true)
      → first_wrong right why i rs ≡ counted (i + length rs)
  check-counts i [] f = let e : i ≡ i + 0 = omega arith in ap counted e
  check-counts i (r ∷ rs) f =
      let e : suc i + length rs ≡ i + suc (length rs) = omega arith in
      rw (f 0 (omega arith)) (check-counts (suc i) rs (λ j h. f (suc j) (omega arith)) ∙ ap counted e)

  pub check-names : (i j : ℕ) (rs : List (List ℕ)) → FirstPlace (λ k. not (right (get_or rs k []))) (length rs) j
      → first_wrong right why i rs ≡ named why (i + j)
  check-names i j [] f = absurd (omega (arith, f.within))
  check-names i zero (r ∷ rs) f = let e : i ≡ i + 0 = omega arith in rw (not-true (right r) f.passes) (ap (named why) e)
  check-names i (suc j) (r ∷ rs) f =
      let e : suc i + j ≡ i + suc j = omega arith in
      rw (not-false (right r) (f.skips 0 (omega arith)))
      (check-names (suc i) j rs (record { within = omega (arith, f.within); passes = f.passes; skips = λ k h. f.skips (suc k) (omega arith) })
      ∙ ap (named why) e)

  -- and a check that passes went over all of them, and they are right
  pub check-total : (i n : ℕ) (rs : List (List ℕ)) → first_wrong right why i rs ≡ counted n → n ≡ i + length rs
  check-total i n [] e = let c : i ≡ n = cc in omega (arith, c)
  check-total i n (r ∷ rs) e =
      by-test (right r)
      (λ t. let e' : first_wrong right why (suc i) rs ≡ counted n = rw t at e in omega (arith, check-total (suc i) n rs e'))
      (λ t. let e' : named why i ≡ counted n = rw t at e in let z : ◌≡◌ {A = ℕ} 0 1 = cc in absurd (omega arith))

  pub check-passed : (i n : ℕ) (rs : List (List ℕ)) → first_wrong right why i rs ≡ counted n → (j : ℕ) → j < length rs → right (get_or rs j []) ≡ true
  check-passed i n [] e j h = absurd (omega arith)
  check-passed i n (r ∷ rs) e zero h = by-test (right r) (λ t. t) (λ t. let e' : named why i ≡ counted n = rw t at e in cc)
  check-passed i n (r ∷ rs) e (suc j) h =
      by-test (right r)
      (λ t. let e' : first_wrong right why (suc i) rs ≡ counted n = rw t at e in check-passed (suc i) n rs e' j (omega arith))
      (λ t. let e' : named why i ≡ counted n = rw t at e in cc)

-- the rows of a table, as the check goes over them
module _ (ws : List ℕ) where
  abbrev each : List (List ℕ)
  each = records (row_count ws) row_length ws

  each_at : (i : ℕ) → i < length each → get_or each i [] ≡ row_at ws i
  each_at i h = records-at (row_count ws) row_length i ws (omega (arith, length-records (row_count ws) row_length ws))

  table-passes : RightTable ws → check_of ws ≡ counted (row_count ws)
  unfolding check_of check_rows right_length
  table-passes t =
      let n : length each ≡ row_count ws = length-records (row_count ws) row_length ws in
      let e : 0 + length each ≡ row_count ws = omega arith in
      rw (eq-eqb (length ws % row_length) 0 t.whole, le-leb (row_count ws) most_rows t.few)
      (check-counts right_row WrongRow 0 each (λ j h. rw (each_at j h) (t.rows j (omega arith))) ∙ ap counted e)

  pub passes-right : (n : ℕ) → check_of ws ≡ counted n → RightTable ws
  unfolding check_of check_rows right_length
  passes-right n e =
      let whole : Bool = eqb (length ws % row_length) 0 in
      let few : Bool = leb (row_count ws) most_rows in
      by-test (whole && few)
      (λ t.
      let e' : first_wrong right_row WrongRow 0 each ≡ counted n = rw t at e in
      record {
        whole = eqb-true (length ws % row_length) 0 (and_left whole few t);
        few = leb-true (row_count ws) most_rows (and_right whole few t);
        rows = λ i h.
            let l : i < length each = omega (arith, length-records (row_count ws) row_length ws) in
            rw (← each_at i l) (check-passed right_row WrongRow 0 n each e' i l);
      })
      (λ t. let e' : ◌≡◌ {A = Result ℕ Refusal} (Err (refusal_at WrongTable 0)) (counted n) = rw t at e in let z : ◌≡◌ {A = ℕ} 0 1 = cc in absurd (omega arith))

pub check-exactly : CheckExactly
check-exactly ws n = (
  λ e. let t : RightTable ws = passes-right ws n e in let e' : counted (row_count ws) ≡ counted n = sym (table-passes ws t) ∙ e in (t, cc),
  λ t. table-passes ws t.0 ∙ ap counted (sym t.1),
)

pub check-first : CheckFirst
unfolding check_of check_rows
check-first ws i t f =
    let n : length (each ws) ≡ row_count ws = length-records (row_count ws) row_length ws in
    let e : 0 + i ≡ i = omega arith in
    let same : (j : ℕ) → j < row_count ws → get_or (each ws) j [] ≡ row_at ws j = λ j h. each_at ws j (omega arith) in
    rw t
    (check-names right_row WrongRow 0 i (each ws)
    (record {
      within = omega (arith, f.within);
      passes = rw (same i f.within) f.passes;
      skips = λ j h. rw (same j (omega (arith, f.within))) (f.skips j h);
    })
    ∙ ap (named WrongRow) e)

right-each : (ws : List ℕ) → RightTable ws → (j : ℕ) → j < length (each ws) → right_row (get_or (each ws) j []) ≡ true
right-each ws t j h = rw (each_at ws j h) (t.rows j (omega (arith, length-records (row_count ws) row_length ws)))

pub table-rows : TableRows
unfolding rows_of
table-rows ws t = all_map RightRow row_of [] (each ws) (λ j h. row-right (get_or (each ws) j []) (right-each ws t j h))

-- so is the row at each place
pub right-row-at : (ws : List ℕ) → RightTable ws → (i : ℕ) → i < row_count ws → RightRow (get_or (rows_in ws) i past)
right-row-at ws t i h = all-at RightRow past (rows_in ws) i (table-rows ws t) (omega (arith, length-rows ws))

pub rows-read : RowsRead
rows-read = rows-flat row_length row_of row-some row_words row-long row_back

pub table-words : TableWords
table-words N f h =
    let e : length (flat row_words N) ≡ length N * row_length = words_count N in
    record {
      whole = rw e (omega arith);
      few = rw e (omega arith);
      rows = λ i g.
          let l : i < length N = omega arith in
          rw (flat-at row_length row_words row-long N past i l) (words_right (get_or N i past) (all-at RightRow past N i f l));
    }

-- right rows that are read are written again
words-again : (n : ℕ) (ws : List ℕ) → length ws ≡ n * row_length → ((j : ℕ) → j < n → right_row (get_or (records n row_length ws) j []) ≡ true)
    → flat row_words (map row_of (records n row_length ws)) ≡ ws
words-again zero [] e f = refl
words-again zero (w ∷ ws) e f = absurd (omega arith)
words-again (suc n) ws e f =
    let l : length (take row_length ws) ≡ row_length = length-take-le row_length ws (omega arith) in
    ap₂ (λ x y. x ++ y)
    (words_back (take row_length ws) l (right-action (take row_length ws) (f 0 (omega arith))))
    (words-again n (drop row_length ws) (length-drop row_length ws ∙ omega arith) (λ j h. f (suc j) (omega arith)))
    ∙ take-append-drop row_length ws

pub rows_written : RowsWritten
unfolding rows_of
rows_written ws t =
    let n : length (each ws) ≡ row_count ws = length-records (row_count ws) row_length ws in
    words-again (row_count ws) ws (omega (arith, t.whole)) (λ j h. right-each ws t j (omega arith))

-- rows at the front of a table that are a right table fit into it
pub rows-within : (n : ℕ) (t : List ℕ) → check_of (table_rows n t) ≡ counted n → n * row_length ≤ length t
rows-within n t e =
    let q : n ≡ row_count (table_rows n t) = ((check-exactly (table_rows n t) n).0 e).1 in
    by_le (n * row_length) (length t) (λ h. h) (λ h.
    let z : n ≡ row_count t = q ∙ ap row_count (take_all (n * row_length) t (omega arith)) in
    absurd (omega arith))
