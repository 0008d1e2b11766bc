-- The rows that the compile leaves pass the table's check: each is right, and they are not too many. Assumes nothing.
use Rattle.std.proofs.Common.{◌≤◌, arith, sym, ap, subst, ◌∙◌, List, length}
use Rattle.theory.specs.declared.Row.{Row}
use Rattle.flow.specs.declared.Match.{Match}
use Rattle.action.specs.declared.Action.{Action}
use Rattle.row.specs.Row.{most_rows, table_rows}
use Rattle.table.specs.Table.{row_count, RightTable}
use Rattle.table.proofs.Tables.{check-exactly, table-words}
use Rattle.compile.specs.Compile.{compiled_rows, table_after}
use Rattle.compile.specs.Theorems.{AnswerTells}
use Rattle.compile.proofs.Answered.{answers-rows}
use Rattle.row.proofs.RowLaws.{words_count}
use Rattle.text.specs.Theorems.{TableRight}

pub table-right : TableRight
table-right f t s n q =
    let k : AnswerTells f t s n = answers-rows f t s n q in
    let N : List (Row Match Action) = compiled_rows f k.layout in
    let few : length N ≤ most_rows = omega (arith, k.count, k.fits) in
    let table : RightTable (table_rows n (table_after f t s)) = subst RightTable (sym k.stands) (table-words N k.right few) in
    (check-exactly (table_rows n (table_after f t s)) n).1 (table, k.count ∙ omega (arith, words_count N) ∙ ap row_count (sym k.stands))
