-- What the answer tells: 12 exactly where the rows outnumber the room, and of rows that they are right and in the table. Assumes nothing.
use Rattle.std.proofs.Common.{ℕ, ◌*◌, ◌-◌, arith, ◌≡◌, sym, ap, ◌∙◌, List, ◌++◌, length, take_at, Ok}
use Rattle.logic.proofs.Tests.{by_le}
use Rattle.theory.specs.declared.Row.{Row}
use Rattle.flow.specs.declared.Match.{Match}
use Rattle.action.specs.declared.Action.{Action}
use Rattle.row.specs.Row.{row_length, words_of, table_rows}
use Rattle.row.proofs.RowLaws.{words_count}
use Rattle.words.specs.Words.{zeros}
use Rattle.compile.specs.Compile.{room, compiled_rows}
use Rattle.compile.specs.Theorems.{RoomExactly, AnswersRows, AnswerTells}
use Rattle.compile.proofs.Ordered.{answered-in-order, by-order, no_value}
use Rattle.compile.proofs.RightRows.{rows-right}

pub room-exactly : RoomExactly
room-exactly f t s l e enough = (
  λ q. by_le (length (compiled_rows f l)) (room (length t)) (λ fits. no_value (((answered-in-order f t s).rows_answered l e enough fits).answer ∙ q)) (λ h. h),
  λ h. sym ((answered-in-order f t s).room_short l e enough h).answer,
)

pub answers-rows : AnswersRows
answers-rows f t s n =
    by-order f t s (λ x t' s'. x ≡ Ok n → AnswerTells f t s n)
    (λ r e q. no_value (sym q))
    (λ l e h q. no_value (sym q))
    (λ l e enough h q. no_value (sym q))
    (λ l e enough fits q.
    let N : List (Row Match Action) = compiled_rows f l in
    let zs : List ℕ = zeros (length t - length (words_of N)) in
    let many : length N ≡ n = cc in
    record {
      layout = l;
      accepted = e;
      count = sym many;
      fits = omega (arith, fits, many);
      right = rows-right f l e;
      stands = ap (table_rows n) (sym ((answered-in-order f t s).rows_answered l e enough fits).table)
          ∙ ap (λ k. table_rows k (words_of N ++ zs)) (sym many)
          ∙ take_at (words_of N) zs (length N * row_length) (words_count N);
    })
