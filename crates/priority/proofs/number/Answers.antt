-- What the check finds decides, and then whether the buffers are long enough.
use Rattle.std.proofs.Common.{◌≡◌, ◌*◌, ◌∙◌, ap, length, take}
use lib.Seq.{length-take-le}
use Rattle.std.proofs.lemmas.Result.{err_from_is_err_and}
use Rattle.table.specs.Table.{row_count, RightTable}
use Rattle.table.proofs.Tested.{tested-right}
use Rattle.priority.proofs.Whole.{wrong-table, short-buffer, long-enough, numbered-right}
use Rattle.priority.proofs.Lying.{lying-many, part-joined}
use Rattle.priority.proofs.number.Goals as goal

pub returns-in_err-table : goal.returns-in_err-table
returns-in_err-table g c =
    let a = c.args in
    let p = err_from_is_err_and c.from_residual.result c.from_residual.ensures.1 in
    rw (p.1, p.2)
    (wrong-table (g.U.Unit.words a.table.now) (g.U.Unit.words a.priorities.now) (g.U.Unit.words a.chain.now) _ (rw c.in_err-table.was at c.try_from.ensures))

pub returns-then-not-fits : goal.returns-then-not-fits
returns-then-not-fits g c =
    let ws = g.U.Unit.words c.args.table.now in
    let ps = g.U.Unit.words c.args.priorities.now in
    let cs = g.U.Unit.words c.args.chain.now in
    let word = g.U.Word.LyingWord.word in
    let same = rw c.in_ok-table.was at c.try_from.ensures in
    let short =
    rw (lying-many word ps c.words.result.now c.words.ensures, lying-many word cs c.words-2.result.now c.words-2.ensures) at c.if-not-fits.true in
    rw c.at.ensures (short-buffer ws ps cs _ (tested-right c.in_ok-table.table.right same, rw (← same) c.row_count-rows.ensures) short)

pub returns : goal.returns
returns g c =
    let ws = g.U.Unit.words c.args.table.now in
    let ps = g.U.Unit.words c.args.priorities.now in
    let cs = g.U.Unit.words c.args.chain.now in
    let word = g.U.Word.LyingWord.word in
    let n = c.row_count-rows.result in
    let same = rw c.in_ok-table.was at c.try_from.ensures in
    let numbers = rw same at c.put_numbers.ensures in
    let right : RightTable ws × (n ≡ row_count ws) = (tested-right c.in_ok-table.table.right same, rw (← same) c.row_count-rows.ensures) in
    let enough =
    rw (lying-many word ps c.words.result.now c.words.ensures, lying-many word cs c.words-2.result.now c.words-2.ensures) at c.if-not-fits.false in
    let room = (long-enough ws ps cs n right enough).0 in
    let units = c.args.priorities.now in
    let fits = g.met.U.Unit.fits n units room in
    let whole = c.put_numbers.auto.priorities ∙ ap (λ k. length (take (n * k) units)) c.SIZE.ensures ∙ length-take-le (n * g.U.Unit.SIZE) units fits in
    let part = part-joined g.U.Unit.words g.U.Unit.SIZE g.met.U.Unit.first g.met.U.Unit.joined n units fits c.put_numbers.new.priorities whole room in
    rw (c.SIZE.ensures, part) (numbered-right ws ps cs n right enough _ numbers.count _ numbers.priorities_after _ numbers.chain_after)
