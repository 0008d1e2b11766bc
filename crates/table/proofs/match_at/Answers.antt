-- The words of the row at the place are read, and past the last row none.
use Rattle.std.proofs.Common.{◌∙◌, ap}
use Rattle.flow.specs.Match.{match_of}
use Rattle.table.proofs.Lying.{lying-match, past-match}
use Rattle.table.proofs.match_at.Goals as goal

pub returns-in-Some : goal.returns-in-Some
returns-in-Some g c =
    let at = c.in-Some.ensures.lookup.3 in
    c.read.ensures
    ∙ ap match_of c.row_words.ensures
    ∙ lying-match g.U.Row.LyingRow.row_words (g.U.Unit.words c.args.table.now) c.rows.result.now c.rows.ensures c.args.place _ at.0 (at.1 _)

pub returns-in-None : goal.returns-in-None
returns-in-None g c =
    c.read-in-None.ensures
    ∙ past-match g.U.Row.LyingRow.row_words (g.U.Unit.words c.args.table.now) c.rows.result.now c.rows.ensures c.args.place c.in-None.ensures.lookup.3
