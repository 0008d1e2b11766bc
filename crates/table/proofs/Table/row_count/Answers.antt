-- As many as there are records.
use Rattle.table.proofs.Lying.{rows-count}
use Rattle.table.proofs.Table.row_count.Goals as goal

pub returns : goal.returns
returns g c = rows-count g.U.Row.LyingRow.row_words (g.U.Unit.words c.args.self.units.now) c.rows.result.now c.rows.ensures
