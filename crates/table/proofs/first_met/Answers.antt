-- The first place that passes the test, as `position` finds it.
use Rattle.std.proofs.Common.{rules, tests}
use Rattle.std.proofs.lemmas.Iterator.{YieldsList-from_slice}
use Rattle.std.proofs.lemmas.Iterator.Search.{position_from_yields_List}
use Rattle.table.specs.Scan.{met}
use Rattle.table.proofs.first_met.Goals as goal

pub returns : goal.returns
returns g c =
    position_from_yields_List (λ row. met c.args.packet (g.R.LyingRow.row_words row)) c.position.new.self _ c.position.result c.position.ensures.ran
    (YieldsList-from_slice c.args.rows.now c.iter.ensures.rest)
    (λ x b q k. search (rules, tests))
