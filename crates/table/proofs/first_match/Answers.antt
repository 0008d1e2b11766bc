-- The first row that is met is the scan's; where there is none, all were tried.
use Rattle.std.proofs.Common.{sym, ap, ◌∙◌, ◌+◌}
use Rattle.row.specs.Row.{row_action}
use Rattle.table.proofs.First.{gives, lying-first, lying-none}
use Rattle.table.proofs.first_match.Goals as goal

pub returns-in-Some : goal.returns-in-Some
returns-in-Some g c =
    let at = c.in-Some.place in
    ap (λ a. gives a (at + 1)) (c.row_action.ensures ∙ ap row_action c.row_words.ensures)
    ∙ lying-first c.args.packet g.R.LyingRow.row_words c.args.rows.now at _ c.index-rows-place.is (sym c.first_met.ensures ∙ c.in-Some.is)

pub returns-in-None : goal.returns-in-None
returns-in-None g c = lying-none c.args.packet g.R.LyingRow.row_words c.args.rows.now (sym c.first_met.ensures ∙ c.in-None.is)
