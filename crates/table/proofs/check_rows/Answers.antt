-- The search finds the first wrong row.
use Rattle.std.proofs.Common.{sym, ◌∙◌, not, rules, tests}
use Rattle.std.proofs.lemmas.Iterator.{YieldsList-from_slice}
use Rattle.std.proofs.lemmas.Iterator.Search.{position_from_yields_List}
use Rattle.refusal.specs.declared.Reason.TheVariants.{WrongRow}
use Rattle.row.specs.Row.{right_row}
use Rattle.table.proofs.Lying.{wrong-first, wrong-none}
use Rattle.table.proofs.check_rows.Goals as goal

pub returns-in-Some : goal.returns-in-Some
returns-in-Some g c =
    let found =
    position_from_yields_List (λ row. not (right_row (g.R.LyingRow.row_words row))) c.position.new.self _ c.position.result c.position.ensures.ran
    (YieldsList-from_slice c.args.rows.now c.iter.ensures.rest) (λ x b q k. search (rules, tests)) in
    rw c.at.ensures (wrong-first g.R.LyingRow.row_words right_row WrongRow c.args.rows.now _ (sym found ∙ c.in-Some.is))

pub returns-in-None : goal.returns-in-None
returns-in-None g c =
    let found =
    position_from_yields_List (λ row. not (right_row (g.R.LyingRow.row_words row))) c.position.new.self _ c.position.result c.position.ensures.ran
    (YieldsList-from_slice c.args.rows.now c.iter.ensures.rest) (λ x b q k. search (rules, tests)) in
    wrong-none g.R.LyingRow.row_words right_row WrongRow c.args.rows.now (sym found ∙ c.in-None.is)
