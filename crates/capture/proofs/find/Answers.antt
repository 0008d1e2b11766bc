-- The first row that is met is the scan's; where there is none, all were tried.
use Rattle.std.proofs.Common.{sym, ap, ◌∙◌}
use Rattle.table.proofs.First.{found-first, found-none}
use Rattle.capture.specs.Capture.{found_words}
use Rattle.capture.proofs.find.Goals as goal

pub returns-in-Some : goal.returns-in-Some
returns-in-Some c =
    rw (c.found_words.ensures, c.row_action.ensures) (ap found_words (found-first c.args.packet _ c.in-Some.place (sym c.first_met.ensures ∙ c.in-Some.is)))

pub returns-in-None : goal.returns-in-None
returns-in-None c =
    rw c.found_words-in-None.ensures (ap found_words (found-none c.args.packet _ (sym c.first_met.ensures ∙ c.in-None.is)))
