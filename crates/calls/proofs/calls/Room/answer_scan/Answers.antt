-- What was taken is answered.
use Rattle.std.proofs.Common.{ap, ◌∙◌}
use Rattle.calls.specs.Replies.{of_table}
use Rattle.calls.specs.Calls.{scan}
use Rattle.calls.specs.Taken.{two_in}
use Rattle.calls.proofs.Takes.{answers_some}
use Rattle.calls.proofs.calls.Room.answer_scan.Goals as goal

pub returns : goal.returns
returns g c =
    answers_some g.R.Read.remaining g.S.Sink.gives two_in (λ x. scan x.0 x.1) _ _ _ _ _ _ c.in_ok-table.ensures.taken
    (rw (c.of_table.ensures ∙ ap of_table c.scan.ensures) at c.reply.ensures)
