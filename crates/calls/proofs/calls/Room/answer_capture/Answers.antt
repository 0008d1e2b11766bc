-- What was taken is answered.
use Rattle.calls.specs.Calls.{capture}
use Rattle.calls.specs.Taken.{three_in}
use Rattle.calls.proofs.Takes.{answers_some}
use Rattle.calls.proofs.calls.Room.answer_capture.Goals as goal

pub returns : goal.returns
returns g c =
    answers_some g.R.Read.remaining g.S.Sink.gives three_in (λ x. capture x.0 x.1 x.2) _ _ _ _ _ _ c.in_ok-table.ensures.taken
    c.reply_capture.ensures.given
