-- What was taken is answered.
use Rattle.calls.specs.Calls.{hidden}
use Rattle.calls.specs.Taken.{slice_in}
use Rattle.calls.proofs.Takes.{answers_some}
use Rattle.calls.proofs.calls.Room.answer_hidden.Goals as goal

pub returns : goal.returns
returns g c =
    answers_some g.R.Read.remaining g.S.Sink.gives slice_in (λ t. hidden t) _ _ _ _ _ _ c.in_ok-table.ensures.taken
    c.reply_hidden.ensures.given
