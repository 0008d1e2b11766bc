-- What was taken is answered.
use Rattle.calls.specs.Calls.{compile}
use Rattle.calls.specs.Taken.{three_in}
use Rattle.calls.proofs.Takes.{answers_some}
use Rattle.calls.proofs.calls.Room.answer_compile.Goals as goal

pub returns : goal.returns
returns g c =
    answers_some g.R.Read.remaining g.S.Sink.gives three_in (λ x. compile x.0 x.1 x.2) _ _ _ _ _ _ c.in_ok-file.ensures.taken
    c.reply_compile.ensures.given
