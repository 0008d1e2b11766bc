-- What was taken is answered.
use Rattle.calls.specs.Calls.{read}
use Rattle.calls.specs.Taken.{slice_in}
use Rattle.calls.proofs.Takes.{answers_some}
use Rattle.calls.proofs.calls.Room.answer_read.Goals as goal

pub returns : goal.returns
returns g c =
    answers_some g.R.Read.remaining g.S.Sink.gives slice_in (λ f. read f) _ _ _ _ _ _ c.in_ok-file.ensures.taken
    (rw c.read.ensures at c.reply.ensures)
