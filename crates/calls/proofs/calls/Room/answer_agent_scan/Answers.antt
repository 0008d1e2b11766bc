-- What was taken is answered.
use Rattle.calls.specs.Calls.{agent_scan}
use Rattle.calls.specs.Taken.{three_lent_in}
use Rattle.calls.proofs.Takes.{answers_some}
use Rattle.calls.proofs.calls.Room.answer_agent_scan.Goals as goal

pub returns : goal.returns
returns g c =
    answers_some g.R.Read.remaining g.S.Sink.gives three_lent_in (λ x. agent_scan x.0 x.1 x.2) _ _ _ _ _ _ c.in_ok-table.ensures.taken
    c.reply_agent_scan.ensures.given
