-- What was taken is answered.
use Rattle.calls.specs.Calls.{tree_action}
use Rattle.calls.specs.Taken.{two_in}
use Rattle.calls.proofs.Takes.{answers_some}
use Rattle.calls.proofs.calls.Room.answer_tree_action.Goals as goal

pub returns : goal.returns
returns g c =
    answers_some g.R.Read.remaining g.S.Sink.gives two_in (λ x. tree_action x.0 x.1) _ _ _ _ _ _ c.in_ok-file.ensures.taken
    (rw c.tree_action.ensures at c.reply.ensures)
