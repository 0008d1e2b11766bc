-- What was taken is answered.
use Rattle.calls.specs.Sent.{most_bytes}
use Rattle.calls.specs.Calls.{list}
use Rattle.calls.specs.Taken.{text_in}
use Rattle.calls.proofs.Takes.{answers_some}
use Rattle.calls.proofs.calls.Room.answer_list.Goals as goal

pub returns : goal.returns
returns g c =
    answers_some g.R.Read.remaining g.S.Sink.gives (text_in most_bytes) (λ t. list t) _ _ _ _ _ _ c.in_ok-file.ensures.taken
    c.reply_listing.ensures
