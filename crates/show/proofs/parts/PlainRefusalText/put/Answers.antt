-- Each part is put behind the one before.
use Rattle.show.specs.Text.{refusal}
use Rattle.show.proofs.parts.PlainRefusalText.put.Goals as goal

pub returns : goal.returns
unfolding refusal
returns g c =
    let then = g.met.S.Sink.then in
    then _ _ _ _ _ (then _ _ _ _ _ c.put.ensures c.put_number.ensures) c.put_number-2.ensures
