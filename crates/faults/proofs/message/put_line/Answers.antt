-- Each part is put behind the one before.
use Rattle.faults.specs.Message.{line}
use Rattle.faults.proofs.message.put_line.Goals as goal

pub returns : goal.returns
unfolding line
returns g c =
    let then = g.met.S.Sink.then in
    then _ _ _ _ _ (then _ _ _ _ _ (then _ _ _ _ _ (then _ _ _ _ _ c.put_place.ensures c.put.ensures) c.put_sentence.ensures)
    c.put_cure.ensures) c.put-2.ensures
