-- Each part is put behind the one before.
use Rattle.faults.specs.Message.{say}
use Rattle.faults.proofs.message.put_say.Goals as goal

pub returns : goal.returns
unfolding say
returns g c =
    let then = g.met.S.Sink.then in
    then _ _ _ _ _ c.put.ensures c.put-2.ensures
