-- Each part is put behind the one before.
use Rattle.faults.specs.Message.{no_name}
use Rattle.faults.proofs.message.put_no_name.Goals as goal

pub returns : goal.returns
unfolding no_name
returns g c =
    let then = g.met.S.Sink.then in
    then _ _ _ _ _ (then _ _ _ _ _ c.put.ensures c.put_shown.ensures) c.put-2.ensures
