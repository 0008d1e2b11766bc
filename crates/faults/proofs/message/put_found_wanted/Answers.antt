-- Each part is put behind the one before.
use Rattle.faults.specs.Message.{found_wanted}
use Rattle.faults.proofs.message.put_found_wanted.Goals as goal

pub returns : goal.returns
unfolding found_wanted
returns g c =
    let then = g.met.S.Sink.then in
    then _ _ _ _ _ (then _ _ _ _ _ (then _ _ _ _ _ c.put.ensures c.put_found.ensures) c.put-2.ensures) c.put-3.ensures
