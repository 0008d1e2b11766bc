-- Each part is put behind the one before.
use Rattle.faults.specs.Message.{did_mean_either}
use Rattle.faults.proofs.message.put_mean_either.Goals as goal

pub returns : goal.returns
unfolding did_mean_either
returns g c =
    let then = g.met.S.Sink.then in
    then _ _ _ _ _ (then _ _ _ _ _ (then _ _ _ _ _ (then _ _ _ _ _ c.put.ensures c.put_prefix.ensures) c.put-2.ensures)
    c.put_address.ensures) c.put-3.ensures
