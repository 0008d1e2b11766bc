-- Each part is put behind the one before.
use Rattle.faults.proofs.shown.put_prefix.Goals as goal

pub returns : goal.returns
returns g c =
    let then = g.met.S.Sink.then in
    then _ _ _ _ _ (then _ _ _ _ _ c.put_address.ensures c.put.ensures) c.put_number.ensures
