-- Each part is put behind the one before.
use Rattle.canon.proofs.parts.put_behind.Goals as goal

pub returns : goal.returns
returns g c =
    let then = g.met.S.Sink.then in
    then _ _ _ _ _ c.put.ensures (then _ _ _ _ _ c.put-2.ensures (then _ _ _ _ _ c.put-3.ensures c.put-4.ensures))
