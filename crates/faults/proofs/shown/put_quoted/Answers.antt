-- Each part is put behind the one before.
use Rattle.faults.specs.Shown.{quoted}
use Rattle.faults.proofs.shown.put_quoted.Goals as goal

pub returns : goal.returns
unfolding quoted
returns g c =
    let then = g.met.S.Sink.then in
    rw (← c.front.ensures) (rw (← c.closing.ensures)
    (then _ _ _ _ _ (then _ _ _ _ _ c.put.ensures c.put_shown.ensures) c.put-2.ensures))
