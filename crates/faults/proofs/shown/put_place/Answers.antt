-- Each part is put behind the one before.
use Rattle.faults.specs.Shown.{place_text}
use Rattle.faults.proofs.shown.put_place.Goals as goal

pub returns : goal.returns
unfolding place_text
returns g c =
    let then = g.met.S.Sink.then in
    then _ _ _ _ _ (then _ _ _ _ _ c.put_number.ensures c.put.ensures) c.put_number-2.ensures
