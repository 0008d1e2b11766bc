-- Each part is put behind the one before.
use Rattle.canon.proofs.matches.put_dotted.Goals as goal

pub returns : goal.returns
returns g c =
    let then = g.met.S.Sink.then in
    then _ _ _ _ _ (then _ _ _ _ _ (then _ _ _ _ _ (then _ _ _ _ _ (then _ _ _ _ _ (then _ _ _ _ _ c.put_number.ensures c.put.ensures)
    c.put_number-2.ensures) c.put-2.ensures) c.put_number-3.ensures) c.put-3.ensures) c.put_number-4.ensures
