-- Each part is put behind the one before.
use Rattle.canon.specs.Text.{operator_text}
use Rattle.canon.proofs.operators.put_operator.Goals as goal

pub returns : goal.returns
unfolding operator_text
returns g c =
    let then = g.met.S.Sink.then in
    rw (← c.as_slice-name.ensures.value) (then _ _ _ _ _ c.put.ensures (then _ _ _ _ _ c.put-2.ensures c.put_cells.ensures))
