-- Each part is put behind the one before.
use Rattle.canon.proofs.operators.put_table.Goals as goal

pub returns : goal.returns
returns g c =
    let then = g.met.S.Sink.then in
    then _ _ _ _ _ c.put.ensures (then _ _ _ _ _ c.put_indent.ensures (then _ _ _ _ _ c.put_spaces.ensures
    (then _ _ _ _ _ c.put_padded.ensures (then _ _ _ _ _ c.put_padded-2.ensures (then _ _ _ _ _ c.put-2.ensures
    (then _ _ _ _ _ c.put_cell_line.ensures (then _ _ _ _ _ c.put_cell_line-2.ensures (then _ _ _ _ _ c.put_cell_line-3.ensures c.put-3.ensures))))))))
