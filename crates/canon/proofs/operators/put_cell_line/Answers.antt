-- Each part is put behind the one before.
use Rattle.canon.proofs.operators.put_cell_line.Goals as goal

pub returns : goal.returns
returns g c =
    let then = g.met.S.Sink.then in
    rw (← c.cell_word.ensures, ← c.cell_word-2.ensures, ← c.cell_word-3.ensures) (then _ _ _ _ _ c.put_indent.ensures (then _ _ _ _ _ c.put_padded.ensures
    (then _ _ _ _ _ c.put_padded-2.ensures (then _ _ _ _ _ c.put_padded-3.ensures (then _ _ _ _ _ c.put.ensures c.put-2.ensures)))))
