-- The line of a brace is put before those that are left.
use Rattle.canon.proofs.Blanks.{one-less}
use Rattle.canon.proofs.nodes.put_ends.Goals as goal

pub loop-preserved : goal.loop-preserved
loop-preserved g c = λ s h.
    c.loop.invariant s (rw (one-less c.args.count c.loop.counter c.loop-test.true, ← c.saturating_sub-depth.ensures)
    (g.met.S.Sink.then _ _ _ _ _ c.put_indent.ensures (g.met.S.Sink.then _ _ _ _ _ c.put.ensures h)))
