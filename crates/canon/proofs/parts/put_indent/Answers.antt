-- The blanks of each depth are put behind those before them.
use Rattle.std.proofs.Common.{subst, List, ℕ}
use Rattle.canon.proofs.Blanks.{four-more}
use Rattle.canon.proofs.parts.put_indent.Goals as goal

pub loop-init : goal.loop-init
loop-init g c = g.met.S.Sink.none _

pub loop-preserved : goal.loop-preserved
loop-preserved g c =
    subst (λ (xs : List ℕ). g.S.Sink.gives c.args.sink.now xs c.put.new.self) (four-more c.loop.counter)
    (g.met.S.Sink.then _ _ _ _ _ c.loop.invariant c.put.ensures)
