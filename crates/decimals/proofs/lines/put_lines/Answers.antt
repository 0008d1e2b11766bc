-- A turn puts the next line.
use Rattle.std.proofs.Common.{rules}
use Rattle.decimals.proofs.Laid.{no-lines, next-line}
use Rattle.decimals.proofs.lines.put_lines.Goals as goal

pub loop-record-preserved : goal.loop-record-preserved
loop-record-preserved g c = record {
  size = search rules;
  whole = λ s h.
      let steps = c.in-Some.ensures.steps in
      c.loop-record.invariant.whole s
      (rw (next-line c.args.size _ _ _ _ c.requires c.loop-record.invariant.size steps.1.0 steps.1.1 steps.1.2)
      (g.met.S.Sink.then _ _ _ _ _ c.put_line.ensures h));
}

pub returns : goal.returns
returns g c =
    c.loop-record.invariant.whole _
    (rw (no-lines c.args.size _ c.in-None.ensures.steps.1.0) (g.met.S.Sink.none _))
