use Rattle.std.proofs.Common.{◌-◌}
use Rattle.canon.specs.Text.{ends_text}
use Rattle.canon.proofs.nodes.put_ends.Given as goal

-- once the lines that are left are put, all are
abbrev pub invariant-loop : goal.invariant-loop
invariant-loop g l =
    (s : _) → g.S.Sink.gives l.sink (ends_text (l.count - l.counter) l.depth) s → g.S.Sink.gives l.fn.sink (ends_text l.count l.fn.depth) s
