use Rattle.canon.specs.Text.{indent}
use Rattle.canon.proofs.parts.put_indent.Given as goal

-- the blanks of so many depths are put
abbrev pub invariant-loop : goal.invariant-loop
invariant-loop g l = g.S.Sink.gives l.fn.sink (indent l.counter) l.sink
