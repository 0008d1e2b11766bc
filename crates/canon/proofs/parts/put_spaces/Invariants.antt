use Rattle.canon.specs.Text.{spaces}
use Rattle.canon.proofs.parts.put_spaces.Given as goal

-- so many blanks are put
abbrev pub invariant-loop : goal.invariant-loop
invariant-loop g l = g.S.Sink.gives l.fn.sink (spaces l.counter) l.sink
