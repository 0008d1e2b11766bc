-- No write has taken a byte.
use Rattle.std.specs.Io.KnownBytes.{Keeps}
use Rattle.streams.proofs.output.write_part.Given as goal

abbrev pub invariant-loop : goal.invariant-loop
invariant-loop g l = Keeps (g.W.Write.contents l.initial.writer) (g.W.Write.contents l.writer)
