use Rattle.std.proofs.Common.{◌≡◌, ◌+◌, drop}
use Rattle.tokens.specs.Tokens.{run}
use Rattle.tokens.proofs.run.Given as goal

abbrev pub invariant-loop-i : goal.invariant-loop-i
invariant-loop-i l = l.i + run (drop l.i l.bytes) ≡ run l.bytes
