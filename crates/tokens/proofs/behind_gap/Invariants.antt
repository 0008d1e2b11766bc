use Rattle.std.proofs.Common.{◌≡◌, false, drop}
use Rattle.tokens.specs.Tokens.{behind_gap}
use Rattle.tokens.proofs.behind_gap.Given as goal

abbrev pub invariant-loop-i : goal.invariant-loop-i
invariant-loop-i l = behind_gap l.inside (drop l.i l.bytes) ≡ behind_gap false l.bytes
