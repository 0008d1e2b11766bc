-- What is left decides.
use Rattle.std.proofs.Common.{◌≡◌, drop}
use Rattle.faults.specs.Meant.{meant}
use Rattle.faults.proofs.word.meant.Given as goal

abbrev pub invariant-loop-candidate : goal.invariant-loop-candidate
invariant-loop-candidate l = meant l.word (drop l.candidate-index l.among) ≡ meant l.word l.among
