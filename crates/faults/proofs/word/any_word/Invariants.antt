-- What is left decides.
use Rattle.std.proofs.Common.{◌≡◌, drop}
use Rattle.faults.specs.Meant.{any_word}
use Rattle.faults.proofs.word.any_word.Given as goal

abbrev pub invariant-loop-candidate : goal.invariant-loop-candidate
invariant-loop-candidate l = any_word l.word (drop l.candidate-index l.among) ≡ any_word l.word l.among
