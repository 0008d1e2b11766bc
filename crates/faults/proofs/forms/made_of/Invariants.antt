-- What is left decides.
use Rattle.std.proofs.Common.{◌≡◌, drop}
use Rattle.faults.specs.Cures.{made_of}
use Rattle.faults.proofs.forms.made_of.Given as goal

abbrev pub invariant-loop-byte : goal.invariant-loop-byte
invariant-loop-byte l = made_of l.first l.second (drop l.byte-index l.word) ≡ made_of l.first l.second l.word
