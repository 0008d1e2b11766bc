-- What stands behind the digits that are left is what stands behind all.
use Rattle.std.proofs.Common.{◌≡◌, drop}
use Rattle.faults.specs.Cures.{behind_digits}
use Rattle.faults.proofs.forms.behind_digits.Given as goal

abbrev pub invariant-loop-place : goal.invariant-loop-place
invariant-loop-place l = behind_digits (drop l.place l.word) ≡ behind_digits l.word
