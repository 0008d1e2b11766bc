-- What stands behind the first slash of what is left is what stands behind that of the word.
use Rattle.std.proofs.Common.{◌≡◌, drop}
use Rattle.values.specs.Prefixes.{slash, behind}
use Rattle.faults.proofs.forms.behind_slash.Given as goal

abbrev pub invariant-loop-place : goal.invariant-loop-place
invariant-loop-place l = behind slash (drop l.place l.word) ≡ behind slash l.word
