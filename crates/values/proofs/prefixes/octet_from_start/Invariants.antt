-- The digits behind the place make of the number so far what all digits make of 0.
use Rattle.std.proofs.Common.{◌≡◌, ◌≤◌, drop}
use Rattle.values.specs.Prefixes.{octet_from}
use Rattle.values.proofs.prefixes.octet_from_start.Given as goal

abbrev pub invariant-loop-place : goal.invariant-loop-place
invariant-loop-place l = record { low : l.value ≤ 255; rest : octet_from l.value (drop l.place l.word) ≡ octet_from 0 l.word }
