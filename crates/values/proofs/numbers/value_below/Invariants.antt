-- The digits behind the place make of the number so far what all digits make of 0.
use Rattle.std.proofs.Common.{◌≡◌, ◌^◌, ◌<◌, drop}
use Rattle.values.specs.Numbers.{value_below}
use Rattle.values.proofs.numbers.value_below.Given as goal

abbrev pub invariant-loop-byte : goal.invariant-loop-byte
invariant-loop-byte l = record { low : l.value < 2 ^ 32; rest : value_below l.value (drop l.byte-index l.word) ≡ value_below 0 l.word }
