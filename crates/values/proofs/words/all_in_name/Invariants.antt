-- What is left decides.
use Rattle.std.proofs.Common.{◌≡◌, drop}
use Rattle.values.specs.Words.{all_in_name}
use Rattle.values.proofs.words.all_in_name.Given as goal

abbrev pub invariant-loop-byte : goal.invariant-loop-byte
invariant-loop-byte l = all_in_name (drop l.byte-index l.word) ≡ all_in_name l.word
