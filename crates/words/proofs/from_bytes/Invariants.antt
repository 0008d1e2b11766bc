-- What is still to be laid, over what is there, is the whole.
use Rattle.std.proofs.Common.{◌≡◌, drop}
use Rattle.words.specs.Words.{laid}
use Rattle.words.specs.Bytes.{words_in}
use Rattle.words.proofs.from_bytes.Given as goal

abbrev pub invariant-loop-i : goal.invariant-loop-i
invariant-loop-i l = laid l.i (drop l.i (words_in l.bytes)) l.out ≡ laid 0 (words_in l.bytes) l.initial.out
