-- The bytes still to be laid, over what is there, are the whole.
use Rattle.std.proofs.Common.{◌≡◌}
use Rattle.words.specs.Words.{laid}
use Rattle.words.specs.Records.{flat}
use Rattle.words.specs.Bytes.{bytes_of}
use Rattle.words.proofs.Bytes.{bytes_ahead}
use Rattle.words.proofs.to_bytes.Given as goal

abbrev pub invariant-loop-i : goal.invariant-loop-i
invariant-loop-i l = bytes_ahead l.words l.i l.out ≡ laid 0 (flat bytes_of l.words) l.initial.out
