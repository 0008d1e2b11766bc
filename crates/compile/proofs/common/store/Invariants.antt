-- What is still to be laid, over what is there, is the whole.
use Rattle.std.proofs.Common.{◌≡◌, ◌+◌, drop}
use Rattle.words.specs.Words.{laid}
use Rattle.compile.proofs.common.store.Given as goal

abbrev pub invariant-loop-i : goal.invariant-loop-i
invariant-loop-i l = laid (l.at + l.i) (drop l.i l.words) l.out ≡ laid l.at l.words l.initial.out
