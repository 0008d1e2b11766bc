-- Once the bytes that are left are put, those of the word are.
use Rattle.std.proofs.Common.{drop}
use Rattle.faults.specs.Shown.{shown}
use Rattle.faults.proofs.shown.put_shown.Given as goal

abbrev pub invariant-loop-byte : goal.invariant-loop-byte
invariant-loop-byte g l =
    (s : _) → g.S.Sink.gives l.sink (shown (drop l.byte-index l.word)) s
    → g.S.Sink.gives l.initial.sink (shown l.word) s
