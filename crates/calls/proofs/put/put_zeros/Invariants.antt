-- As many zeros as turns are put in.
use Rattle.words.specs.Words.{zeros}
use Rattle.words.specs.Records.{flat}
use Rattle.words.specs.Bytes.{bytes_of}
use Rattle.calls.proofs.put.put_zeros.Given as goal

abbrev pub invariant-loop : goal.invariant-loop
invariant-loop g l = g.S.Sink.gives l.initial.sink (flat bytes_of (zeros l.counter)) l.sink
