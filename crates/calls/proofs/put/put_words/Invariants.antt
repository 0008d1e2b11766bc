-- What is still to be put in goes behind what was, and then it is all.
use Rattle.std.proofs.Common.{◌≡◌}
use Rattle.words.specs.Records.{flat}
use Rattle.words.specs.Bytes.{bytes_of}
use Rattle.calls.specs.declared.put.TheConstants.{BLOCK}
use Rattle.calls.proofs.put.put_words.Given as goal

abbrev pub invariant-loop-block : goal.invariant-loop-block
invariant-loop-block g l = record {
  size : l.block-iterator.size ≡ BLOCK;
  whole : (s : _) → g.S.Sink.gives l.sink (flat bytes_of l.block-iterator.rest.now) s → g.S.Sink.gives l.initial.sink (flat bytes_of l.words) s;
}
