-- Once the lines of the words that are left are put, all are.
use Rattle.std.proofs.Common.{◌≡◌}
use Rattle.decimals.specs.Text.{lines_text}
use Rattle.decimals.proofs.lines.put_lines.Given as goal

abbrev pub invariant-loop-record : goal.invariant-loop-record
invariant-loop-record g l = record {
  size : l.record-iterator.size ≡ l.size;
  whole : (s : _) → g.S.Sink.gives l.sink (lines_text l.size l.record-iterator.rest.now) s → g.S.Sink.gives l.fn.sink (lines_text l.size l.words) s;
}
