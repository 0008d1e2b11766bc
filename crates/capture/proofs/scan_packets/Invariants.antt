-- What is found for the packets that are left is still to be stored.
use Rattle.std.proofs.Common.{◌≡◌, ◌+◌, ◌*◌, length}
use Rattle.words.specs.Words.{laid}
use Rattle.words.specs.Records.{flat}
use Rattle.capture.specs.Capture.{found_length, packet_count, words_for, captured_words}
use Rattle.capture.specs.Left.{packets_left}
use Rattle.capture.proofs.scan_packets.Given as goal

abbrev pub invariant-loop-i : goal.invariant-loop-i
invariant-loop-i l = record {
  rest :
      laid (l.i-iterator.count * found_length) (flat (words_for l.table.units.now) (packets_left l.i-iterator.iter)) l.answers
      ≡ laid 0 (captured_words l.table.units.now l.packets) l.fn.answers;
  all : l.i-iterator.count + length (packets_left l.i-iterator.iter) ≡ packet_count l.packets;
  long : length l.answers ≡ length l.fn.answers;
}
