-- The packets that the iterator still has to give are left to test.
use Rattle.std.proofs.Common.{◌≡◌}
use Rattle.words.proofs.Chunks.{left, Going}
use Rattle.flow.specs.Packet.{packet_length, right_packet_words}
use Rattle.refusal.specs.declared.Reason.TheVariants.{WrongPacket}
use Rattle.table.specs.Table.{first_wrong}
use Rattle.capture.specs.Capture.{check_packets}
use Rattle.capture.proofs.check_packets.Given as goal

abbrev pub invariant-loop-i : goal.invariant-loop-i
invariant-loop-i l = record {
  going : Going packet_length l.packets l.i-iterator;
  rest : first_wrong right_packet_words WrongPacket l.i-iterator.count (left packet_length l.i-iterator.iter) ≡ check_packets l.packets;
}
