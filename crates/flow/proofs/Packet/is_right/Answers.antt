-- The addresses have 32 bits since they are u32, and the rest is the definition.
use Rattle.std.proofs.Common.{arith, ◌^◌}
use borrow.Author.Tests.{lt-ltb}
use Rattle.flow.specs.Packet.{right_packet}
use Rattle.flow.proofs.Packet.is_right.Goals as goal

pub returns : goal.returns
unfolding right_packet
returns c = rw (lt-ltb c.args.self.source (2 ^ 32) (omega arith), lt-ltb c.args.self.destination (2 ^ 32) (omega arith))
