-- Packets in text: the laws of their crate, and the cases by computing them.
use Rattle.std.proofs.Common.{refl}
use Rattle.std.specs.Fmt.{digits}
use Rattle.field.specs.Prefix.{zero_beyond}
use Rattle.values.specs.Numbers.{number_of}
use Rattle.values.specs.Prefixes.{address_of, prefix_of}
use Rattle.values.specs.Words.{protocol_of}
use Rattle.packet_text.specs.Reading.{port_at, address_at, protocol_in, protocol_at, values_at, packet_read}
use Rattle.packet_text.specs.Text.{packet_text}
use Rattle.packet_text.proofs.Ranges.{read-right}
use Rattle.packet_text.proofs.Printed.{read-printed}
use Rattle.command_promises.specs.Packets.{PacketCases, PacketsRead}

-- the texts as they stand
packet-cases : PacketCases
unfolding digits zero_beyond number_of address_of prefix_of protocol_of port_at address_at protocol_in protocol_at values_at packet_read packet_text
packet-cases = record {
  printed = refl;
  numbered = refl;
  seventh = refl;
  too_large = refl;
}

pub packets_read : PacketsRead
packets_read = (read-right, read-printed, packet-cases)
