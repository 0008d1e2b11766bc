-- A packet that meets two matches.
--
--   sampled flag m v    a value of the match m that is constrained by a flag, or else 0
--   sampled_protocol m  the protocol of m, if it is constrained; or else one that has ports, if a port is, and 0 if not
--   sample m            the packet of the constrained values of m
--   shared_of a b       the packet of what a and b constrain, if they overlap
use Rattle.std.specs.Prelude.{ℕ, Option, Some, None, if◌then◌else◌}
use Rattle.flow.specs.Match.{in_port_flag, protocol_flag, source_port_flag, destination_port_flag, port_flags}
use Rattle.flow.specs.Match.{constrains, tcp, overlap, common}
use Rattle.flow.specs.declared.Match.{Match}
use Rattle.flow.specs.declared.Packet.{Packet}

-- a constrained value, or else 0
abbrev pub sampled : ℕ → Match → ℕ → ℕ
sampled flag m v = if constrains flag m then v else 0

-- the protocol, or else one that has ports if a port is constrained
abbrev pub sampled_protocol : Match → ℕ
sampled_protocol m = if constrains protocol_flag m then m.protocol else (if constrains port_flags m then tcp else 0)

-- the packet of the constrained values
unfoldable pub sample : Match → Packet
sample m = record {
  in_port = sampled in_port_flag m m.in_port;
  source = m.source.address;
  destination = m.destination.address;
  protocol = sampled_protocol m;
  source_port = sampled source_port_flag m m.source_port;
  destination_port = sampled destination_port_flag m m.destination_port;
}

-- the packet of what two matches constrain, if they overlap
unfoldable pub shared_of : Match → Match → Option Packet
shared_of a b = if overlap a b then Some (sample (common a b)) else None
