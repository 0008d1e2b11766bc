-- What makes the words of a match and of a packet a spelling: how many they are, and that they are read back.
use Rattle.std.specs.Prelude.{◌<◌, ◌≡◌, refl, length}
use Rattle.std.proofs.Common.{arith}
use Rattle.flow.specs.Match.{match_length, match_of, match_words}
use Rattle.flow.specs.Packet.{packet_length, packet_of, packet_words}
use Rattle.flow.specs.declared.Match.{Match}
use Rattle.flow.specs.declared.Packet.{Packet}

-- a match and a packet have words
pub match-some : 0 < match_length
match-some = omega arith

pub packet-some : 0 < packet_length
packet-some = omega arith

-- as many as they are to have
pub match-long : (m : Match) → length (match_words m) ≡ match_length
match-long m = refl

pub packet-long : (p : Packet) → length (packet_words p) ≡ packet_length
packet-long p = refl

-- what is written is read again
pub match_back : (m : Match) → match_of (match_words m) ≡ m
match_back m = refl

pub packet_back : (p : Packet) → packet_of (packet_words p) ≡ p
packet_back p = refl
