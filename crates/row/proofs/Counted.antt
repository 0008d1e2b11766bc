-- Matches and packets keep what is asked for the count of a compile's rows. Assumes nothing.
use Rattle.std.proofs.Common.{◌≡◌, true}
use Rattle.theory.specs.Shuffle.{CountLaws}
use Rattle.flow.specs.Packet.{right_packet}
use Rattle.flow.specs.Match.{is_empty, right_match, meets, common}
use Rattle.flow.proofs.Any.{any, any-right, any-lives, any-met}
use Rattle.flow.proofs.Laws.{meets-common, met-exactly, common-right}
use Rattle.flow.proofs.Tests.{meets-empty}

-- the laws, with the match that constrains nothing as the one that all packets in range meet
pub count-laws : CountLaws meets common is_empty any (λ m. right_match m ≡ true) (λ p. right_packet p ≡ true)
count-laws = record {
  meets_common = meets-common;
  meets_empty = meets-empty;
  common_right = common-right;
  met_in_range = λ m r live. let s = (met-exactly m r).0 live in (s.packet, (s.in_range, s.left));
  top_right = any-right;
  top_lives = any-lives;
  top_met = any-met;
}
