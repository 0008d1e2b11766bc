use Rattle.std.proofs.Common.{◌≡◌, ◌≤◌, ◌+◌, drop}
use Rattle.tokens.specs.Place.{newlines, behind_newline}
use Rattle.tokens.proofs.place.place_of.Given as goal

abbrev pub invariant-loop-byte : goal.invariant-loop-byte
invariant-loop-byte l =
    (l.newlines + newlines (drop l.byte-index l.before) ≡ newlines l.before)
    × (behind_newline l.behind (drop l.byte-index l.before) ≡ behind_newline 0 l.before)
    × (l.newlines + l.behind ≤ l.byte-index)
