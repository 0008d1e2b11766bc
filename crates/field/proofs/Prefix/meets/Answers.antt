-- At the shorter length, either prefix may be held against the other's address.
use Rattle.field.specs.Prefix.{address_bits, prefixes_meet}
use Rattle.field.proofs.Prefixes.{one-test, min-picked}
use Rattle.field.proofs.Prefix.meets.Goals as goal

pub returns : goal.returns
unfolding prefixes_meet
returns c = rw (c.contains.ensures, c.min.ensures, min-picked, one-test address_bits)
