-- The law on the first bit in which two numbers differ, at 32 bits.
use Rattle.std.proofs.Common.{arith}
use Rattle.field.specs.Prefix.{address_bits}
use Rattle.field.proofs.Prefixes.{zeros-test}
use Rattle.field.proofs.Prefix.contains.Goals as goal

pub returns : goal.returns
returns c = rw (c.min.ensures) (zeros-test address_bits c.args.self.address c.args.self.length c.args.address (omega arith) (omega arith))
