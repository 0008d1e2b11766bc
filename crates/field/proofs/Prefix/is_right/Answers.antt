-- In how many zeros the address ends tells what stands beyond the length.
use Rattle.std.proofs.Common.{arith}
use Rattle.field.specs.Prefix.{address_bits}
use Rattle.field.proofs.Prefixes.{right-test}
use Rattle.field.proofs.Prefix.is_right.Goals as goal

pub returns : goal.returns
returns c = right-test address_bits c.args.self.address c.args.self.length (omega arith)
