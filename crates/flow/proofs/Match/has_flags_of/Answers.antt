-- No flag of the other is left where this one has each.
use Rattle.flow.proofs.Flags.{has-flags}
use Rattle.std.proofs.Common.{arith}
use Rattle.flow.proofs.Match.has_flags_of.Goals as goal

pub returns : goal.returns
returns c = has-flags c.args.self c.args.other (omega arith)
