-- The prefix is right where it has no bits beyond its length.
use Rattle.std.proofs.Common.{◌∙◌, sym, arith}
use Rattle.values.proofs.Right.{right-is_zeros, ok-from, host_bits-from}
use Rattle.values.proofs.prefixes.prefix_from.Goals as goal

pub returns-then-is_right : goal.returns-then-is_right
returns-then-is_right c =
    ok-from c.args.address c.args.length
    (sym (right-is_zeros c.args.address c.args.length (omega arith) (omega arith)) ∙ sym c.is_right.ensures ∙ c.if-is_right.true)

pub returns-else-is_right : goal.returns-else-is_right
returns-else-is_right c =
    host_bits-from c.args.address c.args.length
    (sym (right-is_zeros c.args.address c.args.length (omega arith) (omega arith)) ∙ sym c.is_right.ensures ∙ c.if-is_right.false)
