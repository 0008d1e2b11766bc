use Rattle.std.proofs.Common.{sym, length}
use Rattle.std.proofs.lemmas.Result.{err_from_is_err_and}
use Rattle.tokens.specs.Left.{left}
use Rattle.tokens.specs.Tokens.{tokens_of}
use Rattle.tokens.proofs.Spans.{words-nonempty}
use Rattle.notation.specs.Views.{operator_entries, entries}
use Rattle.notation.proofs.ReadLaws.{policy-no-operators, policy-no-nodes, policy-more, policy-done, read-right}
use Rattle.notation.proofs.text.read.Goals as goal

pub returns-in_err-operators : goal.returns-in_err-operators
returns-in_err-operators c =
    let p = err_from_is_err_and c.from_residual.result c.from_residual.ensures.1 in
    rw (p.1, p.2) (policy-no-operators c.in_err-operators.field-0.0 (tokens_of c.args.text.now) (rw (sym c.of-tokens.ensures) c.in_err-operators.ensures))

pub returns-in_err-nodes : goal.returns-in_err-nodes
returns-in_err-nodes c =
    let p = err_from_is_err_and c.from_residual-in_err-nodes.result c.from_residual-in_err-nodes.ensures.1 in
    rw (p.1, p.2) (policy-no-nodes c.in_err-nodes.field-0.0 (tokens_of c.args.text.now) (left c.read_operators.new.tokens)
    (operator_entries c.in_ok-operators.operators.items) (rw (sym c.of-tokens.ensures) c.in_ok-operators.ensures) c.in_err-nodes.ensures)

pub returns-then-not-ended : goal.returns-then-not-ended
returns-then-not-ended c =
    rw (c.into.ensures, c.wrong.ensures) (policy-more (tokens_of c.args.text.now) (left c.read_operators.new.tokens) (left c.read_nodes.new.tokens)
    (operator_entries c.in_ok-operators.operators.items) (entries c.read_nodes.new.operators.items c.in_ok-nodes.nodes.items)
    (rw (sym c.of-tokens.ensures) c.in_ok-operators.ensures) c.in_ok-nodes.ensures cc)

pub new-requires : goal.new-requires
new-requires c =
    read-right (length c.args.text.now) (tokens_of c.args.text.now) (entries c.read_nodes.new.operators.items c.in_ok-nodes.nodes.items)
    (words-nonempty c.args.text.now)
    (policy-done (tokens_of c.args.text.now) (left c.read_operators.new.tokens) (left c.read_nodes.new.tokens)
    (operator_entries c.in_ok-operators.operators.items) (entries c.read_nodes.new.operators.items c.in_ok-nodes.nodes.items)
    (rw (sym c.of-tokens.ensures) c.in_ok-operators.ensures) c.in_ok-nodes.ensures cc)

pub returns : goal.returns
returns c =
    rw (c.new.ensures.operators, c.new.ensures.nodes)
    (policy-done (tokens_of c.args.text.now) (left c.read_operators.new.tokens) (left c.read_nodes.new.tokens)
    (operator_entries c.in_ok-operators.operators.items) (entries c.read_nodes.new.operators.items c.in_ok-nodes.nodes.items)
    (rw (sym c.of-tokens.ensures) c.in_ok-operators.ensures) c.in_ok-nodes.ensures cc)
