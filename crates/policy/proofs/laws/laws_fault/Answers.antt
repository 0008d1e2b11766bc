-- The fault of the operator of a turn is the answer.
use Rattle.std.proofs.Common.{ap, ◌∙◌}
use Rattle.std.proofs.lemmas.Result.{err_from_is_err_and}
use Rattle.words.proofs.Chunks.{left-next}
use Rattle.policy.specs.Numbers.{operator_length_in}
use Rattle.policy.specs.Cells.{operator_rows}
use Rattle.policy.proofs.Each.{hit}
use Rattle.policy.specs.Whole.{nodes_by_words, operator_fault}
use Rattle.policy.proofs.NodeWords.{operator-long, operators-next}
use Rattle.policy.proofs.laws.laws_fault.Goals as goal

pub returns-in_err-operator_fault : goal.returns-in_err-operator_fault
returns-in_err-operator_fault c =
    let l = c.loop-i in
    let g = c.args in
    let k = operator_length_in g.edition in
    let more = left-next k l.i-iterator.iter c.next.new.self.iter c.in-Some.operator (operator-long g.edition) l.invariant.size c.in-Some.ensures.steps.0 in
    let p = err_from_is_err_and c.from_residual.result c.from_residual.ensures.1 in
    rw (p.1, p.2, ← c.in_err-operator_fault.was)
    (hit (operator_fault (nodes_by_words g.nodes.now)) l.i-iterator.count 1 l.invariant.same
    (ap (operator_rows g.edition) more ∙ operators-next g.edition _ _) (rw c.in-Some.ensures.steps.1 at c.operator_fault.ensures)
    c.in_err-operator_fault.was)
