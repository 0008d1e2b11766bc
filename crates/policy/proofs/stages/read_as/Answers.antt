-- Each stage is passed, or its fault is the answer.
use Rattle.std.proofs.Common.{sym, ap, ◌∙◌}
use Rattle.std.proofs.lemmas.Result.{err_from_is_err_and}
use Rattle.policy.proofs.Reading.{is-read, is-refused, nodes-few, told, good, at-operators, at-atoms, at-nodes, tests}
use Rattle.policy.proofs.stages.read_as.Goals as goal

pub returns-in_err-operators : goal.returns-in_err-operators
returns-in_err-operators c =
    let p = err_from_is_err_and c.from_residual-in_err-operators.result c.from_residual-in_err-operators.ensures.1 in
    rw (p.1, p.2)
    (at-operators _ _ (told c.header_fault.ensures c.in_ok-header_fault.was)
    (rw c.words.ensures at (is-refused _ _ _ c.read_section.ensures c.in_err-operators.was)))

pub returns-in_err-atoms : goal.returns-in_err-atoms
returns-in_err-atoms c =
    let p = err_from_is_err_and c.from_residual-in_err-atoms.result c.from_residual-in_err-atoms.ensures.1 in
    rw (p.1, p.2)
    (at-atoms _ _ (told c.header_fault.ensures c.in_ok-header_fault.was)
    (rw c.words.ensures at (is-read _ _ _ c.read_section.ensures c.in_ok-operators.was))
    (is-refused _ _ _ c.read_section-2.ensures c.in_err-atoms.was))

pub returns-in_err-nodes : goal.returns-in_err-nodes
returns-in_err-nodes c =
    let p = err_from_is_err_and c.from_residual-in_err-nodes.result c.from_residual-in_err-nodes.ensures.1 in
    rw (p.1, p.2)
    (at-nodes _ _ (told c.header_fault.ensures c.in_ok-header_fault.was)
    (rw c.words.ensures at (is-read _ _ _ c.read_section.ensures c.in_ok-operators.was))
    (is-read _ _ _ c.read_section-2.ensures c.in_ok-atoms.was) (is-refused _ _ _ c.read_section-3.ensures c.in_err-nodes.was))

pub returns-in_err-unless : goal.returns-in_err-unless
returns-in_err-unless c =
    let p = err_from_is_err_and c.from_residual-in_err-unless.result c.from_residual-in_err-unless.ensures.1 in
    let s = good c.header_fault.ensures c.in_ok-header_fault.was (ap (λ w. w.header) c.words.ensures) c.read_section.ensures c.in_ok-operators.was
    c.read_section-2.ensures c.in_ok-atoms.was c.read_section-3.ensures c.in_ok-nodes.was in
    rw (p.1, p.2) (sym (tests s ∙ rw (told c.unless.ensures c.in_err-unless.was)))

pub returns-in_err-shape_fault : goal.returns-in_err-shape_fault
returns-in_err-shape_fault c =
    let p = err_from_is_err_and c.from_residual-in_err-shape_fault.result c.from_residual-in_err-shape_fault.ensures.1 in
    let s = good c.header_fault.ensures c.in_ok-header_fault.was (ap (λ w. w.header) c.words.ensures) c.read_section.ensures c.in_ok-operators.was
    c.read_section-2.ensures c.in_ok-atoms.was c.read_section-3.ensures c.in_ok-nodes.was in
    rw (p.1, p.2) (sym (tests s ∙ rw (told c.unless.ensures c.in_ok-unless.was, told c.shape_fault.ensures c.in_err-shape_fault.was)))

pub sum_fault-requires : goal.sum_fault-requires
sum_fault-requires c = nodes-few (is-read _ _ _ c.read_section-3.ensures c.in_ok-nodes.was)

pub returns-in_err-sum_fault : goal.returns-in_err-sum_fault
returns-in_err-sum_fault c =
    let p = err_from_is_err_and c.from_residual-in_err-sum_fault.result c.from_residual-in_err-sum_fault.ensures.1 in
    let s = good c.header_fault.ensures c.in_ok-header_fault.was (ap (λ w. w.header) c.words.ensures) c.read_section.ensures c.in_ok-operators.was
    c.read_section-2.ensures c.in_ok-atoms.was c.read_section-3.ensures c.in_ok-nodes.was in
    rw (p.1, p.2)
    (sym (tests s
    ∙ rw (told c.unless.ensures c.in_ok-unless.was, told c.shape_fault.ensures c.in_ok-shape_fault.was, told c.sum_fault.ensures c.in_err-sum_fault.was)))

pub returns-in_err-laws_fault : goal.returns-in_err-laws_fault
returns-in_err-laws_fault c =
    let p = err_from_is_err_and c.from_residual-in_err-laws_fault.result c.from_residual-in_err-laws_fault.ensures.1 in
    let s = good c.header_fault.ensures c.in_ok-header_fault.was (ap (λ w. w.header) c.words.ensures) c.read_section.ensures c.in_ok-operators.was
    c.read_section-2.ensures c.in_ok-atoms.was c.read_section-3.ensures c.in_ok-nodes.was in
    rw (p.1, p.2)
    (sym (tests s
    ∙ rw (
      told c.unless.ensures c.in_ok-unless.was,
      told c.shape_fault.ensures c.in_ok-shape_fault.was,
      told c.sum_fault.ensures c.in_ok-sum_fault.was,
      told c.laws_fault.ensures c.in_err-laws_fault.was,
    )))

pub returns : goal.returns
returns c =
    let s = good c.header_fault.ensures c.in_ok-header_fault.was (ap (λ w. w.header) c.words.ensures) c.read_section.ensures c.in_ok-operators.was
    c.read_section-2.ensures c.in_ok-atoms.was c.read_section-3.ensures c.in_ok-nodes.was in
    sym (tests s
    ∙ rw (
      told c.unless.ensures c.in_ok-unless.was,
      told c.shape_fault.ensures c.in_ok-shape_fault.was,
      told c.sum_fault.ensures c.in_ok-sum_fault.was,
      told c.laws_fault.ensures c.in_ok-laws_fault.was,
    ))
