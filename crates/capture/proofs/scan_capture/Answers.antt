-- By what the tests of the packets, of the table and of the buffer find.
use Rattle.std.proofs.Common.{sym, ◌∙◌, arith}
use Rattle.std.proofs.lemmas.Result.{err_from_is_err_and}
use Rattle.table.proofs.Tested.{tested-passes}
use Rattle.capture.proofs.Passed.{passes, packets-refused, table-refused, buffer-refused, all-taken, stays, stored}
use Rattle.capture.proofs.scan_capture.Goals as goal

pub returns-in_err-count-clause-value : goal.returns-in_err-count-clause-value
returns-in_err-count-clause-value c =
    let p = err_from_is_err_and c.from_residual.result c.from_residual.ensures.1 in
    rw (p.1, p.2) (sym (packets-refused _ _ _ (sym c.check_packets.ensures ∙ c.in_err-count.was)))

pub returns-in_err-count-clause-answers_after : goal.returns-in_err-count-clause-answers_after
returns-in_err-count-clause-answers_after c = sym (stays _ _ _ (packets-refused _ _ _ (sym c.check_packets.ensures ∙ c.in_err-count.was)))

pub returns-in_err-table-clause-value : goal.returns-in_err-table-clause-value
returns-in_err-table-clause-value c =
    let p = err_from_is_err_and c.from_residual-in_err-table.result c.from_residual-in_err-table.ensures.1 in
    rw (p.1, p.2) (sym (table-refused _ _ _ (sym c.check_packets.ensures ∙ c.in_ok-count.was) (rw c.in_err-table.was at c.try_from.ensures)))

pub returns-in_err-table-clause-answers_after : goal.returns-in_err-table-clause-answers_after
returns-in_err-table-clause-answers_after c =
    sym (stays _ _ _ (table-refused _ _ _ (sym c.check_packets.ensures ∙ c.in_ok-count.was) (rw c.in_err-table.was at c.try_from.ensures)))

pub overflow_mul-count : goal.overflow_mul-count
overflow_mul-count c = omega (arith, (passes _ _ (sym c.check_packets.ensures ∙ c.in_ok-count.was)).few)

pub returns-then-answers-count-clause-value : goal.returns-then-answers-count-clause-value
returns-then-answers-count-clause-value c =
    let passed = sym c.check_packets.ensures ∙ c.in_ok-count.was in
    rw c.at.ensures (sym (buffer-refused _ _ _ passed (tested-passes c.in_ok-table.table.right c.in_ok-table.ensures) c.if-answers-count.true))

pub returns-then-answers-count-clause-answers_after : goal.returns-then-answers-count-clause-answers_after
returns-then-answers-count-clause-answers_after c =
    sym (stays _ _ _
    (buffer-refused _ _ _ (sym c.check_packets.ensures ∙ c.in_ok-count.was) (tested-passes c.in_ok-table.table.right c.in_ok-table.ensures)
    c.if-answers-count.true))

pub scan_packets-requires : goal.scan_packets-requires
scan_packets-requires c = omega (arith, c.if-answers-count.false, (passes _ _ (sym c.check_packets.ensures ∙ c.in_ok-count.was)).count)

pub returns-clause-value : goal.returns-clause-value
returns-clause-value c =
    sym (all-taken _ _ _ (sym c.check_packets.ensures ∙ c.in_ok-count.was) (tested-passes c.in_ok-table.table.right c.in_ok-table.ensures)
    c.if-answers-count.false)

pub returns-clause-answers_after : goal.returns-clause-answers_after
returns-clause-answers_after c =
    rw (c.scan_packets.ensures, c.in_ok-table.ensures)
    (sym (stored _ _ _
    (all-taken _ _ _ (sym c.check_packets.ensures ∙ c.in_ok-count.was) (tested-passes c.in_ok-table.table.right c.in_ok-table.ensures)
    c.if-answers-count.false)))
