-- A wrong length is told first; else the answer is that of the words.
use Rattle.std.proofs.Common.{◌∙◌, refl, sym, arith, [], ◌∷◌}
use Rattle.words.specs.Bytes.{words_in}
use Rattle.exports.specs.Exports.{scan_number, scan_answer}
use Rattle.exports.proofs.Bounds.{scan-place-small, scan-tried-small}
use Rattle.exports.proofs.Filled.{filled, answer-long}
use Rattle.exports.proofs.agent_scan.Goals as goal

pub returns-then-not-scan_right-clause-value : goal.returns-then-not-scan_right-clause-value
unfolding scan_number
returns-then-not-scan_right-clause-value c = rw (c.number.ensures, ← c.scan_right.ensures, c.if-not-scan_right.true) refl

pub returns-then-not-scan_right-clause-answer_after : goal.returns-then-not-scan_right-clause-answer_after
unfolding scan_answer
returns-then-not-scan_right-clause-answer_after c = rw (← c.scan_right.ensures, c.if-not-scan_right.true) refl

pub overflow_cast-tried : goal.overflow_cast-tried
overflow_cast-tried c =
    let is = sym c.scan_bytes.ensures ∙ c.in-Ok.is in
    omega (arith, rw is at (scan-tried-small (words_in c.args.table.now) (words_in c.args.packet.now)))

pub refuse-requires-clause-place : goal.refuse-requires-clause-place
refuse-requires-clause-place c =
    let is = sym c.scan_bytes.ensures ∙ c.in-Err.is in
    omega (arith, rw is at (scan-place-small (words_in c.args.table.now) (words_in c.args.packet.now)))

pub returns-in-Ok-clause-value : goal.returns-in-Ok-clause-value
unfolding scan_number
returns-in-Ok-clause-value c = rw (← c.scan_right.ensures, c.if-not-scan_right.false, ← c.scan_bytes.ensures, c.in-Ok.is) refl

pub returns-in-Ok-clause-answer_after : goal.returns-in-Ok-clause-answer_after
unfolding scan_answer
returns-in-Ok-clause-answer_after c =
    let room = answer-long _ c.args.answer.now (sym c.scan_right.ensures ∙ c.if-not-scan_right.false) in
    rw (← c.scan_right.ensures, c.if-not-scan_right.false, ← c.scan_bytes.ensures, c.in-Ok.is, ← c.kind.ensures.kind, ← c.rate.ensures)
    (c.to_bytes.ensures ∙ filled (0 ∷ c.kind.result ∷ c.rate.result ∷ c.in-Ok.field-0.tried ∷ []) _ room)

pub returns-in-Err-clause-value : goal.returns-in-Err-clause-value
unfolding scan_number
returns-in-Err-clause-value c = rw (← c.scan_right.ensures, c.if-not-scan_right.false, ← c.scan_bytes.ensures, c.in-Err.is) c.refuse.ensures.value

pub returns-in-Err-clause-answer_after : goal.returns-in-Err-clause-answer_after
unfolding scan_answer
returns-in-Err-clause-answer_after c =
    rw (← c.scan_right.ensures, c.if-not-scan_right.false, ← c.scan_bytes.ensures, c.in-Err.is) c.refuse.ensures.answer_after
