-- A wrong length is told first; else the answer and the buffers are those of the words.
use Rattle.std.proofs.Common.{◌∙◌, refl, sym, arith, [], ◌∷◌, length}
use Rattle.words.specs.Bytes.{words_in}
use Rattle.exports.specs.Exports.{numbering_number, numbering_answer, priorities_left, chain_left}
use Rattle.exports.proofs.Bounds.{number-place-small}
use Rattle.exports.proofs.Filled.{filled, priorities-left, chain-left, answer-long}
use Rattle.exports.proofs.agent_number.Goals as goal

pub returns-then-not-numbering_right-clause-value : goal.returns-then-not-numbering_right-clause-value
unfolding numbering_number
returns-then-not-numbering_right-clause-value c = rw (c.number.ensures, ← c.numbering_right.ensures, c.if-not-numbering_right.true) refl

pub returns-then-not-numbering_right-clause-answer_after : goal.returns-then-not-numbering_right-clause-answer_after
unfolding numbering_answer
returns-then-not-numbering_right-clause-answer_after c = rw (← c.numbering_right.ensures, c.if-not-numbering_right.true) refl

pub returns-then-not-numbering_right-clause-priorities_after : goal.returns-then-not-numbering_right-clause-priorities_after
unfolding priorities_left
returns-then-not-numbering_right-clause-priorities_after c = rw (← c.numbering_right.ensures, c.if-not-numbering_right.true) refl

pub returns-then-not-numbering_right-clause-chain_after : goal.returns-then-not-numbering_right-clause-chain_after
unfolding chain_left
returns-then-not-numbering_right-clause-chain_after c = rw (← c.numbering_right.ensures, c.if-not-numbering_right.true) refl

pub refuse-requires-clause-place : goal.refuse-requires-clause-place
refuse-requires-clause-place c =
    let is = sym c.number-2.ensures.0 ∙ c.in-Err.is in
    omega (arith, rw is at (number-place-small (words_in c.args.table.now) (length (words_in c.args.priorities.now)) (length (words_in c.args.chain.now))))

pub returns-in-Ok-clause-value : goal.returns-in-Ok-clause-value
unfolding numbering_number
returns-in-Ok-clause-value c = rw (← c.numbering_right.ensures, c.if-not-numbering_right.false, ← c.number-2.ensures.0, c.in-Ok.is) refl

pub returns-in-Ok-clause-answer_after : goal.returns-in-Ok-clause-answer_after
unfolding numbering_answer
returns-in-Ok-clause-answer_after c =
    let room = answer-long _ c.args.answer.now (sym c.numbering_right.ensures ∙ c.if-not-numbering_right.false) in
    rw (← c.numbering_right.ensures, c.if-not-numbering_right.false, ← c.number-2.ensures.0, c.in-Ok.is)
    (c.to_bytes.ensures ∙ filled (0 ∷ c.in-Ok.count ∷ 0 ∷ 0 ∷ []) _ room)

pub returns-in-Err-clause-value : goal.returns-in-Err-clause-value
unfolding numbering_number
returns-in-Err-clause-value c =
    rw (← c.numbering_right.ensures, c.if-not-numbering_right.false, ← c.number-2.ensures.0, c.in-Err.is) c.refuse.ensures.value

pub returns-in-Err-clause-answer_after : goal.returns-in-Err-clause-answer_after
unfolding numbering_answer
returns-in-Err-clause-answer_after c =
    rw (← c.numbering_right.ensures, c.if-not-numbering_right.false, ← c.number-2.ensures.0, c.in-Err.is) c.refuse.ensures.answer_after

pub returns-in-Ok-clause-priorities_after : goal.returns-in-Ok-clause-priorities_after
returns-in-Ok-clause-priorities_after c =
    priorities-left c.args.table.now c.args.priorities.now c.args.chain.now c.args.answer.now (sym c.numbering_right.ensures ∙ c.if-not-numbering_right.false)
    c.number-2.new.priorities (λ i. omega (arith, c.type_inv.priorities i)) c.number-2.auto.priorities c.number-2.ensures.1

pub returns-in-Ok-clause-chain_after : goal.returns-in-Ok-clause-chain_after
returns-in-Ok-clause-chain_after c =
    chain-left c.args.table.now c.args.priorities.now c.args.chain.now c.args.answer.now (sym c.numbering_right.ensures ∙ c.if-not-numbering_right.false)
    c.number-2.new.chain (λ i. omega (arith, c.type_inv.chain i)) c.number-2.auto.chain c.number-2.ensures.2

pub returns-in-Err-clause-priorities_after : goal.returns-in-Err-clause-priorities_after
returns-in-Err-clause-priorities_after c =
    priorities-left c.args.table.now c.args.priorities.now c.args.chain.now c.args.answer.now (sym c.numbering_right.ensures ∙ c.if-not-numbering_right.false)
    c.number-2.new.priorities (λ i. omega (arith, c.type_inv.priorities i)) c.number-2.auto.priorities c.number-2.ensures.1

pub returns-in-Err-clause-chain_after : goal.returns-in-Err-clause-chain_after
returns-in-Err-clause-chain_after c =
    chain-left c.args.table.now c.args.priorities.now c.args.chain.now c.args.answer.now (sym c.numbering_right.ensures ∙ c.if-not-numbering_right.false)
    c.number-2.new.chain (λ i. omega (arith, c.type_inv.chain i)) c.number-2.auto.chain c.number-2.ensures.2
