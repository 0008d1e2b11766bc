-- The place is the first at which the mark stands.
use Rattle.std.proofs.Common.{◌-◌, ◌+◌, length, drop, add-one, arith, ◌∙◌}
use Rattle.std.proofs.lemmas.List.{take_all, length-drop}
use Rattle.values.proofs.Cuts.{before-at, behind-at, before-all, behind-none}
use Rattle.values.proofs.prefixes.cut.Goals as goal

pub returns-then-byte-mark-clause-before : goal.returns-then-byte-mark-clause-before
returns-then-byte-mark-clause-before c = before-at c.args.word.now c.args.mark c.loop-place.place c.loop-place.invariant (omega arith) c.if-byte-mark.true

pub returns-then-byte-mark-clause-behind : goal.returns-then-byte-mark-clause-behind
returns-then-byte-mark-clause-behind c =
    let all = take_all (length c.args.word.now - (c.loop-place.place + 1)) (drop (c.loop-place.place + 1) c.args.word.now)
    (omega (arith, length-drop (c.loop-place.place + 1) c.args.word.now)) in
    all ∙ rw add-one (behind-at c.args.word.now c.args.mark c.loop-place.place c.loop-place.invariant (omega arith) c.if-byte-mark.true)

pub returns-clause-before : goal.returns-clause-before
returns-clause-before c = before-all c.args.word.now c.args.mark (λ k lt e. c.loop-place.invariant k (omega arith) e)

pub returns-clause-behind : goal.returns-clause-behind
returns-clause-behind c = behind-none c.args.word.now c.args.mark (λ k lt e. c.loop-place.invariant k (omega arith) e)
