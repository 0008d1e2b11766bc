-- A turn of the loop is a word.
use Rattle.std.proofs.Common.{◌-◌, ◌∙◌, length-set, arith}
use Rattle.priority.proofs.Stores.{word_next, word-turn}
use Rattle.priority.proofs.Lying.{lying-many, lying-word}
use Rattle.priority.proofs.put_priorities.Goals as goal

pub overflow_sub-count : goal.overflow_sub-count
overflow_sub-count g c =
    let l = c.loop-i in
    let from = g.U.Unit.words c.args.priorities.now in
    let ws = g.U.Unit.words l.priorities in
    let word = g.U.Word.LyingWord.word in
    let many = lying-many word from c.words-i-end.result.now c.words-i-end.ensures in
    let many' = lying-many word ws c.words.result.now c.words.ensures in
    let is = lying-word word ws c.words.result.now c.words.ensures l.i _ (omega (arith, l.invariant.0)) c.index-words-i.is in
    let next = word_next (λ x. c.args.count - x) from ws l.i l.invariant.1 l.invariant.0 (omega (arith, l.invariant.0)) in
    omega (arith, c.word-level.ensures, c.requires l.i (omega arith))

pub loop-i-preserved : goal.loop-i-preserved
loop-i-preserved g c =
    let l = c.loop-i in
    let from = g.U.Unit.words c.args.priorities.now in
    let ws = g.U.Unit.words l.priorities in
    let word = g.U.Word.LyingWord.word in
    let many = lying-many word from c.words-i-end.result.now c.words-i-end.ensures in
    let many' = lying-many word ws c.words.result.now c.words.ensures in
    let is = lying-word word ws c.words.result.now c.words.ensures l.i _ (omega (arith, l.invariant.0)) c.index-words-i.is in (
      rw c.put.ensures (length-set ws l.i _ ∙ l.invariant.0),
      word-turn (λ x. c.args.count - x) from ws l.i l.invariant.1 l.invariant.0 (omega (arith, l.invariant.0)) _ _ (c.word-level.ensures ∙ is) c.put.ensures,
    )
