-- The test says whether all words fit; a turn stores the word of the next chunk, and at the end none is left.
use Rattle.std.proofs.Common.{refl, sym, ◌∙◌, arith}
use Rattle.words.specs.Bytes.{words_in}
use Rattle.words.proofs.Laid.{copied-fits, copied-not, store-turn, store-end}
use Rattle.words.proofs.Bytes.{length-words, word-read}
use Rattle.words.proofs.from_bytes.Goals as goal

pub returns-then-fours-out : goal.returns-then-fours-out
returns-then-fours-out c = sym (copied-not _ _ _ (omega (arith, length-words c.args.bytes.now)))

pub loop-i-init : goal.loop-i-init
loop-i-init c = refl

pub loop-i-preserved : goal.loop-i-preserved
loop-i-preserved c =
    store-turn c.loop-i.i (words_in c.args.bytes.now) _ _ c.loop-i.i _ c.loop-i.invariant (omega (arith, length-words c.args.bytes.now))
    (word-read _ _ _ _ c.as_chunks.ensures.front c.from_le_bytes.ensures)

pub returns : goal.returns
returns c =
    store-end c.loop-i.i (words_in c.args.bytes.now) _ _ c.loop-i.i c.loop-i.invariant (omega (arith, length-words c.args.bytes.now))
    ∙ sym (copied-fits _ _ _ (omega (arith, length-words c.args.bytes.now)))
