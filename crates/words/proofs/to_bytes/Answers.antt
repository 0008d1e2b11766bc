-- The test says whether all bytes fit; a turn stores those of the next word, and at the end none is left.
use Rattle.std.proofs.Common.{refl, sym, ◌∙◌, arith}
use Rattle.words.proofs.Laid.{copied-fits, copied-not}
use Rattle.words.proofs.Bytes.{length-bytes, bytes-turn, bytes-end}
use Rattle.words.proofs.to_bytes.Goals as goal

pub returns-then-out-words : goal.returns-then-out-words
returns-then-out-words c = sym (copied-not _ _ _ (omega (arith, length-bytes c.args.words.now)))

pub loop-i-init : goal.loop-i-init
loop-i-init c = refl

pub loop-i-preserved : goal.loop-i-preserved
loop-i-preserved c =
    bytes-turn _ _ _ _ _ c.loop-i.invariant (c.copy_from_slice.ensures.after ∙ c.to_le_bytes.ensures)
    (c.type_inv.words c.loop-i.i).fits (omega arith) (omega arith)

pub returns : goal.returns
returns c =
    bytes-end _ _ _ _ c.loop-i.invariant (omega arith) ∙ sym (copied-fits _ _ _ (omega (arith, length-bytes c.args.words.now)))
