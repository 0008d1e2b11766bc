-- The two tests together say whether all fits; the part that the words are written over is as long as they.
use Rattle.std.proofs.Common.{sym, ◌∙◌, arith}
use Rattle.words.proofs.Laid.{copied-fits, copied-not, put-laid}
use Rattle.words.proofs.copy.Goals as goal
use Rattle.words.proofs.copy.Goals.{else-at-out-via-then-at-out+else-words-out, else-at-out-via-else-at-out}

pub returns-then-words-out : goal.returns-then-words-out
returns-then-words-out c =
    put-laid _ _ _ _ _ c.copy_from_slice.ensures.after (omega arith) (omega arith) ∙ sym (copied-fits _ _ _ (omega arith))

pub returns-else-at-out : goal.returns-else-at-out
returns-else-at-out c =
    elim c.else-at-out.branch [
      | else-at-out-via-then-at-out+else-words-out w ↦ sym (copied-not _ _ _ (omega arith))
      | else-at-out-via-else-at-out w ↦ sym (copied-not _ _ _ (omega arith))
    ]
