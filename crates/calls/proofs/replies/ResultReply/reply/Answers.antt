-- The refusal's words, then the value's.
use Rattle.words.specs.Words.{zeros}
use Rattle.calls.specs.Replies.{answer_words}
use Rattle.calls.proofs.Parts.{words_then}
use Rattle.calls.proofs.replies.ResultReply.reply.Goals as goal

pub returns-in-Ok : goal.returns-in-Ok
unfolding answer_words
returns-in-Ok g c =
    rw c.in-Ok.is
    (words_then g.S.Sink.gives g.met.S.Sink.then _ _ _ (zeros g.E.Value.WIDTH) (g.T.Reply.words c.in-Ok.value)
    (rw c.WIDTH.ensures at c.put_zeros.ensures)
    c.reply.ensures)

pub returns-in-Err : goal.returns-in-Err
unfolding answer_words
returns-in-Err g c =
    rw c.in-Err.is
    (words_then g.S.Sink.gives g.met.S.Sink.then _ _ _ (g.E.Reply.words c.in-Err.refusal) (zeros g.T.Value.WIDTH)
    c.reply-in-Err.ensures
    (rw c.WIDTH-in-Err.ensures at c.put_zeros-in-Err.ensures))
