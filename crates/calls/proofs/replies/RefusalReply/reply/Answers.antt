-- Number and place, then the broken law.
use Rattle.std.proofs.Common.{[], ◌∷◌}
use Rattle.words.specs.Words.{zeros}
use Rattle.refusal.specs.Refusals.{refusal_number}
use Rattle.streams.specs.Count.{low}
use Rattle.calls.specs.Replies.{failure_width, failure_words, broken_words, refusal_words}
use Rattle.calls.proofs.Parts.{words_then}
use Rattle.calls.proofs.replies.RefusalReply.reply.Goals as goal

pub returns-in-Some : goal.returns-in-Some
unfolding refusal_words broken_words
returns-in-Some g c =
    let r = c.args.self.now in
    rw (← c.failure.ensures, c.in-Some.is)
    (words_then g.S.Sink.gives g.met.S.Sink.then _ _ _ (refusal_number r ∷ low r.place ∷ []) (failure_words c.in-Some.failure)
    c.reply.ensures
    c.reply-in-Some.ensures)

pub returns-in-None : goal.returns-in-None
unfolding refusal_words broken_words
returns-in-None g c =
    let r = c.args.self.now in
    rw (← c.failure.ensures, c.in-None.is)
    (words_then g.S.Sink.gives g.met.S.Sink.then _ _ _ (refusal_number r ∷ low r.place ∷ []) (zeros failure_width)
    c.reply.ensures
    c.put_zeros.ensures)
