-- The action, then the count.
use Rattle.std.proofs.Common.{[], ◌∷◌}
use Rattle.streams.specs.Count.{low}
use Rattle.calls.specs.Replies.{action_words}
use Rattle.calls.proofs.Parts.{words_then}
use Rattle.calls.proofs.replies.FoundReply.reply.Goals as goal

pub returns : goal.returns
returns g c =
    let f = c.args.self.now in
    words_then g.S.Sink.gives g.met.S.Sink.then _ _ _ (action_words f.action) (low f.tried ∷ [])
    c.reply.ensures
    (rw c.low.ensures at c.put_words.ensures)
