-- The number, then the answer.
use Rattle.words.specs.Bytes.{bytes_of}
use Rattle.calls.specs.Replies.{text_reply, answered_reply}
use Rattle.calls.proofs.replies.put_answered.Goals as goal

pub returns : goal.returns
unfolding answered_reply
returns g c = g.met.S.Sink.then _ _ _ (bytes_of c.args.number) (text_reply c.args.answer.now) c.put_words.ensures c.put_text.ensures
