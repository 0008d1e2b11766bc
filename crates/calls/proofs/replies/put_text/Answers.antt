-- The length, the bytes, and the zeros behind them.
use Rattle.std.proofs.Common.{length, replicate}
use Rattle.streams.specs.Count.{low}
use Rattle.calls.specs.Sent.{padding}
use Rattle.calls.proofs.Parts.{text_then}
use Rattle.calls.proofs.replies.put_text.Goals as goal

pub returns : goal.returns
returns g c =
    let text = c.args.bytes.now in
    text_then g.S.Sink.gives g.met.S.Sink.then _ _ _ _ (low (length text)) text (replicate (padding (length text)) 0)
    (rw c.low.ensures at c.put_words.ensures)
    c.put.ensures
    c.put_padding.ensures
