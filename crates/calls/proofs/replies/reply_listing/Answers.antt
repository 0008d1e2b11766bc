-- The draft has the listing and its length.
use Rattle.std.proofs.Common.{◌≡◌, ◌%◌, ◌^◌, length, replicate, arith}
use Rattle.calls.specs.Sent.{padding}
use Rattle.text.specs.Listing.{listing_of}
use Rattle.calls.proofs.Parts.{text_then}
use Rattle.calls.proofs.replies.reply_listing.Goals as goal

pub returns : goal.returns
returns g c =
    let text = listing_of c.args.file.now in
    let low : c.length-length.result ≡ length text % 2 ^ 32 = omega (arith, c.list.ensures.counts, c.clear.ensures.none, c.length-length.ensures) in
    let pad : padding c.length-length.result ≡ padding (length text) = omega arith in
    text_then g.S.Sink.gives g.met.S.Sink.then _ _ _ _ (length text % 2 ^ 32) text (replicate (padding (length text)) 0)
    (rw low at c.put_words.ensures)
    c.put_listing.ensures
    (rw pad at c.put_padding.ensures)
