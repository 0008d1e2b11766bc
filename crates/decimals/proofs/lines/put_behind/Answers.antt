-- The next word is put behind a blank.
use Rattle.std.proofs.Common.{◌<◌, length, drop-cons, add-one, arith}
use Rattle.decimals.proofs.lines.put_behind.Goals as goal

pub loop-word-preserved : goal.loop-word-preserved
loop-word-preserved g c = λ s h.
    let then = g.met.S.Sink.then in
    let low : c.loop-word.word-index < length c.args.words.now = omega (arith, c.loop-word-test.true, c.loop-word.auto.word-index-end) in
    c.loop-word.invariant s (rw (drop-cons c.args.words.now c.loop-word.word-index 0)
    (then _ _ _ _ _ c.put.ensures (then _ _ _ _ _ c.put_number.ensures (rw add-one at h))))
