-- A turn puts one more in.
use Rattle.words.specs.Words.{zeros}
use Rattle.calls.proofs.Parts.{zeros_then, words_then}
use Rattle.calls.proofs.put.put_zeros.Goals as goal

pub loop-preserved : goal.loop-preserved
loop-preserved g c =
    rw (zeros_then c.loop.counter 1)
    (words_then g.S.Sink.gives g.met.S.Sink.then _ _ _ (zeros c.loop.counter) (zeros 1) c.loop.invariant c.put_words.ensures)
