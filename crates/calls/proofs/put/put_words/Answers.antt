-- A turn puts the next block in.
use Rattle.std.proofs.Common.{rules}
use Rattle.calls.proofs.Parts.{words_then}
use Rattle.calls.proofs.put.put_words.Goals as goal

pub loop-block-preserved : goal.loop-block-preserved
loop-block-preserved g c = record {
  size = search rules;
  whole = λ s h.
      c.loop-block.invariant.whole s
      (rw c.in-Some.ensures.steps.1.0 (words_then g.S.Sink.gives g.met.S.Sink.then _ _ _ _ _ c.put_block.ensures h));
}
