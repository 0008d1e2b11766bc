-- The block was written.
use Rattle.std.proofs.Common.{append-nil, sym, ◌∙◌, rules}
use Rattle.streams.proofs.Handed.{gives-written}
use Rattle.streams.proofs.output.Output.flush.Goals as goal

pub returns-then-is_none : goal.returns-then-is_none
returns-then-is_none g c = record {
  gives = gives-written g.W.Write.contents c.args.self.now _ _ c.as_slice.result.now c.write_full.result
      (search rules) (append-nil _ ∙ sym c.as_slice.ensures.value)
      c.clear.ensures c.err-self.ensures.value c.write_full.ensures.whole c.write_full.ensures.part c.write_full.ensures.not_interrupted;
  nothing_waits = λ _. c.clear.ensures;
}
