-- What was read stays, and the buffer keeps its length.
use Rattle.std.proofs.Common.{rules, arith}
use Rattle.std.proofs.lemmas.Grind.{common_steps}
use Rattle.streams.proofs.input.Input.fill.Goals as goal

pub returns : goal.returns
returns g c = record {
  reads = record {
    read = grind (arith, common_steps);
    failed = c.read-count.ensures.failed;
    lost = search rules;
    ended = c.read-count.ensures.ended;
    not_interrupted = c.read-count.ensures.not_interrupted;
  };
  behind = grind (arith, common_steps);
}
