-- The bytes that were lost are those of the part.
use Rattle.std.proofs.Common.{rules, length, take}
use Rattle.std.proofs.KnownBytes.{Consumes-kept}
use Rattle.streams.specs.Parts.{ConsumesPart}
use Rattle.streams.proofs.input.read_full.Goals as goal

pub returns-in_err-n-clause-lost : goal.returns-in_err-n-clause-lost
returns-in_err-n-clause-lost g c =
    let part : ConsumesPart (g.R.Read.remaining c.args.reader.now) (g.R.Read.remaining c.read_part.new.reader) (length c.args.buf.now) = (
      take c.loop-count.count c.loop-count.buf,
      search rules,
      Consumes-kept _ _ _ _ c.loop-count.invariant.read (search rules),
    ) in
    search (part, rules)
