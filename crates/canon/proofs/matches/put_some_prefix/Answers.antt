-- The prefix is put behind a blank.
use Rattle.std.proofs.lemmas.Bool.{ne_eqb}
use Rattle.canon.proofs.matches.put_some_prefix.Goals as goal

pub returns-then-prefix-ne0 : goal.returns-then-prefix-ne0
returns-then-prefix-ne0 g c = rw (ne_eqb c.args.prefix.length 0 c.if-prefix-ne0.true) (g.met.S.Sink.then _ _ _ _ _ c.put.ensures c.put_prefix.ensures)
