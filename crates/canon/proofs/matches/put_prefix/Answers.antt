-- The length is put behind the address, unless it is that of an address.
use Rattle.std.proofs.lemmas.Bool.{ne_eqb}
use Rattle.canon.proofs.matches.put_prefix.Goals as goal

pub returns-then-prefix-ne-ADDRESS_BITS : goal.returns-then-prefix-ne-ADDRESS_BITS
returns-then-prefix-ne-ADDRESS_BITS g c =
    let then = g.met.S.Sink.then in
    rw (ne_eqb c.args.prefix.length 32 c.if-prefix-ne-ADDRESS_BITS.true)
    (then _ _ _ _ _ (then _ _ _ _ _ c.put_address.ensures c.put.ensures) c.put_number.ensures)
