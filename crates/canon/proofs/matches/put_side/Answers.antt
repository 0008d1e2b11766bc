-- Each part is put behind the one before.
use Rattle.canon.specs.Text.{side_text}
use Rattle.canon.proofs.matches.put_side.Goals as goal

pub returns-then-not-is_open : goal.returns-then-not-is_open
unfolding side_text
returns-then-not-is_open g c =
    let then = g.met.S.Sink.then in
    rw (← c.is_open.ensures, c.if-not-is_open.true)
    (then _ _ _ _ _ c.put.ensures (then _ _ _ _ _ c.put-then-not-is_open.ensures (then _ _ _ _ _ c.put_some_prefix.ensures c.put_value.ensures)))
