-- Each part is put behind the one before.
use Rattle.canon.specs.Text.{rule_text}
use Rattle.canon.proofs.rules.put_rule.Goals as goal

pub returns : goal.returns
unfolding rule_text
returns g c =
    let then = g.met.S.Sink.then in
    rw (← c.as_slice.ensures.value) (then _ _ _ _ _ c.put_indent.ensures (then _ _ _ _ _ c.put.ensures (then _ _ _ _ _ c.put-2.ensures
    (then _ _ _ _ _ c.put_action.ensures (then _ _ _ _ _ c.put_match.ensures c.put-3.ensures)))))
