-- Each part is put behind the one before.
use Rattle.canon.specs.Text.{node_text}
use Rattle.canon.proofs.nodes.put_node.Goals as goal

pub returns : goal.returns
unfolding node_text
returns g c =
    let then = g.met.S.Sink.then in
    rw (← c.saturating_sub.ensures, ← c.as_slice.ensures.value, ← c.as_slice-2.ensures.value)
    (then _ _ _ _ _ c.put_indent.ensures (then _ _ _ _ _ c.put.ensures (then _ _ _ _ _ c.put-2.ensures
    (then _ _ _ _ _ c.put_clause.ensures (then _ _ _ _ _ c.put_clause-2.ensures (then _ _ _ _ _ c.put_clause-3.ensures
    (then _ _ _ _ _ c.put-3.ensures c.put_rules.ensures)))))))
