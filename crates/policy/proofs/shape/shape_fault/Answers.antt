-- A turn gives one node its place, or finds that there is none.
use Rattle.std.proofs.Common.{◌≡◌, ◌/◌, ap, sym, ◌∙◌, suc, length, inl, arith}
use Rattle.refusal.specs.declared.Reason.TheVariants.{NoTree}
use Rattle.policy.specs.Numbers.{node_length}
use Rattle.policy.specs.Sections.{unless}
use Rattle.policy.specs.Node.{nodes_left}
use Rattle.policy.specs.Whole.{shape_fault}
use Rattle.policy.proofs.NodeWords.{counts-children, length-nodes}
use Rattle.policy.proofs.Turns as turn
use Rattle.policy.proofs.shape.shape_fault.Goals as goal
use Rattle.policy.proofs.shape.shape_fault.Goals.{in_default-via-in-Some-take_parent+else-len-lt-DEEPEST, in_default-via-in_default}

pub loop-i-init : goal.loop-i-init
unfolding shape_fault
loop-i-init c =
    let none = ap (λ s. s.count) c.into_iter-i-iterator.ensures.into_iter_gives ∙ c.enumerate-i-items.ensures.count in
    let all = ap (λ s. nodes_left s.iter) c.into_iter-i-iterator.ensures.into_iter_gives ∙ ap nodes_left c.enumerate-i-items.ensures.source ∙ c.of.ensures in
    record {
      all = rw (none, all) (omega (arith, length-nodes c.args.nodes.now));
      same = rw (none, all, counts-children c.args.nodes.now, c.push.ensures.items, c.new-waiting.ensures);
    }

pub loop-i-init-derived : goal.loop-i-init-derived
loop-i-init-derived c =
    let none = ap (λ s. s.count) c.into_iter-i-iterator.ensures.into_iter_gives ∙ c.enumerate-i-items.ensures.count in
    let all = ap (λ s. length (nodes_left s.iter)) c.into_iter-i-iterator.ensures.into_iter_gives
    ∙ ap (λ s. length (nodes_left s)) c.enumerate-i-items.ensures.source ∙ ap length c.of.ensures in
    ((tt, tt, inl (rw (none, all) (omega (arith, length-nodes c.args.nodes.now)))), tt)

pub loop-i-preserved : goal.loop-i-preserved
loop-i-preserved c =
    let l = c.loop-i in
    let n : length (nodes_left l.i-iterator.iter) ≡ suc (length (nodes_left c.next.new.self.iter)) = ap length c.in-Some.ensures.steps.0 in
    record {
      all = omega (arith, l.invariant.all, c.in-Some.ensures.steps.2);
      same = rw c.in-Some.ensures.steps.2
          (turn.on _ l.i-iterator.count l.waiting.items c.take_parent.new.waiting.items _ l.invariant.same _ _ c.in-Some.ensures.steps.0 _
          (rw c.in-Some-take_parent.is at c.take_parent.ensures)
          _ _ (omega (arith, c.if-len-lt-DEEPEST.true, c.len.ensures.value))
          c.push-in-Some-take_parent.ensures.items c.push-in-Some-take_parent-2.ensures.items);
    }

pub returns-in_default : goal.returns-in_default
returns-in_default c =
    let l = c.loop-i in
    rw (c.at.ensures, c.in-Some.ensures.steps.1)
    (elim c.in_default.branch [
      | in_default-via-in-Some-take_parent+else-len-lt-DEEPEST w ↦
          turn.deep _ l.i-iterator.count l.waiting.items c.take_parent.new.waiting.items _ l.invariant.same _ _ c.in-Some.ensures.steps.0 _
          (rw w.in-Some-take_parent.is at c.take_parent.ensures)
          (omega (arith, w.if-len-lt-DEEPEST.false, w.len.ensures.value))
      | in_default-via-in_default w ↦
          turn.ended _ l.i-iterator.count l.waiting.items c.take_parent.new.waiting.items _ l.invariant.same _ _ c.in-Some.ensures.steps.0
          (rw w.in_default.is at c.take_parent.ensures)
    ])

pub returns : goal.returns
returns c =
    let l = c.loop-i in
    let n : l.i-iterator.count ≡ length c.args.nodes.now / node_length = omega (arith, l.invariant.all, ap length c.in-None.ensures.steps.0.0) in
    c.unless.ensures ∙ ap (unless c.is_none-ended.result NoTree) (sym n)
    ∙ turn.finished _ l.i-iterator.count l.waiting.items c.take_parent-2.new.waiting.items _ l.invariant.same c.take_parent-2.result _
    c.is_none-ended.ensures c.in-None.ensures.steps.0.0 c.take_parent-2.ensures
