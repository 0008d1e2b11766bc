use Rattle.std.proofs.Common.{ℕ, ◌-◌, ◌≤◌, suc, List, [], ◌∷◌, ◌++◌, Ok, ◌≡◌, subst, sym, ◌∙◌, length, arith}
use Rattle.std.proofs.lemmas.Bool.{ne_eqb}
use Rattle.std.proofs.lemmas.Result.{err_from_is_err_and}
use Rattle.std.proofs.lemmas.List.{map_push, length-append, length-map}
use Rattle.policy.specs.Numbers.{most_nodes, most_atoms}
use Rattle.tokens.specs.Left.{left}
use Rattle.tokens.specs.Tokens.{Token, next}
use Rattle.notation.specs.Nodes.{Opened, closed, node_at, rule_count}
use Rattle.notation.specs.Views.{rule_entries, node_entry, node_entries, operator_entries}
use Rattle.notation.proofs.NodeLoop.{nodes_none, nodes_full, nodes_stop, nodes_last, nodes_step, rule_count-more, node_few, closed_few, one_more}
use Rattle.notation.proofs.nodes.read_nodes.Goals as goal

pub returns-then-not-is : goal.returns-then-not-is
returns-then-not-is c =
    rw (c.into.ensures, sym c.loop-alloc.invariant.0)
    (nodes_none (most_nodes - length c.loop-alloc.nodes.items) (operator_entries c.loop-alloc.operators.items)
    (node_entries c.loop-alloc.nodes.items) c.loop-alloc.unclosed (left c.loop-alloc.tokens) (cc)
    ∙ sym (rw (sym c.deref.ensures.value) c.no_node.ensures))

pub returns-then-len-eq-MOST_NODES : goal.returns-then-len-eq-MOST_NODES
returns-then-len-eq-MOST_NODES c =
    rw (c.into-then-len-eq-MOST_NODES.ensures, c.fault.ensures, sym c.loop-alloc.invariant.0)
    (nodes_full (most_nodes - length c.loop-alloc.nodes.items) (operator_entries c.loop-alloc.operators.items)
    (node_entries c.loop-alloc.nodes.items) c.loop-alloc.unclosed (left c.loop-alloc.tokens)
    (omega (arith, c.if-len-eq-MOST_NODES.true, c.len.ensures)) cc)

pub returns-in_err-node : goal.returns-in_err-node
returns-in_err-node c =
    let p = err_from_is_err_and c.from_residual.result c.from_residual.ensures.1 in
    rw (p.1, p.2, sym c.loop-alloc.invariant.0)
    (nodes_stop c.in_err-node.field-0.0 (most_nodes - length c.loop-alloc.nodes.items)
    (most_nodes - suc (length c.loop-alloc.nodes.items)) (operator_entries c.loop-alloc.operators.items)
    (node_entries c.loop-alloc.nodes.items) c.loop-alloc.unclosed (left c.loop-alloc.tokens)
    (omega (arith, c.if-len-eq-MOST_NODES.false, c.len.ensures, c.loop-alloc.invariant.1)) (cc)
    (rw (sym c.loop-alloc.invariant.2, sym c.deref-in-loop-alloc.ensures.value, sym c.advance.ensures) c.in_err-node.ensures))

pub returns-then-unclosed-eq0 : goal.returns-then-unclosed-eq0
returns-then-unclosed-eq0 c =
    let x : Opened = record { node = node_entry c.in_ok-node.node; operators = operator_entries c.read_node.new.operators.items } in
    let e : node_entries c.push.new.self.items ≡ node_entries c.loop-alloc.nodes.items ++ node_entry c.in_ok-node.node ∷ [] =
    rw c.in_ok-push.ensures.items (map_push _ c.loop-alloc.nodes.items c.in_ok-node.node) in
    let shut : (c.close-unclosed.result, left c.close-unclosed.new.tokens) ≡ closed (suc c.loop-alloc.unclosed) (left c.read_node.new.tokens) =
    subst (λ (m : ℕ). (c.close-unclosed.result, left c.close-unclosed.new.tokens) ≡ closed m (left c.read_node.new.tokens))
    (one_more c.loop-alloc.unclosed) c.close-unclosed.ensures in
    rw (e, sym c.loop-alloc.invariant.0)
    (nodes_last (most_nodes - length c.loop-alloc.nodes.items) (most_nodes - suc (length c.loop-alloc.nodes.items))
    (operator_entries c.loop-alloc.operators.items) (node_entries c.loop-alloc.nodes.items) c.loop-alloc.unclosed
    (left c.loop-alloc.tokens) x (left c.read_node.new.tokens) (left c.close-unclosed.new.tokens)
    (omega (arith, c.if-len-eq-MOST_NODES.false, c.len.ensures, c.loop-alloc.invariant.1)) (cc)
    (rw (sym c.loop-alloc.invariant.2, sym c.deref-in-loop-alloc.ensures.value, sym c.advance.ensures) c.in_ok-node.ensures)
    (sym (rw (sym c.if-unclosed-eq0.true) shut)))

pub loop-alloc-preserved : goal.loop-alloc-preserved
loop-alloc-preserved c =
    let x : Opened = record { node = node_entry c.in_ok-node.node; operators = operator_entries c.read_node.new.operators.items } in
    let e : node_entries c.push.new.self.items ≡ node_entries c.loop-alloc.nodes.items ++ node_entry c.in_ok-node.node ∷ [] =
    rw c.in_ok-push.ensures.items (map_push _ c.loop-alloc.nodes.items c.in_ok-node.node) in
    let n : length c.push.new.self.items ≡ suc (length c.loop-alloc.nodes.items) =
    rw c.in_ok-push.ensures.items (omega (arith, length-append c.loop-alloc.nodes.items (c.in_ok-node.node ∷ []))) in
    let h : node_at (most_atoms - rule_count (node_entries c.loop-alloc.nodes.items)) (operator_entries c.loop-alloc.operators.items)
    (node_entries c.loop-alloc.nodes.items) c.loop-alloc.unclosed (next (left c.loop-alloc.tokens)) ≡ Ok (x, left c.read_node.new.tokens) =
    rw (sym c.loop-alloc.invariant.2, sym c.deref-in-loop-alloc.ensures.value, sym c.advance.ensures) c.in_ok-node.ensures in
    let few : length (rule_entries c.in_ok-node.node.rules.items) ≤ most_atoms - rule_count (node_entries c.loop-alloc.nodes.items) =
    node_few _ _ _ _ _ x (left c.read_node.new.tokens) h in
    let same : length (rule_entries c.in_ok-node.node.rules.items) ≡ c.len-rules.result =
    rw length-map (sym (c.len-rules.ensures ∙ c.in_ok-node.node.rules.ok.0)) in
    let shut : (c.close-unclosed.result, left c.close-unclosed.new.tokens) ≡ closed (suc c.loop-alloc.unclosed) (left c.read_node.new.tokens) =
    subst (λ (m : ℕ). (c.close-unclosed.result, left c.close-unclosed.new.tokens) ≡ closed m (left c.read_node.new.tokens))
    (one_more c.loop-alloc.unclosed) c.close-unclosed.ensures in
    let open_few : c.close-unclosed.result ≤ suc c.loop-alloc.unclosed =
    subst (λ (p : ℕ × List Token). p.0 ≤ suc c.loop-alloc.unclosed) (sym shut) (closed_few (suc c.loop-alloc.unclosed) (left c.read_node.new.tokens)) in (
      rw (e, n, sym c.loop-alloc.invariant.0) (sym (nodes_step
          (most_nodes - length c.loop-alloc.nodes.items) (most_nodes - suc (length c.loop-alloc.nodes.items))
          (operator_entries c.loop-alloc.operators.items) (node_entries c.loop-alloc.nodes.items) c.loop-alloc.unclosed c.close-unclosed.result
          (left c.loop-alloc.tokens) x (left c.read_node.new.tokens) (left c.close-unclosed.new.tokens)
          (omega (arith, c.if-len-eq-MOST_NODES.false, c.len.ensures, c.loop-alloc.invariant.1)) (cc) h (sym shut)
          (ne_eqb c.close-unclosed.result 0 c.if-unclosed-eq0.false))),
      rw n (omega (arith, c.if-len-eq-MOST_NODES.false, c.len.ensures, c.loop-alloc.invariant.1)),
      rw (e, rule_count-more (node_entries c.loop-alloc.nodes.items) (node_entry c.in_ok-node.node)) (omega (arith, same, c.loop-alloc.invariant.2)),
      omega (arith, same, few, c.loop-alloc.invariant.2, c.loop-alloc.invariant.3),
      rw n (omega (arith, open_few, c.loop-alloc.invariant.4)),
    )
