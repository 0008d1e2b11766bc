use Rattle.std.proofs.Common.{ℕ, suc, ◌+◌, ◌-◌, ◌*◌, ◌≡◌, ◌++◌, [], ◌∷◌, map, reverse, length, sym, ap, ap₂, ◌∙◌, drop, take, arith}
use Rattle.std.proofs.lemmas.List.{map_push}
use Rattle.words.specs.Records.{records}
use Rattle.row.specs.Row.{row_length}
use Rattle.policy.specs.Numbers.{node_length}
use Rattle.policy.specs.Sections.{own_of, children_of}
use Rattle.policy.specs.Whole.{waiting_nodes, one_less, own_atoms}
use Rattle.policy.specs.Node.{node_of}
use Rattle.policy.specs.declared.nodes.Node.{Node}
use Rattle.depths.specs.Depths.{depths_of}
use Rattle.notation.specs.Views.{rule_entries, node_entry, node_entries}
use Rattle.translate.specs.Names.{rules_from, nodes_from}
use Rattle.translate.specs.Made.{node_made}
use Rattle.translate.proofs.MadeSteps.{nodes-next, own-next, node-put, records-front}
use Rattle.translate.proofs.made.made_nodes.Goals as goal

pub split_at-requires-in-loop-i : goal.split_at-requires-in-loop-i
split_at-requires-in-loop-i c =
    let k = c.args.count - (c.loop-i.i + 1) in
    let own = ap (λ (n : Node). n.own) c.read-node.ensures ∙ ap own_of c.split_at.ensures.front in
    omega (arith, own, c.loop-i.invariant.rules_there, own-next (c.args.count - c.loop-i.i) k c.loop-i.left.now (omega (arith, c.loop-i-test.true)))

pub loop-i-preserved : goal.loop-i-preserved
loop-i-preserved c =
    let k = c.args.count - (c.loop-i.i + 1) in
    let i = c.loop-i.i in
    let ws = c.loop-i.left.now in
    let vs = c.loop-i.atoms_left.now in
    let w = take node_length ws in
    let node : c.read-node.result ≡ node_of w = c.read-node.ensures ∙ ap node_of c.split_at.ensures.front in
    let own : c.read-node.result.own ≡ own_of w = ap (λ (n : Node). n.own) node in
    let ns = node_entries c.loop-i.nodes.items in
    let rs = records c.args.count node_length c.args.words.now in
    let all = nodes_from 0 rs (depths_of (map children_of rs)) (rules_from 0 (records (own_atoms rs) row_length c.args.atoms.now)) in
    let more : c.args.count - i ≡ suc k = omega (arith, c.loop-i-test.true) in
    let next = nodes-next i (i + 1) (c.args.count - i) k c.loop-i.rule (c.loop-i.rule + c.read-node.result.own) ws vs (reverse c.loop-i.waiting.items) more
    (omega arith) (ap (λ m. c.loop-i.rule + m) own) in
    let taken = own-next (c.args.count - i) k ws more in
    let left : drop node_length ws ≡ c.split_at.result.1.now = sym c.split_at.ensures.back in
    let stack : children_of w ∷ one_less (waiting_nodes (reverse c.loop-i.waiting.items)) ≡ reverse c.depth_of_next.new.waiting.items =
    ap (λ (n : Node). n.children ∷ one_less (waiting_nodes (reverse c.loop-i.waiting.items))) (sym node) ∙ sym c.in_ok-depth.ensures.1 in
    let atoms : drop (own_of w * row_length) vs ≡ c.split_at-in-loop-i.result.1.now =
    ap (λ m. drop (m * row_length) vs) (sym own) ∙ sym c.split_at-in-loop-i.ensures.back in
    let front : rules_from c.loop-i.rule (records c.read-node.result.own row_length c.split_at-in-loop-i.result.0.now)
    ≡ rules_from c.loop-i.rule (records (own_of w) row_length vs) =
    ap (λ l. rules_from c.loop-i.rule (records c.read-node.result.own row_length l)) c.split_at-in-loop-i.ensures.front
    ∙ ap (λ l. rules_from c.loop-i.rule l) (records-front c.read-node.result.own row_length vs)
    ∙ ap (λ m. rules_from c.loop-i.rule (records m row_length vs)) own in
    let back : own_atoms (records k node_length (drop node_length ws)) ≡ own_atoms (records k node_length c.split_at.result.1.now) =
    ap (λ l. own_atoms (records k node_length l)) left in
    record {
      made = node-put ns (node_entries c.push-in-loop-i.new.self.items) all i (i + 1) (c.loop-i.rule + c.read-node.result.own) k
          (drop node_length ws) c.split_at.result.1.now (children_of w ∷ one_less (waiting_nodes (reverse c.loop-i.waiting.items)))
          (reverse c.depth_of_next.new.waiting.items) (drop (own_of w * row_length) vs) c.split_at-in-loop-i.result.1.now
          (node_made i (length (waiting_nodes (reverse c.loop-i.waiting.items))) (node_of w) (rules_from c.loop-i.rule (records (own_of w) row_length vs)))
          left stack atoms
          (ap (λ l. ns ++ l) (sym next) ∙ c.loop-i.invariant.made)
          (ap node_entries c.in_ok-push-2.ensures.items ∙ map_push node_entry c.loop-i.nodes.items _
          ∙ ap (λ x. ns ++ x ∷ []) (c.in_ok-made_node.ensures
          ∙ ap₂ (λ (d : ℕ) (n : Node). node_made i d n (rule_entries c.in_ok-rules.rules.items)) c.in_ok-depth.ensures.0 node
          ∙ ap (λ l. node_made i (length (waiting_nodes (reverse c.loop-i.waiting.items))) (node_of w) l)
          (c.in_ok-rules.ensures ∙ front)));
      there = omega (arith, c.loop-i.invariant.there, c.split_at.ensures.back_len, c.loop-i-test.true);
      rules_there = omega (arith, c.loop-i.invariant.rules_there, taken, own, back, c.split_at-in-loop-i.ensures.back_len);
      few = omega (arith, c.loop-i.invariant.few, taken, own, back);
    }
