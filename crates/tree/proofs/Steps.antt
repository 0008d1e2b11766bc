-- The steps of the walk: a node and its children are a tree, a tree and the others are children. Assumes nothing.
use Prim.Native.Nat.{ℕ, ◌-◌, ◌<◌}
use mathlib.Core.Path.{◌≡◌, sym, ap, ap₂, ◌∙◌}
use mathlib.Core.List.{List}
use Rattle.theory.specs.Tree.{evals}
use Rattle.flow.specs.Match.{meets}
use Rattle.flow.specs.declared.Packet.{Packet}
use Rattle.action.specs.Operator.{join}
use Rattle.action.specs.declared.Action.{Action}
use Rattle.action.specs.declared.Action.TheVariants.{DontCare}
use Rattle.policy.specs.File.{PolicyTree}
use Rattle.nodes.specs.Nodes.{node_at, cells_at, atom_words_at}
use Rattle.nodes.specs.Walk.{Reached, next_spot}
use Rattle.policy.specs.declared.Node.{Node}
use Rattle.nodes.specs.declared.Spot.{Spot}
use Rattle.nodes.proofs.Walk.{tree-here, after-tree, children-here, after-children, NoChild}
use Rattle.tree.specs.Action.{eval_tree}
use Rattle.tree.specs.Steps.{own_action, TreeGave, ChildrenGave}

module _ {f : List ℕ} {s : Spot} {p : Packet} where
  -- no child is taken
  pub children-none : {k : ℕ} (sibling : ℕ) → NoChild f s k → ChildrenGave f s sibling k p DontCare s
  children-none sibling h = record { action = sym (ap (λ ts. evals meets DontCare join ts (cells_at f sibling) p) h.none); after = h.after }

  -- one child, then the others
  pub children-gave : (sibling k : ℕ) {one rest r : Action} {behind next : Spot} → Reached f s → 0 < s.nodes_left → 0 < k → TreeGave f s p one behind
      → ChildrenGave f behind sibling (k - 1) p rest next → r ≡ join (cells_at f sibling) one rest → ChildrenGave f s sibling k p r next
  children-gave sibling k reached more some t v j = record {
    action = j ∙ ap₂ (join (cells_at f sibling)) t.action v.action
        ∙ sym (ap (λ ts. evals meets DontCare join ts (cells_at f sibling) p) (children-here f s reached more k some t.after));
    after = after-children f s reached more k some t.after v.after;
  }

  -- a node's own action, and its children's
  pub tree-gave : {n : Node} {atoms : List ℕ} {x rest r : Action} {next : Spot} → Reached f s → 0 < s.nodes_left → n ≡ node_at f s.nodes_left
      → atoms ≡ atom_words_at f s.next_atom n.own → x ≡ own_action (cells_at f n.inner) atoms p
      → ChildrenGave f (next_spot f s) n.sibling n.children p rest next → r ≡ join (cells_at f n.parent) x rest → TreeGave f s p r next
  unfolding own_action
  tree-gave {n} {atoms} {x} {rest} {r} {next} reached more e v q k j =
      let below = rw e at k in
      let own : x ≡ _ = rw e at (q ∙ ap (λ l. own_action (cells_at f n.inner) l p) v) in
      record {
        action = (rw e at j) ∙ ap₂ (join (cells_at f (node_at f s.nodes_left).parent)) own below.action
            ∙ sym (ap (λ (t : PolicyTree). eval_tree t p) (tree-here f s reached more));
        after = after-tree f s reached more below.after;
      }
