-- A node with what stands behind it, and the nodes that follow.
use Rattle.std.proofs.Common.{ℕ, ◌≡◌, ap, List, [], ◌∷◌, ◌++◌, append_assoc, append-nil}
use Rattle.notation.specs.Policy.{OperatorEntry, NodeEntry}
use Rattle.depths.specs.Depths.{closings}
use Rattle.canon.specs.Text.{node_text, ends_text, between_nodes, after_text, nodes_text}

-- the text of some nodes is that of the first, what stands behind it, and the others
pub node_after : (os : List OperatorEntry) (n : NodeEntry) (ns : List NodeEntry)
    → node_text os n ++ (after_text n ns ++ nodes_text os ns) ≡ nodes_text os (n ∷ ns)
node_after os n [] = ap (λ (t : List ℕ). node_text os n ++ t) (append-nil (ends_text (closings n.depth 0) n.depth))
node_after os n (m ∷ ns) =
    ap (λ (t : List ℕ). node_text os n ++ t) (append_assoc (ends_text (closings n.depth m.depth) n.depth) (between_nodes n m) (nodes_text os (m ∷ ns)))
