-- The words of nodes up to their rules are in the grammar, and nodes are written as those by their depths.
use Rattle.std.proofs.Common.{ℕ, ◌≡◌, true, false, List, [], ◌∷◌, ◌++◌, refl, sym, ap, subst, ◌∙◌, append_assoc}
use Rattle.std.specs.Prelude.{bytes_eq, map, replicate, if◌then◌else◌}
use Rattle.std.proofs.lemmas.Slice.Eq.{bytes_eq-Decides}
use Rattle.depths.specs.Depths.{Deep, closings, first_depth, flat_words}
use Rattle.notation.specs.Policy.{OperatorEntry, NodeEntry}
use Rattle.notation.specs.Words.{inside_word, between_word, below_word, sibling_word, parent_word, close_mark}
use Rattle.notation.specs.Grammar.{IsClause, IsHeader}
use Rattle.notation.specs.Right.{RightNode}
use Rattle.canon.specs.Text.{name_at}
use Rattle.canon.specs.Pieces.{rules_words, clause_words, header_words, next_depth, nodes_words}

-- AN OPERATOR THAT A NODE NAMES
pub is-clause : (k other : List ℕ) (os : List OperatorEntry) (i : ℕ) → IsClause k other (clause_words k other os i) (name_at os i)
is-clause k other os i =
    elim (bytes_eq (name_at os i) other) as (λ d. bytes_eq (name_at os i) other ≡ d
    → IsClause k other (if d then [] else k ∷ name_at os i ∷ []) (name_at os i)) [
      | true ↦ λ e. subst (IsClause k other []) (sym ((bytes_eq-Decides (name_at os i) other).0 e)) IsClause.missing
      | false ↦ λ e. IsClause.said
    ] refl

-- WHAT STANDS BEFORE A NODE'S RULES
pub is-header : (os : List OperatorEntry) (n : NodeEntry) (k : ℕ) → RightNode k n
    → IsHeader (header_words os n) n.name (name_at os n.inner) (name_at os n.sibling) (name_at os n.parent)
is-header os n k r =
    IsHeader.header r.name (is-clause inside_word sibling_word os n.inner) (is-clause between_word sibling_word os n.sibling)
    (is-clause below_word parent_word os n.parent)

-- a node by its depth
abbrev pub deep : NodeEntry → Deep NodeEntry
deep n = record { depth = n.depth; what = n }

-- what is written of a node before the nodes inside it
abbrev pub node_words : List OperatorEntry → NodeEntry → List (List ℕ)
node_words os n = header_words os n ++ rules_words n.rules

-- the first depth
next-first : (ns : List NodeEntry) → next_depth ns ≡ first_depth (map deep ns)
next-first [] = refl
next-first (n ∷ ns) = refl

-- NODES ARE WRITTEN AS THOSE BY THEIR DEPTHS
pub nodes-flat : (os : List OperatorEntry) (ns : List NodeEntry) → nodes_words os ns ≡ flat_words (node_words os) close_mark (map deep ns)
nodes-flat os [] = refl
nodes-flat os (n ∷ ns) =
    let behind = replicate (closings n.depth (next_depth ns)) close_mark in
    sym (append_assoc (header_words os n) (rules_words n.rules) (behind ++ nodes_words os ns))
    ∙ ap (λ (d : ℕ). node_words os n ++ (replicate (closings n.depth d) close_mark ++ nodes_words os ns)) (next-first ns)
    ∙ ap (λ (ws : List (List ℕ)). node_words os n ++ (replicate (closings n.depth (first_depth (map deep ns))) close_mark ++ ws)) (nodes-flat os ns)
