-- The words of a right policy's canonical text are that policy, without places.
use Rattle.std.proofs.Common.{◌≡◌, ℕ, zero, suc, ◌<◌, Bool, true, false, List, [], ◌∷◌, ◌++◌, Option, Some, length, map, replicate}
use Rattle.std.proofs.Common.{refl, sym, ap, subst, ◌∙◌, arith}
use Rattle.std.specs.Prelude.{bytes_eq, option_map, if◌then◌else◌}
use Rattle.std.proofs.lemmas.Slice.Eq.{bytes_eq-Decides}
use Rattle.logic.specs.Lists.{All}
use Rattle.depths.specs.Depths.{Deep, Nested, closings, first_depth}
use Rattle.depths.proofs.Grown.{nested-grows}
use Rattle.notation.specs.Words.{close_mark}
use Rattle.notation.specs.Policy.{OperatorEntry, NodeEntry, Entries}
use Rattle.notation.specs.Operators.{builtin_of}
use Rattle.notation.specs.Nodes.{operator_index}
use Rattle.notation.specs.Right.{Distinct, RightNode, RightEntries, bare, bare_operator, bare_rule, bare_node}
use Rattle.notation.specs.Grammar.{Block}
use Rattle.notation.specs.Meaning.{put_behind, added_by, all_added, uses, NodesOf, IsPolicy}
use Rattle.notation.proofs.Flat.{IsFlat}
use Rattle.notation.proofs.Trees.{node-flat}
use Rattle.notation.proofs.UsedLaws.{index-bare}
use Rattle.notation.proofs.ReadSound.{right-bare}
use Rattle.canon.specs.Text.{name_at}
use Rattle.canon.specs.Pieces.{operators_words, rules_words, header_words, next_depth, nodes_words, canonical_words}
use Rattle.canon.proofs.SaidOperators.{is-operators}
use Rattle.canon.proofs.SaidRules.{is-rules}
use Rattle.canon.proofs.SaidNodes.{is-header}

-- ---- operators by name

-- the others have another name
other : (os : List OperatorEntry) (w : List ℕ) (i : ℕ) → All (λ v. ¬ (v ≡ w)) (map (λ o. o.name) os) → i < length os
    → ¬ (name_at os i ≡ w)
other [] w i a h = absurd (omega (arith, h))
other (o ∷ os) w zero a h = a.0
other (o ∷ os) w (suc i) a h = other os w i a.1 (omega (arith, h))

-- the operator at an index is the first of its name
found-case : (b : Bool) (r : Option ℕ) (i : ℕ) → b ≡ false → r ≡ Some i → (if b then Some 0 else option_map suc r) ≡ Some (suc i)
found-case b r i e f = rw (e, f) refl

found : (os : List OperatorEntry) (i : ℕ) → Distinct (map (λ o. o.name) os) → i < length os → operator_index (name_at os i) os ≡ Some i
found [] i d h = absurd (omega (arith, h))
found (o ∷ os) zero d h = rw ((bytes_eq-Decides o.name o.name).1 refl) refl
found (o ∷ os) (suc i) d h =
    found-case (bytes_eq o.name (name_at os i)) (operator_index (name_at os i) os) i
    (differs (bytes_eq o.name (name_at os i)) refl) (found os i d.1 (omega (arith, h)))
  where
    differs : (b : Bool) → bytes_eq o.name (name_at os i) ≡ b → b ≡ false
    differs true e = absurd (other os o.name i d.0 (omega (arith, h)) (sym ((bytes_eq-Decides o.name (name_at os i)).0 e)))
    differs false e = refl

-- ---- nodes

-- a node before its operators are looked up, and its depth
abbrev block : List OperatorEntry → NodeEntry → Deep Block
block os n = record {
  depth = n.depth;
  what = record {
    name = n.name;
    inner = name_at os n.inner;
    sibling = name_at os n.sibling;
    parent = name_at os n.parent;
    rules = map bare_rule n.rules;
  };
}

abbrev blocks : List OperatorEntry → List NodeEntry → List (Deep Block)
blocks os ns = map (block os) ns

first-same : (os : List OperatorEntry) (ns : List NodeEntry) → next_depth ns ≡ first_depth (blocks os ns)
first-same os [] = refl
first-same os (n ∷ ns) = refl

-- their words are in the grammar
is-flat : (os : List OperatorEntry) (k : ℕ) (ns : List NodeEntry) → All (RightNode k) ns → IsFlat (nodes_words os ns) (blocks os ns)
is-flat os k [] a = IsFlat.none
is-flat os k (n ∷ ns) a =
    subst (λ (d : ℕ). IsFlat (header_words os n ++ (rules_words n.rules ++ (replicate (closings n.depth d) close_mark ++ nodes_words os ns)))
    (blocks os (n ∷ ns))) (sym (first-same os ns))
    (IsFlat.more (is-header os n k a.0) (is-rules n.rules (a.0).rules) (is-flat os k ns a.1))

depths-same : (os : List OperatorEntry) (ns : List NodeEntry) → map (λ x. x.depth) (blocks os ns) ≡ map (λ n. n.depth) ns
depths-same os [] = refl
depths-same os (n ∷ ns) = ap (λ (ds : List ℕ). n.depth ∷ ds) (depths-same os ns)

-- an operator that is there adds none
known : (w : List ℕ) (os : List OperatorEntry) (i : ℕ) → operator_index w os ≡ Some i → added_by w os ≡ os
known w os i e = ap (λ (o : Option ℕ). put_behind o (builtin_of w) w os) e

-- the operators of right nodes are there
uses-known : (names os : List OperatorEntry) (k : ℕ) (ns : List NodeEntry)
    → ((i : ℕ) → i < k → operator_index (name_at names i) os ≡ Some i) → All (RightNode k) ns → all_added (uses (blocks names ns)) os ≡ os
uses-known names os k [] f a = refl
uses-known names os k (n ∷ ns) f a =
    let r = a.0 in
    let i : List ℕ = name_at names n.inner in
    let s : List ℕ = name_at names n.sibling in
    let p : List ℕ = name_at names n.parent in
    let e : added_by p (added_by s (added_by i os)) ≡ os =
    ap (λ (x : List OperatorEntry). added_by p (added_by s x)) (known i os n.inner (f n.inner r.inner))
    ∙ ap (λ (x : List OperatorEntry). added_by p x) (known s os n.sibling (f n.sibling r.sibling))
    ∙ known p os n.parent (f n.parent r.parent) in
    ap (λ (x : List OperatorEntry). all_added (uses (blocks names ns)) x) e ∙ uses-known names os k ns f a.1

-- the nodes are those of their blocks
nodes-of : (names os : List OperatorEntry) (k : ℕ) (ns : List NodeEntry)
    → ((i : ℕ) → i < k → operator_index (name_at names i) os ≡ Some i) → All (RightNode k) ns → NodesOf os (blocks names ns) (map bare_node ns)
nodes-of names os k [] f a = NodesOf.none
nodes-of names os k (n ∷ ns) f a =
    NodesOf.more (record {
      name = refl;
      at = refl;
      depth = refl;
      inner = f n.inner (a.0).inner;
      sibling = f n.sibling (a.0).sibling;
      parent = f n.parent (a.0).parent;
      rules = refl;
    }) (nodes-of names os k ns f a.1)

-- ---- THE WORDS OF A POLICY'S CANONICAL TEXT ARE THAT POLICY
pub canonical-policy : (p : Entries) → RightEntries p → IsPolicy (canonical_words p) (bare p)
canonical-policy p r =
    let os : List OperatorEntry = map bare_operator p.operators in
    let xs : List (Deep Block) = blocks p.operators p.nodes in
    let f : (i : ℕ) → i < length p.operators → operator_index (name_at p.operators i) os ≡ Some i =
    λ i h. index-bare (name_at p.operators i) p.operators ∙ found p.operators i r.operator_names h in
    let g = nested-grows xs (subst Nested (sym (depths-same p.operators p.nodes)) r.nested) in
    record {
      operator_words = operators_words p.operators;
      node_words = nodes_words p.operators p.nodes;
      operators = os;
      tree = g.tree;
      words = refl;
      declared = is-operators p.operators r.operators;
      nodes = node-flat (nodes_words p.operators p.nodes) g.tree
          (subst (IsFlat (nodes_words p.operators p.nodes)) (sym g.nodes) (is-flat p.operators (length p.operators) p.nodes r.nodes));
      used = subst (λ (ys : List (Deep Block)). os ≡ all_added (uses ys) os) (sym g.nodes)
          (sym (uses-known p.operators os (length p.operators) p.nodes f r.nodes));
      held = subst (λ (ys : List (Deep Block)). NodesOf os ys (map bare_node p.nodes)) (sym g.nodes)
          (nodes-of p.operators os (length p.operators) p.nodes f r.nodes);
      right = right-bare p r;
    }
