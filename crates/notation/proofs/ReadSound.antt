-- WHAT A TEXT IS READ AS IS WHAT IT IS BY THE GRAMMAR, without places.
use Rattle.std.proofs.Common.{◌≡◌, ℕ, List, [], ◌∷◌, ◌++◌, Ok, length, map, refl, sym, ap, subst, ◌∙◌}
use Rattle.std.proofs.lemmas.List.{length-map}
use Rattle.logic.specs.Lists.{All}
use Rattle.depths.specs.Depths.{Deep, Nested}
use Rattle.depths.proofs.Grown.{nested-grows}
use Rattle.tokens.specs.Tokens.{Token, tokens_of}
use Rattle.tokens.proofs.Spans.{words-nonempty}
use Rattle.tokens.proofs.Cuts.{cut-exactly}
use Rattle.notation.specs.Policy.{OperatorEntry, RuleEntry, NodeEntry, Entries}
use Rattle.notation.specs.Nodes.{rule_count, read_of}
use Rattle.notation.specs.Right.{Distinct, RightOperator, RightRule, RightNode, RightEntries, bare, bare_operator, bare_rule, bare_node}
use Rattle.notation.specs.Grammar.{Block}
use Rattle.notation.specs.Meaning.{uses, all_added, NodesOf, IsPolicy, IsText}
use Rattle.notation.specs.Meaning as meaning
use Rattle.notation.proofs.Took.{texts-map}
use Rattle.notation.proofs.Flat.{IsFlat}
use Rattle.notation.proofs.Trees.{node-flat}
use Rattle.notation.proofs.ReadLaws.{PolicyTaken, read-flat}

-- ---- without places a right policy is right

-- operators
operators-bare : (os : List OperatorEntry) → All RightOperator os → All RightOperator (map bare_operator os)
operators-bare [] a = tt
operators-bare (o ∷ os) a = (record { name = a.0.name; cells = a.0.cells; own = a.0.own }, operators-bare os a.1)

-- operators' names without places
operator-names-bare : (os : List OperatorEntry) → map (λ o. o.name) (map bare_operator os) ≡ map (λ o. o.name) os
operator-names-bare [] = refl
operator-names-bare (o ∷ os) = ap (λ (ws : List (List ℕ)). o.name ∷ ws) (operator-names-bare os)

-- rules
rules-bare : (rs : List RuleEntry) → All RightRule rs → All RightRule (map bare_rule rs)
rules-bare [] a = tt
rules-bare (r ∷ rs) a = (record { label = a.0.label; matching = a.0.matching; action = a.0.action }, rules-bare rs a.1)

-- rules' labels without places
labels-bare : (rs : List RuleEntry) → map (λ r. r.label) (map bare_rule rs) ≡ map (λ r. r.label) rs
labels-bare [] = refl
labels-bare (r ∷ rs) = ap (λ (ws : List (List ℕ)). r.label ∷ ws) (labels-bare rs)

-- nodes
node-bare : (k : ℕ) (n : NodeEntry) → RightNode k n → RightNode k (bare_node n)
node-bare k n r = record {
  name = r.name;
  inner = r.inner;
  sibling = r.sibling;
  parent = r.parent;
  rules = rules-bare n.rules r.rules;
  labels = subst Distinct (sym (labels-bare n.rules)) r.labels;
}

-- nodes
nodes-bare : (k : ℕ) (ns : List NodeEntry) → All (RightNode k) ns → All (RightNode k) (map bare_node ns)
nodes-bare k [] a = tt
nodes-bare k (n ∷ ns) a = (node-bare k n a.0, nodes-bare k ns a.1)

-- nodes' names without places
node-names-bare : (ns : List NodeEntry) → map (λ n. n.name) (map bare_node ns) ≡ map (λ n. n.name) ns
node-names-bare [] = refl
node-names-bare (n ∷ ns) = ap (λ (ws : List (List ℕ)). n.name ∷ ws) (node-names-bare ns)

-- nodes' depths without places
depths-bare : (ns : List NodeEntry) → map (λ n. n.depth) (map bare_node ns) ≡ map (λ n. n.depth) ns
depths-bare [] = refl
depths-bare (n ∷ ns) = ap (λ (ds : List ℕ). n.depth ∷ ds) (depths-bare ns)

rule_count-bare : (ns : List NodeEntry) → rule_count (map bare_node ns) ≡ rule_count ns
rule_count-bare [] = refl
rule_count-bare (n ∷ ns) = rw (rule_count-bare ns, length-map n.rules bare_rule) refl

-- a policy
pub right-bare : (p : Entries) → RightEntries p → RightEntries (bare p)
right-bare p r =
    let o : length (map bare_operator p.operators) ≡ length p.operators = length-map p.operators bare_operator in
    let n : length (map bare_node p.nodes) ≡ length p.nodes = length-map p.nodes bare_node in
    record {
      few_operators = rw o r.few_operators;
      operators = operators-bare p.operators r.operators;
      operator_names = subst Distinct (sym (operator-names-bare p.operators)) r.operator_names;
      few_nodes = rw n r.few_nodes;
      nodes = rw o (nodes-bare (length p.operators) p.nodes r.nodes);
      node_names = subst Distinct (sym (node-names-bare p.nodes)) r.node_names;
      nested = subst Nested (sym (depths-bare p.nodes)) r.nested;
      few_rules = rw (rule_count-bare p.nodes) r.few_rules;
    }

-- ---- the tree of the nodes

-- nodes have the depths of their blocks
depths-held : (os : List OperatorEntry) (xs : List (Deep Block)) (ns : List NodeEntry) → NodesOf os xs ns → map (λ n. n.depth) ns ≡ map (λ x. x.depth) xs
depths-held os xs ns meaning.NodesOf.none = refl
depths-held os xs ns (meaning.more {x} {n} {xs = ys} {ns = ms} h s) = rw (h.depth, depths-held os ys ms s) refl

-- what is read as a policy is a policy
pub policy-sound : (ts : List Token) (ws : List (List ℕ)) (p : Entries) (t : PolicyTaken ts p) → t.operator_words ++ t.node_words ≡ ws → IsPolicy ws (bare p)
policy-sound ts ws p t e =
    let r = right-bare p t.right in
    let n : Nested (map (λ x. x.depth) t.blocks) =
    subst Nested (depths-held (map bare_operator p.operators) t.blocks (map bare_node p.nodes) t.held) r.nested in
    let g = nested-grows t.blocks n in
    record {
      operator_words = t.operator_words;
      node_words = t.node_words;
      operators = t.operators;
      tree = g.tree;
      words = sym e;
      declared = t.declared;
      nodes = node-flat t.node_words g.tree (subst (IsFlat t.node_words) (sym g.nodes) t.flat);
      used = t.used ∙ ap (λ (xs : List (Deep Block)). all_added (uses xs) t.operators) (sym g.nodes);
      held = subst (λ (xs : List (Deep Block)). NodesOf (map bare_operator p.operators) xs (map bare_node p.nodes)) (sym g.nodes) t.held;
      right = r;
    }

-- what a text is read as is what it is
pub read-sound : (text : List ℕ) (p : Entries) → read_of text ≡ Ok p → IsText text (bare p)
read-sound text p g =
    let t = read-flat (length text) (tokens_of text) p (words-nonempty text) g in
    let ws : List (List ℕ) = t.operator_words ++ t.node_words in
    record {
      words = ws;
      cut = (cut-exactly text ws).1 (sym (texts-map (tokens_of text)) ∙ t.words);
      policy = policy-sound (tokens_of text) ws p t refl;
    }
