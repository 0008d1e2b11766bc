-- A text that is a policy is read as that policy.
use Rattle.std.proofs.Common.{◌≡◌, ℕ, ◌≤◌, true, List, [], ◌∷◌, ◌++◌, Option, Some, None, Ok, length, map, refl, sym, ap, subst, ◌∙◌, append_assoc, arith}
use Rattle.logic.specs.Lists.{All}
use Rattle.logic.proofs.Lists.{all_split, all_then}
use Rattle.theory.specs.Tree.{Tree}
use Rattle.theory.specs.Tree as tree
use Rattle.policy.specs.Numbers.{most_operators, most_atoms, most_nodes}
use Rattle.depths.specs.Depths.{Deep, Nested, deep_tree, deep_trees}
use Rattle.tokens.specs.Tokens.{Token, tokens_of, ended}
use Rattle.tokens.proofs.Cuts.{cut-exactly}
use Rattle.tokens.proofs.Spans.{words-nonempty}
use Rattle.notation.specs.Words.{operator_word}
use Rattle.notation.specs.Policy.{OperatorEntry, NodeEntry, Entries}
use Rattle.notation.specs.Operators.{builtin_of, operators_at}
use Rattle.notation.specs.Nodes.{operator_index, rule_count, nodes_at, policy_at, read_of}
use Rattle.notation.specs.Right.{Distinct, RightNode, bare_operator, bare}
use Rattle.notation.specs.Meaning.{put_behind, added_by, all_added, uses, NodesOf, IsText}
use Rattle.notation.specs.Grammar.{Block, IsNode}
use Rattle.notation.proofs.Took.{texts, texts-map, Left}
use Rattle.notation.proofs.Taken.{left-is, Other}
use Rattle.notation.proofs.OperatorLaws.{operators-again}
use Rattle.notation.proofs.HeaderAgain.{all-length}
use Rattle.notation.proofs.NodesAgain.{of-length, of-first, flat-first, NodesAgain, nodes-again}
use Rattle.notation.proofs.Trees.{flat-node}

-- ---- operators

-- the first of some that differ
distinct-front : {X : Type 0} (xs ys : List X) → Distinct (xs ++ ys) → Distinct xs
distinct-front [] ys d = tt
distinct-front (x ∷ xs) ys d = ((all_split (λ y. ¬ (y ≡ x)) xs ys d.0).0, distinct-front xs ys d.1)

-- names are those of the operators before, and that of the last
names-more : (os : List OperatorEntry) (o : OperatorEntry) → map (λ x. x.name) (os ++ o ∷ []) ≡ map (λ x. x.name) os ++ o.name ∷ []
names-more [] o = refl
names-more (p ∷ os) o = ap (λ (ws : List (List ℕ)). p.name ∷ ws) (names-more os o)

-- the names of operators differ where they do with others behind them
put-distinct : (o : Option ℕ) (c : Option (List ℕ)) (v : List ℕ) (os : List OperatorEntry) → Distinct (map (λ x. x.name) (put_behind o c v os))
    → Distinct (map (λ x. x.name) os)
put-distinct (Some j) c v os d = d
put-distinct None None v os d = d
put-distinct None (Some cells) v os d =
    distinct-front (map (λ x. x.name) os) (v ∷ []) (subst Distinct (names-more os (record { name = v; at = 0; cells = cells })) d)

-- the same behind the operators that some names add
all-distinct : (names : List (List ℕ)) (os : List OperatorEntry) → Distinct (map (λ x. x.name) (all_added names os)) → Distinct (map (λ x. x.name) os)
all-distinct [] os d = d
all-distinct (v ∷ names) os d = put-distinct (operator_index v os) (builtin_of v) v os (all-distinct names (added_by v os) d)

-- ---- nodes

-- entries are as deep as their nodes
of-depths : (final : List OperatorEntry) (xs : List (Deep Block)) (ys : List NodeEntry) → NodesOf final xs ys → map (λ y. y.depth) ys ≡ map (λ x. x.depth) xs
of-depths final xs ys NodesOf.none = refl
of-depths final xs ys (NodesOf.more {x} {n} {xs = zs} {ns} i is) = rw (i.depth, of-depths final zs ns is) refl

-- what a policy asks of its nodes
record RightNodes (final : List OperatorEntry) (ys : List NodeEntry) : Type 0 where
  few_operators : length final ≤ most_operators
  few_nodes : length ys ≤ most_nodes
  few_rules : rule_count ys ≤ most_atoms
  names : Distinct (map (λ y. y.name) ys)
  labels : All (λ y. Distinct (map (λ r. r.label) y.rules)) ys
  nested : Nested (map (λ y. y.depth) ys)

-- a node with the nodes inside it is read again
tree-again : (n : ℕ) (final os : List OperatorEntry) (ts : List Token) (ws more : List (List ℕ)) (t : Tree Block) (ys : List NodeEntry) → IsNode ws t
    → NodesOf final (deep_tree 1 t) ys → final ≡ all_added (uses (deep_tree 1 t)) (map bare_operator os) → RightNodes final ys → Left n ts (ws ++ more)
    → NodesAgain n (nodes_at most_nodes os [] 0 ts) final [] ys more
tree-again n final os ts ws more (tree.node b us) [] i is e r l = absurd (omega (arith, of-length final (deep_tree 1 (tree.node b us)) [] is))
tree-again n final os ts ws more (tree.node b us) (y ∷ ys) i is e r l =
    let x : Deep Block = record { depth = 1; what = b } in
    let xs : List (Deep Block) = deep_trees 2 us in
    let o = of-first final x xs y ys is in
    let nested : Nested (map (λ x. x.depth) (x ∷ xs)) = subst Nested (of-depths final (x ∷ xs) (y ∷ ys) is) r.nested in
    nodes-again n most_nodes 0 final os [] ts ws more x xs y ys (record {
      depth = refl;
      deep = omega arith;
      below = nested.1;
      first = o.0;
      others = o.1;
      operators = e;
      few_operators = r.few_operators;
      few_nodes = r.few_nodes;
      few_rules = let k = r.few_rules in omega arith;
      names = r.names;
      labels = r.labels;
    }) (flat-node ws (tree.node b us) i) l

-- the words of a node start by its word
node-first : (ws more : List (List ℕ)) (t : Tree Block) → IsNode ws t → Other operator_word (ws ++ more)
node-first ws more (tree.node b us) i =
    let f = flat-first ws more (record { depth = 1; what = b }) (deep_trees 2 us) (flat-node ws (tree.node b us) i) in
    rw f refl

-- ---- texts

-- a policy from what its readers give
policy-gives : (ts us vs : List Token) (os : List OperatorEntry) (p : Entries) → operators_at most_operators [] ts ≡ Ok (os, us)
    → nodes_at most_nodes os [] 0 us ≡ Ok (p, vs) → ended vs ≡ true → policy_at ts ≡ Ok p
unfolding policy_at
policy-gives ts us vs os p e f g = rw (e, f, g) refl

-- entries are their parts
same-entries : (os : List OperatorEntry) (ns : List NodeEntry) (p : Entries) → os ≡ p.operators → ns ≡ p.nodes → record { operators = os; nodes = ns } ≡ p
same-entries os ns p e f = rw (e, f) refl

-- A TEXT THAT IS A POLICY IS READ AS IT
pub read-complete : (text : List ℕ) (p : Entries) → IsText text p → (q : Entries) × (read_of text ≡ Ok q) × (bare q ≡ p)
read-complete text p t =
    let i = t.policy in
    let n : ℕ = length text in
    let ts : List Token = tokens_of text in
    let more : List (List ℕ) = i.node_words ++ ([] ∷ []) in
    let spells : texts ts ≡ i.operator_words ++ more =
    texts-map ts ∙ (cut-exactly text t.words).0 t.cut ∙ ap (λ (ws : List (List ℕ)). ws ++ ([] ∷ [])) i.words
    ∙ append_assoc i.operator_words i.node_words ([] ∷ []) in
    let r = i.right in
    let few : length i.operators ≤ most_operators =
    omega (arith, r.few_operators, ap length i.used, all-length (uses (deep_tree 1 i.tree)) i.operators) in
    let names : Distinct (map (λ x. x.name) i.operators) =
    all-distinct (uses (deep_tree 1 i.tree)) i.operators (subst (λ (os : List OperatorEntry). Distinct (map (λ x. x.name) os)) i.used r.operator_names) in
    let a = operators-again n most_operators [] ts i.operator_words more i.operators i.declared few names (node-first i.node_words ([] ∷ []) i.tree i.nodes)
    (record { ends = words-nonempty text; spells = spells }) in
    let final : p.operators ≡ all_added (uses (deep_tree 1 i.tree)) (map bare_operator a.new) =
    i.used ∙ ap (all_added (uses (deep_tree 1 i.tree))) (sym a.same) in
    let b = tree-again n p.operators a.new a.rest i.node_words ([] ∷ []) i.tree p.nodes i.nodes i.held final (record {
      few_operators = r.few_operators;
      few_nodes = r.few_nodes;
      few_rules = r.few_rules;
      names = r.node_names;
      labels = all_then (RightNode (length p.operators)) (λ y. Distinct (map (λ q. q.label) y.rules)) (λ y h. h.labels) p.nodes r.nodes;
      nested = r.nested;
    }) a.left in (
      record { operators = b.operators; nodes = b.new },
      policy-gives ts a.rest b.rest a.new (record { operators = b.operators; nodes = b.new }) a.gives b.gives (left-is n b.rest [] [] b.left),
      same-entries (map bare_operator b.operators) _ p b.same_operators b.same_nodes,
    )

-- A TEXT IS ONE POLICY AT MOST
pub text-one : (text : List ℕ) (p q : Entries) → IsText text p → IsText text q → p ≡ q
text-one text p q i k =
    let a = read-complete text p i in
    let b = read-complete text q k in
    let e : Ok a.0 ≡ read_of text = sym a.1 in
    let same : a.0 ≡ b.0 = let f = e ∙ b.1 in cc in
    sym a.2 ∙ ap bare same ∙ b.2
