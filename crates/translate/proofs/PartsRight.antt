-- The parts of a right policy's file are right, but for the laws. Assumes nothing.
use Rattle.std.proofs.Common.{ℕ, suc, ◌+◌, ◌≤◌, ◌<◌, arith, ◌≡◌, refl, sym, ap, ◌∙◌, subst, true, List, [], ◌∷◌, map, length, length-append}
use Rattle.std.proofs.lemmas.List.{length-map}
use Rattle.logic.specs.Lists.{All}
use Rattle.logic.proofs.Lists.{all_append, all-at, all_then, all_mapped}
use Rattle.theory.specs.declared.Row.{Row}
use Rattle.flow.specs.declared.Match.{Match}
use Rattle.action.specs.declared.Action.{Action}
use Rattle.action.specs.Operator.{RightCodes}
use Rattle.action.proofs.Words.{right-words}
use Rattle.row.specs.Row.{row_words, right_row_match, right_row_action}
use Rattle.row.specs.Spelled.{row-long}
use Rattle.policy.specs.Numbers.{latest, most_atoms, most_children, node_length}
use Rattle.policy.specs.Sections.{children_of}
use Rattle.policy.specs.Whole.{own_atoms}
use Rattle.policy.specs.File.{held}
use Rattle.policy.specs.Due as due
use Rattle.policy.specs.Parts.{EachLong, RightPartsIn}
use Rattle.depths.specs.Depths.{Nested, child_counts}
use Rattle.depths.proofs.Stacks.{nested-tree, few-children, counts-length}
use Rattle.notation.specs.Policy.{OperatorEntry, RuleEntry, NodeEntry, Entries}
use Rattle.notation.specs.Nodes.{rule_count}
use Rattle.notation.specs.Right.{RightOperator, RightRule, RightNode, RightEntries}
use Rattle.translate.specs.Words.{node_records, all_rules, parts_of}

-- an operator's words are its cells
abbrev operator_words : OperatorEntry → List ℕ
operator_words o = o.cells

-- the words of a rule
abbrev rule_words : RuleEntry → List ℕ
rule_words r = row_words r.row

-- how many nodes, and how many rules
pub records-length : (ns : List NodeEntry) (ks : List ℕ) → length ks ≡ length ns → length (node_records ns ks) ≡ length ns
records-length [] ks e = refl
records-length (n ∷ ns) [] e = absurd (omega arith)
records-length (n ∷ ns) (k ∷ ks) e = ap suc (records-length ns ks (omega arith))

pub rules-length : (ns : List NodeEntry) → length (all_rules ns) ≡ rule_count ns
rules-length [] = refl
rules-length (n ∷ ns) = length-append n.rules (all_rules ns) ∙ ap (λ m. length n.rules + m) (rules-length ns)

-- each node has five words
records-long : (ns : List NodeEntry) (ks : List ℕ) → EachLong node_length (node_records ns ks)
records-long [] ks = tt
records-long (n ∷ ns) [] = tt
records-long (n ∷ ns) (k ∷ ks) = (refl, records-long ns ks)

-- their child counts, and how many rules are taken
records-children : (ns : List NodeEntry) (ks : List ℕ) → length ks ≡ length ns → map children_of (node_records ns ks) ≡ ks
records-children [] [] e = refl
records-children [] (k ∷ ks) e = absurd (omega arith)
records-children (n ∷ ns) [] e = absurd (omega arith)
records-children (n ∷ ns) (k ∷ ks) e = ap (λ l. k ∷ l) (records-children ns ks (omega arith))

records-own : (ns : List NodeEntry) (ks : List ℕ) → length ks ≡ length ns → own_atoms (node_records ns ks) ≡ rule_count ns
records-own [] ks e = refl
records-own (n ∷ ns) [] e = absurd (omega arith)
records-own (n ∷ ns) (k ∷ ks) e = ap (λ m. length n.rules + m) (records-own ns ks (omega arith))

-- the nodes that records are have their child counts
pub held-children : (os : List (List ℕ)) (xs : List (Row Match Action)) (rs : List (List ℕ))
    → map (λ n. n.child_count) (held os xs rs) ≡ map children_of rs
held-children os xs [] = refl
held-children os xs (r ∷ rs) = ap (λ l. children_of r ∷ l) (held-children os _ rs)

-- a right node's words are right
records-right : (a : ℕ) (ns : List NodeEntry) (ks : List ℕ) → All (RightNode a) ns → rule_count ns ≤ most_atoms
    → All (λ k. k ≤ most_children) ks → All (due.RightNode a) (node_records ns ks)
records-right a [] ks r m c = tt
records-right a (n ∷ ns) [] r m c = tt
records-right a (n ∷ ns) (k ∷ ks) r m c = (
  record { inner = r.0.inner; parent = r.0.parent; sibling = r.0.sibling; own = omega arith; children = c.0 },
  records-right a ns ks r.1 (omega arith) c.1,
)

-- all rules are right
pub rules-right : (a : ℕ) (ns : List NodeEntry) → All (RightNode a) ns → All RightRule (all_rules ns)
rules-right a [] r = tt
rules-right a (n ∷ ns) r = all_append RightRule n.rules (all_rules ns) r.0.rules (rules-right a ns r.1)

-- a right rule's words are right
match-right : (r : RuleEntry) → RightRule r → right_row_match (rule_words r) ≡ true
unfolding right_row_match
match-right r h = h.matching

action-right : (r : RuleEntry) → RightRule r → right_row_action (rule_words r) ≡ true
unfolding right_row_action
action-right r h = right-words r.row.action ∙ h.action

-- there is a node, and so an operator
some-operator : (a : ℕ) (ns : List NodeEntry) → All (RightNode a) ns → Nested (map (λ n. n.depth) ns) → (1 ≤ a) × (1 ≤ length ns)
some-operator a [] r n = absurd n
some-operator a (x ∷ ns) r n = let g : x.inner < a = r.0.inner in (omega arith, omega arith)

-- THE PARTS OF A RIGHT POLICY ARE RIGHT
pub parts-right : (p : Entries) → RightEntries p → RightPartsIn latest (parts_of p)
parts-right p r =
    let ds : List ℕ = map (λ n. n.depth) p.nodes in
    let ks : List ℕ = child_counts ds in
    let same : length ks ≡ length p.nodes = counts-length ds ∙ length-map p.nodes (λ n. n.depth) in
    let os : List (List ℕ) = map operator_words p.operators in
    let many : length os ≡ length p.operators = length-map p.operators operator_words in
    let rules : List RuleEntry = all_rules p.nodes in
    let some : (1 ≤ length p.operators) × (1 ≤ length p.nodes) = some-operator (length p.operators) p.nodes r.nodes r.nested in
    let right : All RightRule rules = rules-right (length p.operators) p.nodes r.nodes in
    let cells : All RightCodes os = all_mapped RightCodes operator_words p.operators (all_then RightOperator _ (λ o h. h.cells) p.operators r.operators) in
    let few : All (λ k. k ≤ most_children) ks = all_then _ _ (λ k h. most k h) ks (few-children ds) in
    let nodes : All (due.RightNode (length os)) (node_records p.nodes ks) =
    subst (λ a. All (due.RightNode a) (node_records p.nodes ks)) (sym many) (records-right (length p.operators) p.nodes ks r.nodes r.few_rules few) in
    record {
      operators_long = all_then RightCodes _ (λ o h. h.0) os cells;
      atoms_long = all_mapped _ rule_words rules (all_then RightRule _ (λ x h. row-long x.row) rules right);
      nodes_long = records-long p.nodes ks;
      some_operators = omega (arith, many, some.0);
      few_operators = omega (arith, many, r.few_operators);
      few_atoms = omega (arith, length-map rules rule_words, rules-length p.nodes, r.few_rules);
      some_nodes = omega (arith, records-length p.nodes ks same, some.1);
      few_nodes = omega (arith, records-length p.nodes ks same, r.few_nodes);
      cells = λ i j h l. (all-at RightCodes [] os i cells h).1 j l;
      matches = λ i h. all-at (λ w. right_row_match w ≡ true) [] (map rule_words rules) i
          (all_mapped _ rule_words rules (all_then RightRule _ match-right rules right)) h;
      actions = λ i h. all-at (λ w. right_row_action w ≡ true) [] (map rule_words rules) i
          (all_mapped _ rule_words rules (all_then RightRule _ action-right rules right)) h;
      right_nodes = λ i h. all-at (due.RightNode (length os)) [] (node_records p.nodes ks) i nodes h;
      one_tree = nested-tree _ ds r.nested (held-children os _ (node_records p.nodes ks) ∙ records-children p.nodes ks same);
      all_taken = records-own p.nodes ks same ∙ sym (rules-length p.nodes) ∙ sym (length-map rules rule_words);
    }
  where
    most : (k : ℕ) → k < length (map (λ n. n.depth) p.nodes) → k ≤ most_children
    most k h = omega (arith, length-map p.nodes (λ n. n.depth), r.few_nodes)
