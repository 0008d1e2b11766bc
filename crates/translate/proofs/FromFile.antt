-- The policy that an accepted file is: it is right, and its words are the file. Assumes nothing.
use Rattle.std.proofs.Common.{ℕ, zero, suc, ◌+◌, ◌^◌, ◌≤◌, ◌<◌, arith, ◌≡◌, refl, sym, ap, ap₂, ◌∙◌, subst, true, List, [], ◌∷◌, ◌++◌, map, length, take, drop}
use Rattle.std.proofs.Common.{length-drop, take-append-drop}
use Rattle.std.proofs.lemmas.List.{length-map, length-take}
use Rattle.std.specs.Prelude.{codes}
use Rattle.logic.specs.Lists.{All}
use Rattle.logic.proofs.Lists.{all_take, all_drop, all_from, all-at}
use Rattle.action.specs.Operator.{RightCodes}
use Rattle.row.specs.Row.{row_length, row_of, row_words, right_row_match, right_row_action}
use Rattle.row.proofs.RowLaws.{words_back, action-read}
use Rattle.policy.specs.Numbers.{latest, node_length}
use Rattle.policy.specs.Sections.{inner_of, parent_of, sibling_of, own_of, children_of}
use Rattle.policy.specs.Whole.{own_atoms}
use Rattle.policy.specs.Due as due
use Rattle.policy.specs.WellFormed.{WellFormed}
use Rattle.policy.specs.Parts.{Parts, parts_in, file_words_in, EachLong, RightPartsIn}
use Rattle.policy.proofs.Accepted.{accepted-exactly}
use Rattle.policy.proofs.Parts.{accepted-parts, parts_whole}
use Rattle.depths.specs.Depths.{Nested, child_counts, depths_of}
use Rattle.depths.specs.Theorems.{DepthsFit}
use Rattle.depths.proofs.Stacks.{tree-nested, depths-length}
use Rattle.notation.specs.Policy.{RuleEntry, Entries}
use Rattle.notation.specs.Nodes.{rule_count}
use Rattle.notation.specs.Right.{Distinct, RightOperator, RightRule, RightNode, RightEntries}
use Rattle.translate.specs.Words.{node_records, all_rules, parts_of}
use Rattle.translate.specs.Names.{numbered, operator_name, operators_from, rules_from, nodes_from}
use Rattle.translate.specs.Theorems.{FromRight, WordsSame}
use Rattle.translate.proofs.PartsRight.{held-children}
use Rattle.translate.proofs.MadeNames.{node-is_name, rule-is_name, numbered-same, named-right, names-same}

-- ---- operators

-- as many as there are records, and with their words
operators-length : (i : ℕ) (os : List (List ℕ)) → length (operators_from i os) ≡ length os
operators-length i [] = refl
operators-length i (o ∷ os) = ap suc (operators-length (suc i) os)

operators-back : (i : ℕ) (os : List (List ℕ)) → map (λ o. o.cells) (operators_from i os) ≡ os
operators-back i [] = refl
operators-back i (o ∷ os) = ap (λ l. o ∷ l) (operators-back (suc i) os)

-- they are right
operators-right : (i : ℕ) (os : List (List ℕ)) → i + length os ≤ 2 ^ 32 → All RightCodes os → All RightOperator (operators_from i os)
operators-right i [] h c = tt
operators-right i (o ∷ os) h c = (named-right i o (omega arith) c.0, operators-right (suc i) os (omega arith) c.1)

-- and their names differ
operators-other : (i j : ℕ) (o : List ℕ) (os : List (List ℕ)) → i < j → j + length os ≤ 2 ^ 32
    → All (λ y. ¬ (y ≡ operator_name i o)) (map (λ x. x.name) (operators_from j os))
operators-other i j o [] l h = tt
operators-other i j o (x ∷ os) l h = (
  (λ e. let q : j ≡ i = names-same j i x o (omega arith) (omega arith) e in absurd (omega arith)),
  operators-other i (suc j) o os (omega arith) (omega arith),
)

operators-differ : (i : ℕ) (os : List (List ℕ)) → i + length os ≤ 2 ^ 32 → Distinct (map (λ x. x.name) (operators_from i os))
operators-differ i [] h = tt
operators-differ i (o ∷ os) h = (operators-other i (suc i) o os (omega arith) (omega arith), operators-differ (suc i) os (omega arith))

-- ---- rules

rules-length : (i : ℕ) (rs : List (List ℕ)) → length (rules_from i rs) ≡ length rs
rules-length i [] = refl
rules-length i (r ∷ rs) = ap suc (rules-length (suc i) rs)

-- the words of a row with a right action
AtomRight : List ℕ → Type 0
AtomRight r = (length r ≡ row_length) × (right_row_match r ≡ true) × (right_row_action r ≡ true)

rules-back : (i : ℕ) (rs : List (List ℕ)) → All AtomRight rs → map (λ r. row_words r.row) (rules_from i rs) ≡ rs
unfolding AtomRight
rules-back i [] h = refl
rules-back i (r ∷ rs) h = ap₂ (λ x l. x ∷ l) (words_back r h.0.0 h.0.2) (rules-back (suc i) rs h.1)

rule-right : (i : ℕ) (r : List ℕ) → i < 2 ^ 32 → AtomRight r → RightRule (record { label = numbered (codes "rule") i; at = 0; row = row_of r })
unfolding AtomRight right_row_match
rule-right i r h a = record { label = rule-is_name i h; matching = a.1; action = action-read r a.2 }

rules-right : (i : ℕ) (rs : List (List ℕ)) → i + length rs ≤ 2 ^ 32 → All AtomRight rs → All RightRule (rules_from i rs)
rules-right i [] h a = tt
rules-right i (r ∷ rs) h a = (rule-right i r (omega arith) a.0, rules-right (suc i) rs (omega arith) a.1)

rules-other : (i j : ℕ) (rs : List (List ℕ)) → i < j → j + length rs ≤ 2 ^ 32
    → All (λ y. ¬ (y ≡ numbered (codes "rule") i)) (map (λ x. x.label) (rules_from j rs))
rules-other i j [] l h = tt
rules-other i j (x ∷ rs) l h = (
  (λ e. let q : j ≡ i = numbered-same (codes "rule") j i (omega arith) (omega arith) e in absurd (omega arith)),
  rules-other i (suc j) rs (omega arith) (omega arith),
)

rules-differ : (i : ℕ) (rs : List (List ℕ)) → i + length rs ≤ 2 ^ 32 → Distinct (map (λ x. x.label) (rules_from i rs))
rules-differ i [] h = tt
rules-differ i (r ∷ rs) h = (rules-other i (suc i) rs (omega arith) (omega arith), rules-differ (suc i) rs (omega arith))

-- labels that differ do so among the first and among the others
abbrev labels : List RuleEntry → List (List ℕ)
labels rs = map (λ r. r.label) rs

other-take : (n : ℕ) (x : List ℕ) (rs : List RuleEntry) → All (λ y. ¬ (y ≡ x)) (labels rs) → All (λ y. ¬ (y ≡ x)) (labels (take n rs))
other-take zero x rs h = tt
other-take (suc n) x [] h = tt
other-take (suc n) x (r ∷ rs) h = (h.0, other-take n x rs h.1)

differ-take : (n : ℕ) (rs : List RuleEntry) → Distinct (labels rs) → Distinct (labels (take n rs))
differ-take zero rs h = tt
differ-take (suc n) [] h = tt
differ-take (suc n) (r ∷ rs) h = (other-take n r.label rs h.0, differ-take n rs h.1)

differ-drop : (n : ℕ) (rs : List RuleEntry) → Distinct (labels rs) → Distinct (labels (drop n rs))
differ-drop zero rs h = h
differ-drop (suc n) [] h = tt
differ-drop (suc n) (r ∷ rs) h = differ-drop n rs h.1

-- ---- nodes

nodes-length : (i : ℕ) (ns : List (List ℕ)) (ds : List ℕ) (rs : List RuleEntry) → length ds ≡ length ns
    → length (nodes_from i ns ds rs) ≡ length ns
nodes-length i [] ds rs e = refl
nodes-length i (n ∷ ns) [] rs e = absurd (omega arith)
nodes-length i (n ∷ ns) (d ∷ ds) rs e = ap suc (nodes-length (suc i) ns ds (drop (own_of n) rs) (omega arith))

nodes-depths : (i : ℕ) (ns : List (List ℕ)) (ds : List ℕ) (rs : List RuleEntry) → length ds ≡ length ns
    → map (λ n. n.depth) (nodes_from i ns ds rs) ≡ ds
nodes-depths i [] [] rs e = refl
nodes-depths i [] (d ∷ ds) rs e = absurd (omega arith)
nodes-depths i (n ∷ ns) [] rs e = absurd (omega arith)
nodes-depths i (n ∷ ns) (d ∷ ds) rs e = ap (λ l. d ∷ l) (nodes-depths (suc i) ns ds (drop (own_of n) rs) (omega arith))

-- all rules are taken, where the nodes take so many
nodes-rules : (i : ℕ) (ns : List (List ℕ)) (ds : List ℕ) (rs : List RuleEntry) → length ds ≡ length ns → own_atoms ns ≡ length rs
    → all_rules (nodes_from i ns ds rs) ≡ rs
nodes-rules i [] ds [] e o = refl
nodes-rules i [] ds (r ∷ rs) e o = absurd (omega arith)
nodes-rules i (n ∷ ns) [] rs e o = absurd (omega arith)
nodes-rules i (n ∷ ns) (d ∷ ds) rs e o =
    ap (λ l. take (own_of n) rs ++ l) (nodes-rules (suc i) ns ds (drop (own_of n) rs) (omega arith) (rw length-drop (omega arith)))
    ∙ take-append-drop (own_of n) rs

-- never more than there are
nodes-few : (i : ℕ) (ns : List (List ℕ)) (ds : List ℕ) (rs : List RuleEntry) → rule_count (nodes_from i ns ds rs) ≤ length rs
nodes-few i [] ds rs = omega arith
nodes-few i (n ∷ ns) [] rs = omega arith
nodes-few i (n ∷ ns) (d ∷ ds) rs =
    omega (arith, nodes-few (suc i) ns ds (drop (own_of n) rs), length-take (own_of n) rs, length-drop (own_of n) rs)

-- they are right
nodes-right : (a i : ℕ) (ns : List (List ℕ)) (ds : List ℕ) (rs : List RuleEntry) → i + length ns ≤ 2 ^ 32 → All (due.RightNode a) ns
    → All RightRule rs → Distinct (labels rs) → All (RightNode a) (nodes_from i ns ds rs)
nodes-right a i [] ds rs h r q l = tt
nodes-right a i (n ∷ ns) [] rs h r q l = tt
nodes-right a i (n ∷ ns) (d ∷ ds) rs h r q l = (
  record {
    name = node-is_name i (omega arith);
    inner = r.0.inner;
    sibling = r.0.sibling;
    parent = r.0.parent;
    rules = all_take RightRule (own_of n) rs q;
    labels = differ-take (own_of n) rs l;
  },
  nodes-right a (suc i) ns ds (drop (own_of n) rs) (omega arith) r.1 (all_drop RightRule (own_of n) rs q) (differ-drop (own_of n) rs l),
)

-- and their names differ
nodes-other : (i j : ℕ) (ns : List (List ℕ)) (ds : List ℕ) (rs : List RuleEntry) → i < j → j + length ns ≤ 2 ^ 32
    → All (λ y. ¬ (y ≡ numbered (codes "node") i)) (map (λ x. x.name) (nodes_from j ns ds rs))
nodes-other i j [] ds rs l h = tt
nodes-other i j (n ∷ ns) [] rs l h = tt
nodes-other i j (n ∷ ns) (d ∷ ds) rs l h = (
  (λ e. let q : j ≡ i = numbered-same (codes "node") j i (omega arith) (omega arith) e in absurd (omega arith)),
  nodes-other i (suc j) ns ds (drop (own_of n) rs) (omega arith) (omega arith),
)

nodes-differ : (i : ℕ) (ns : List (List ℕ)) (ds : List ℕ) (rs : List RuleEntry) → i + length ns ≤ 2 ^ 32
    → Distinct (map (λ x. x.name) (nodes_from i ns ds rs))
nodes-differ i [] ds rs h = tt
nodes-differ i (n ∷ ns) [] rs h = tt
nodes-differ i (n ∷ ns) (d ∷ ds) rs h =
    (nodes-other i (suc i) ns ds (drop (own_of n) rs) (omega arith) (omega arith), nodes-differ (suc i) ns ds (drop (own_of n) rs) (omega arith))

-- a node's five words
five-words : (r : List ℕ) → length r ≡ node_length → inner_of r ∷ parent_of r ∷ sibling_of r ∷ own_of r ∷ children_of r ∷ [] ≡ r
five-words (v ∷ w ∷ x ∷ y ∷ z ∷ []) h = refl
five-words [] h = absurd (omega arith)
five-words (v ∷ []) h = absurd (omega arith)
five-words (v ∷ w ∷ []) h = absurd (omega arith)
five-words (v ∷ w ∷ x ∷ []) h = absurd (omega arith)
five-words (v ∷ w ∷ x ∷ y ∷ []) h = absurd (omega arith)
five-words (v ∷ w ∷ x ∷ y ∷ z ∷ u ∷ r) h = absurd (omega arith)

-- the words of the nodes are the records
nodes-back : (i : ℕ) (ns : List (List ℕ)) (ds : List ℕ) (rs : List RuleEntry) → length ds ≡ length ns → own_atoms ns ≡ length rs
    → EachLong node_length ns → node_records (nodes_from i ns ds rs) (map children_of ns) ≡ ns
nodes-back i [] ds rs e o h = refl
nodes-back i (n ∷ ns) [] rs e o h = absurd (omega arith)
nodes-back i (n ∷ ns) (d ∷ ds) rs e o h =
    let own : length (take (own_of n) rs) ≡ own_of n = length-take (own_of n) rs ∙ omega arith in
    ap₂ (λ (k : ℕ) (l : List (List ℕ)). (inner_of n ∷ parent_of n ∷ sibling_of n ∷ k ∷ children_of n ∷ []) ∷ l) own
    (nodes-back (suc i) ns ds (drop (own_of n) rs) (omega arith) (rw length-drop (omega arith)) h.1)
    ∙ ap (λ x. x ∷ ns) (five-words n h.0)

-- ---- the policy that right parts are

abbrev policy_of_parts : Parts → Entries
policy_of_parts P = record {
  operators = operators_from 0 P.operators;
  nodes = nodes_from 0 P.nodes (depths_of (map children_of P.nodes)) (rules_from 0 P.atoms);
}

module _ (P : Parts) (r : RightPartsIn latest P) where
  abbrev ks : List ℕ
  ks = map children_of P.nodes

  abbrev ds : List ℕ
  ds = depths_of ks

  abbrev rules : List RuleEntry
  rules = rules_from 0 P.atoms

  fit : DepthsFit ks
  fit = subst DepthsFit (held-children _ _ P.nodes) (tree-nested _ r.one_tree)

  as-many : length ds ≡ length P.nodes
  as-many = depths-length ks ∙ length-map P.nodes children_of

  atoms-right : All AtomRight P.atoms
  unfolding AtomRight
  atoms-right = all_from AtomRight [] P.atoms (λ i h. (all-at _ [] P.atoms i r.atoms_long h, r.matches i h, r.actions i h))

  codes-right : All RightCodes P.operators
  codes-right = all_from RightCodes [] P.operators (λ i h. (all-at _ [] P.operators i r.operators_long h, λ j l. r.cells i j h l))

  -- it is right
  pub right-from : RightEntries (policy_of_parts P)
  right-from =
      let many = operators-length 0 P.operators in
      record {
        few_operators = omega (arith, operators-length 0 P.operators, r.few_operators);
        operators = operators-right 0 P.operators (omega (arith, r.few_operators)) codes-right;
        operator_names = operators-differ 0 P.operators (omega (arith, r.few_operators));
        few_nodes = omega (arith, nodes-length 0 P.nodes ds rules as-many, r.few_nodes);
        nodes = subst (λ n. All (RightNode n) (nodes_from 0 P.nodes ds rules)) (sym (operators-length 0 P.operators))
            (nodes-right (length P.operators) 0 P.nodes ds rules (omega (arith, r.few_nodes))
            (all_from (due.RightNode (length P.operators)) [] P.nodes r.right_nodes)
            (rules-right 0 P.atoms (omega (arith, r.few_atoms)) atoms-right) (rules-differ 0 P.atoms (omega (arith, r.few_atoms))));
        node_names = nodes-differ 0 P.nodes ds rules (omega (arith, r.few_nodes));
        nested = subst Nested (sym (nodes-depths 0 P.nodes ds rules as-many)) fit.nested;
        few_rules = omega (arith, nodes-few 0 P.nodes ds rules, rules-length 0 P.atoms, r.few_atoms);
      }

  all-taken : own_atoms P.nodes ≡ length rules
  all-taken = r.all_taken ∙ sym (rules-length 0 P.atoms)

  -- and its parts are these
  pub parts-same : parts_of (policy_of_parts P) ≡ P
  parts-same =
      let o = operators-back 0 P.operators in
      let a = ap (λ l. map (λ (x : RuleEntry). row_words x.row) l) (nodes-rules 0 P.nodes ds rules as-many all-taken) ∙ rules-back 0 P.atoms atoms-right in
      let k : child_counts (map (λ n. n.depth) (nodes_from 0 P.nodes ds rules)) ≡ ks =
      ap child_counts (nodes-depths 0 P.nodes ds rules as-many) ∙ fit.counts in
      let n = ap (node_records (nodes_from 0 P.nodes ds rules)) k ∙ nodes-back 0 P.nodes ds rules as-many all-taken r.nodes_long in
      put o a n
    where
      put : {x x' y y' z z' : List (List ℕ)} → x ≡ x' → y ≡ y' → z ≡ z'
          → ◌≡◌ {A = Parts} (record { operators = x; atoms = y; nodes = z }) (record { operators = x'; atoms = y'; nodes = z' })
      put p q s = rw (p, q, s) refl

-- AN ACCEPTED FILE IS A RIGHT POLICY
pub from-right : FromRight
from-right f l e = right-from (parts_in latest f l) (accepted-parts latest f l e).0

-- AND THE WORDS OF THIS POLICY ARE THE FILE
pub words-same : WordsSame
words-same f l e =
    let w : WellFormed f l = (accepted-exactly f l).0 e in
    ap (file_words_in latest) (parts-same (parts_in latest f l) (accepted-parts latest f l e).0)
    ∙ parts_whole latest f l.operators l.atoms l.nodes w.otherwise
