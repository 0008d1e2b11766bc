-- The steps of a tree settle, node by node, and are those of the file's atoms and nodes. Assumes nothing.
use Prim.Native.Nat.{ℕ, suc, ◌+◌}
use native.Mathlib.Omega.{arith}
use mathlib.Core.Bool.{Bool}
use mathlib.Core.Path.{◌≡◌, refl, sym, ap, ap₂, ◌∙◌}
use mathlib.Core.List.{List, [], ◌∷◌, ◌++◌, append_assoc, map}
use lib.ListN.{length, drop}
use Rattle.std.specs.Prelude.{Ok}
use Rattle.std.proofs.Common.{subst}
use Rattle.std.proofs.lemmas.List.{length-append, length-map, map-append}
use Rattle.std.proofs.lemmas.Result.{IfOk-at_ok}
use Rattle.words.proofs.RecordLaws.{length-records}
use Rattle.theory.specs.declared.Row.{Row}
use Rattle.theory.specs.Tree.{Forest, node, bare, ◌▸◌, own, eval, evals}
use Rattle.theory.specs.Nodes.{Listed, list_tree, list_trees, all_atoms}
use Rattle.row.specs.Row.{row_of}
use Rattle.flow.specs.Match.{meets}
use Rattle.flow.specs.Packet.{packet_of}
use Rattle.flow.specs.declared.Match.{Match}
use Rattle.action.specs.Operator.{join}
use Rattle.action.specs.declared.Action.{Action}
use Rattle.action.specs.declared.Action.TheVariants.{DontCare}
use Rattle.policy.specs.Numbers.{atom_length, node_length}
use Rattle.policy.specs.Read.{read_of, atoms_at, nodes_at, operator_records, atom_records, node_records}
use Rattle.policy.specs.File.{PolicyNode, PolicyTree, held, atoms_of, tree_of}
use Rattle.policy.specs.declared.Layout.{Layout}
use Rattle.policy.proofs.Accepted.{accepted-tree, accepted-atoms}
use Rattle.tree.specs.Action.{eval_tree}
use Rattle.tree.proofs.Eval.{action-eval}
use Rattle.origins.specs.Origins.{holds}
use Rattle.trace.specs.declared.walk.RuleStep.{RuleStep}
use Rattle.trace.specs.declared.walk.Steps.{Steps}
use Rattle.trace.specs.Steps.{rule_steps, tree_rules, forest_rules, node_step, below_steps, child_steps}
use Rattle.trace.specs.Settled.{AllSettled, IsTrace}
use Rattle.command_promises.specs.Traces.{first_made, first_joined, RulesSettle, TreeSettles, ChildrenSettle, TraceSettles, RootMade, TracesSettle}

-- the atoms of nodes before others
all_atoms-append : (xs ys : List (Listed PolicyNode)) → all_atoms (xs ++ ys) ≡ all_atoms xs ++ all_atoms ys
all_atoms-append [] ys = refl
all_atoms-append (n ∷ ns) ys = ap (λ l. n.what.atoms ++ l) (all_atoms-append ns ys) ∙ sym (append_assoc n.what.atoms (all_atoms ns) (all_atoms ys))

module _ {Q : Type 0} (meets : Match → Q → Bool) (q : Q) where
  -- a root's step, whatever tree it is the root of
  made-of : (t : PolicyTree) (a b : Action) → (node_step meets q t a b).made ≡ eval meets DontCare join t q
  made-of (node n ts) a b = refl

  rest-of : (t : PolicyTree) (a b : Action) → (node_step meets q t a b).rest ≡ a
  rest-of (node n ts) a b = refl

  joined-of : (t : PolicyTree) (a b : Action) → (node_step meets q t a b).joined ≡ b
  joined-of (node n ts) a b = refl

  first-made : (o : List ℕ) (xs : List (Row Match Action)) → first_made (rule_steps meets q o xs) ≡ own meets DontCare join o xs q
  first-made o [] = refl
  first-made o (x ∷ xs) = refl

  first-joined : (o : List ℕ) (ts : Forest PolicyNode) → first_joined (child_steps meets q o ts) ≡ evals meets DontCare join ts o q
  first-joined o bare = refl
  first-joined o (t ▸ ts) = joined-of t _ _

  rules-settle : (o : List ℕ) (xs : List (Row Match Action)) → RulesSettle meets q o xs (rule_steps meets q o xs)
  rules-settle o [] = tt
  rules-settle o (x ∷ xs) = (record { met = refl; rest = sym (first-made o xs); made = refl }, rules-settle o xs)

  mutual
    tree-settles : (t : PolicyTree) (a b : Action) → TreeSettles meets q t (node_step meets q t a b) (tree_rules meets q t) (below_steps meets q t)
    tree-settles (node n ts) a b = (
      rule_steps meets q n.inner n.atoms,
      forest_rules meets q ts,
      refl,
      rules-settle n.inner n.atoms,
      record { own = sym (first-made n.inner n.atoms); below = sym (first-joined n.sibling ts); made = refl },
      children-settle n.sibling ts,
    )

    children-settle : (o : List ℕ) (ts : Forest PolicyNode) → ChildrenSettle meets q o ts (forest_rules meets q ts) (child_steps meets q o ts)
    children-settle o bare = (refl, refl)
    children-settle o (t ▸ ts) =
        let a = evals meets DontCare join ts o q in
        let b = join o (eval meets DontCare join t q) a in (
          node_step meets q t a b,
          below_steps meets q t,
          child_steps meets q o ts,
          refl,
          tree_rules meets q t,
          forest_rules meets q ts,
          refl,
          record {
            rest = rest-of t a b ∙ sym (first-joined o ts);
            joined = joined-of t a b ∙ sym (ap₂ (join o) (made-of t a b) (rest-of t a b));
          },
          tree-settles t a b,
          children-settle o ts,
        )

  rules-met : (o : List ℕ) (xs : List (Row Match Action)) → map (λ r. r.met) (rule_steps meets q o xs) ≡ map (λ x. meets x.matching q) xs
  rules-met o [] = refl
  rules-met o (x ∷ xs) = ap (λ l. meets x.matching q ∷ l) (rules-met o xs)

  mutual
    tree-met : (t : PolicyTree) → map (λ r. r.met) (tree_rules meets q t) ≡ map (λ x. meets x.matching q) (all_atoms (list_tree t))
    tree-met (node n ts) =
        map-append (λ (r : RuleStep). r.met) (rule_steps meets q n.inner n.atoms) (forest_rules meets q ts)
        ∙ ap₂ (λ x y. x ++ y) (rules-met n.inner n.atoms) (forest-met ts)
        ∙ sym (map-append (λ (x : Row Match Action). meets x.matching q) n.atoms (all_atoms (list_trees ts)))

    forest-met : (ts : Forest PolicyNode) → map (λ r. r.met) (forest_rules meets q ts) ≡ map (λ x. meets x.matching q) (all_atoms (list_trees ts))
    forest-met bare = refl
    forest-met (t ▸ ts) =
        map-append (λ (r : RuleStep). r.met) (tree_rules meets q t) (forest_rules meets q ts)
        ∙ ap₂ (λ x y. x ++ y) (tree-met t) (forest-met ts)
        ∙ sym (map-append (λ (x : Row Match Action). meets x.matching q) (all_atoms (list_tree t)) (all_atoms (list_trees ts)))
        ∙ sym (ap (map (λ x. meets x.matching q)) (all_atoms-append (list_tree t) (list_trees ts)))

  mutual
    tree-count : (t : PolicyTree) → suc (length (below_steps meets q t)) ≡ length (list_tree t)
    tree-count (node n ts) = ap suc (forest-count n.sibling ts)

    forest-count : (o : List ℕ) (ts : Forest PolicyNode) → length (child_steps meets q o ts) ≡ length (list_trees ts)
    forest-count o bare = refl
    forest-count o (t ▸ ts) =
        let tree : suc (length (below_steps meets q t)) ≡ length (list_tree t) = tree-count t in
        let others : length (child_steps meets q o ts) ≡ length (list_trees ts) = forest-count o ts in
        rw (length-append (below_steps meets q t) (child_steps meets q o ts), length-append (list_tree t) (list_trees ts)) (omega arith)

length-held : (os : List (List ℕ)) (xs : List (Row Match Action)) (rs : List (List ℕ)) → length (held os xs rs) ≡ length rs
length-held os xs [] = refl
length-held os xs (r ∷ rs) = ap suc (length-held os _ rs)

module _ {Q : Type 0} (meets : Match → Q → Bool) (f : List ℕ) (l : Layout) (q : Q) (s : Steps) (e : read_of f ≡ Ok l) (trace : IsTrace meets q f (Ok s)) where
  settled : AllSettled meets q (tree_of f l) s
  settled =
      let same : l ≡ trace.0 = IfOk-at_ok (λ k. k ≡ trace.0) (sym trace.1 ∙ e) refl in
      subst (λ k. AllSettled meets q (tree_of f k) s) (sym same) trace.2

  pub trace-settles : TraceSettles meets q f l s
  trace-settles =
      let t = tree_of f l in
      let a = eval meets DontCare join t q in
      let atoms = atoms_of f l in
      let file = accepted-tree f l e in
      let met : map (λ r. r.met) s.rules.items ≡ map (λ x. meets x.matching q) atoms = ap (map (λ r. r.met)) settled.rules ∙ tree-met meets q t
      ∙ ap (λ ns. map (λ x. meets x.matching q) (all_atoms ns)) file.lists ∙ ap (map (λ x. meets x.matching q)) (accepted-atoms f l e) in
      record {
        rule_count = sym (length-map s.rules.items (λ (r : RuleStep). r.met)) ∙ ap length met
            ∙ length-map atoms (λ (x : Row Match Action). meets x.matching q) ∙ length-map (atom_records f l.operators l.atoms) row_of
            ∙ length-records l.atoms atom_length (drop (atoms_at l.operators + 1) f);
        node_count = ap length settled.nodes ∙ tree-count meets q t ∙ ap length file.lists
            ∙ length-held (operator_records f l.operators) atoms (node_records f l.operators l.atoms l.nodes)
            ∙ length-records l.nodes node_length (drop (nodes_at l.operators l.atoms + 1) f);
        met = met;
        root = node_step meets q t DontCare a;
        below = below_steps meets q t;
        steps = settled.nodes;
        settles = subst (λ rs. TreeSettles meets q t (node_step meets q t DontCare a) rs (below_steps meets q t)) (sym settled.rules)
            (tree-settles meets q t DontCare a);
        no_siblings = rest-of meets q t DontCare a;
        alone = joined-of meets q t DontCare a ∙ sym (made-of meets q t DontCare a);
      }

  pub root-made : RootMade s (eval meets DontCare join (tree_of f l) q)
  root-made =
      let t = tree_of f l in
      let a = eval meets DontCare join t q in (node_step meets q t DontCare a, below_steps meets q t, settled.nodes, made-of meets q t DontCare a)

pub traces_settle : TracesSettle
traces_settle = record {
  packets = λ f l p s e trace. trace-settles meets f l p s e trace;
  matches = λ f l q s e trace. trace-settles holds f l q s e trace;
  ends = λ f p l s e right trace. (eval_tree (tree_of f l) (packet_of p), action-eval f p l e right, root-made meets f l (packet_of p) s e trace);
  ends_inside = λ f l q s e trace. root-made holds f l q s e trace;
}
