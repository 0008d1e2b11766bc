-- The steps of the walk: a node and its children are a tree, a tree and the others are children. Assumes nothing.
use Prim.Native.Nat.{ℕ, ◌-◌, ◌<◌}
use mathlib.Core.Bool.{Bool}
use mathlib.Core.Path.{◌≡◌, sym, ap, ap₂, ◌∙◌}
use mathlib.Core.List.{List, [], ◌∷◌, ◌++◌, append_assoc}
use lib.ListN.{length, set}
use Rattle.std.proofs.lemmas.List.{append-nil, set_at}
use Rattle.theory.specs.Tree.{Forest, node, ◌▸◌, own, eval, evals}
use Rattle.flow.specs.declared.Match.{Match}
use Rattle.action.specs.Operator.{join}
use Rattle.action.specs.declared.Action.{Action}
use Rattle.action.specs.declared.Action.TheVariants.{DontCare}
use Rattle.policy.specs.Read.{read_of}
use Rattle.policy.specs.File.{PolicyNode, PolicyTree, tree_of}
use Rattle.policy.specs.declared.Layout.{Layout}
use Rattle.std.specs.Prelude.{Ok}
use Rattle.policy.specs.declared.Node.{Node}
use Rattle.nodes.specs.Nodes.{root_spot, node_at, cells_at, atom_words_at}
use Rattle.nodes.specs.Walk.{Reached, next_spot, tree_at, children_at}
use Rattle.nodes.specs.declared.Spot.{Spot}
use Rattle.nodes.proofs.Places.{node_here}
use Rattle.nodes.proofs.Walk.{root-tree, tree-here, after-tree, children-here, after-children, NoChild}
use Rattle.trace.specs.declared.walk.NodeStep.{NodeStep}
use Rattle.trace.specs.declared.walk.Steps.{Steps}
use Rattle.trace.specs.Steps.{tree_rules, forest_rules, node_step, below_steps, child_steps, tree_steps}
use Rattle.trace.specs.Settled.{RulesSettled, TreeSettled, ChildrenSettled, AllSettled}

module _ {Q : Type 0} (meets : Match → Q → Bool) (q : Q) where
  -- a node's step by its parts
  step-of : (n : PolicyNode) (ts : Forest PolicyNode) {x y r : Action} → x ≡ own meets DontCare join n.inner n.atoms q
      → y ≡ evals meets DontCare join ts n.sibling q → r ≡ join n.parent x y
      → ◌≡◌ {A = NodeStep} (record { own = x; below = y; made = r; rest = DontCare; joined = r })
      (node_step meets q (node n ts) DontCare (eval meets DontCare join (node n ts) q))
  step-of n ts a b j = rw (j, a, b)

  -- and with its siblings
  step-among : (t : PolicyTree) {step : NodeStep} {a b : Action} → step ≡ node_step meets q t DontCare (eval meets DontCare join t q)
      → ◌≡◌ {A = NodeStep} (record { own = step.own; below = step.below; made = step.made; rest = a; joined = b }) (node_step meets q t a b)
  step-among (node n ts) {a = a} {b = b} e =
      ap (λ (x : NodeStep). record { own = x.own; below = x.below; made = x.made; rest = a; joined = b }) e

  step-made : (t : PolicyTree) {step : NodeStep} → step ≡ node_step meets q t DontCare (eval meets DontCare join t q) → step.made ≡ eval meets DontCare join t q
  step-made (node n ts) e = ap (λ (x : NodeStep). x.made) e

  -- the step that stands in a place is set
  step-set : (before : List NodeStep) (nothing one : NodeStep) {pushed middle last : List NodeStep} (below others : List NodeStep) {place : ℕ}
      → place ≡ length before → pushed ≡ before ++ (nothing ∷ []) → middle ≡ pushed ++ below → last ≡ middle ++ others
      → set last place one ≡ before ++ (one ∷ (below ++ others))
  step-set before nothing one {last = last} below others {place = place} p a b c =
      let all : last ≡ before ++ (nothing ∷ (below ++ others)) = c ∙ ap (λ l. l ++ others) (b ∙ ap (λ l. l ++ below) a)
      ∙ append_assoc (before ++ (nothing ∷ [])) below others ∙ append_assoc before (nothing ∷ []) (below ++ others) in
      ap (λ l. set l place one) all ∙ set_at before nothing (below ++ others) one place (sym p)

  module _ {f : List ℕ} {s : Spot} where
    -- no child is taken
    pub children-none : {k : ℕ} (sibling : ℕ) (steps : Steps) → NoChild f s k → ChildrenSettled meets q f s sibling k steps steps s DontCare
    children-none sibling steps h = record {
      given = sym (ap (λ ts. evals meets DontCare join ts (cells_at f sibling) q) h.none);
      rules = sym (append-nil _) ∙ sym (ap (λ ts. steps.rules.items ++ forest_rules meets q ts) h.none);
      nodes = sym (append-nil _) ∙ sym (ap (λ ts. steps.nodes.items ++ child_steps meets q (cells_at f sibling) ts) h.none);
      behind = h.after;
    }

    -- one child, then the others
    pub children-settled : (sibling k : ℕ) (nothing : NodeStep) {before pushed middle last after : Steps} {one : NodeStep} {rest r : Action}
        {behind next : Spot} {place : ℕ} → Reached f s → 0 < s.nodes_left → 0 < k → place ≡ length before.nodes.items → pushed.rules.items ≡ before.rules.items
        → pushed.nodes.items ≡ before.nodes.items ++ (nothing ∷ []) → TreeSettled meets q f s pushed middle behind one
        → ChildrenSettled meets q f behind sibling (k - 1) middle last next rest → r ≡ join (cells_at f sibling) one.made rest
        → after.rules.items ≡ last.rules.items
        → after.nodes.items ≡ set last.nodes.items place (record { own = one.own; below = one.below; made = one.made; rest = rest; joined = r })
        → ChildrenSettled meets q f s sibling k before after next r
    children-settled sibling k nothing {before = before} {r = r} {behind = behind} reached more some p u v t c j x y =
        let here = children-here f s reached more k some t.behind in
        let o = cells_at f sibling in
        let tree = tree_at f s in
        let others = children_at f behind (k - 1) in
        let joined : r ≡ evals meets DontCare join (tree ▸ others) o q = j ∙ ap₂ (join o) (step-made tree t.given) c.given in
        record {
          given = joined ∙ sym (ap (λ ts. evals meets DontCare join ts o q) here);
          rules = x ∙ c.rules ∙ ap (λ l. l ++ forest_rules meets q others) (t.rules ∙ ap (λ l. l ++ tree_rules meets q tree) u)
              ∙ append_assoc before.rules.items _ _ ∙ sym (ap (λ ts. before.rules.items ++ forest_rules meets q ts) here);
          nodes = y ∙ step-set before.nodes.items nothing _ _ _ p v t.nodes c.nodes
              ∙ ap (λ n. before.nodes.items ++ (n ∷ (below_steps meets q tree ++ child_steps meets q o others)))
              (step-among tree t.given ∙ ap₂ (node_step meets q tree) c.given joined)
              ∙ sym (ap (λ ts. before.nodes.items ++ child_steps meets q o ts) here);
          behind = after-children f s reached more k some t.behind c.behind;
        }

    -- a node's own rules, and its children
    pub tree-settled : {n : Node} {atoms : List ℕ} {before middle after : Steps} {x below r : Action} {next : Spot} → Reached f s → 0 < s.nodes_left
        → n ≡ node_at f s.nodes_left → atoms ≡ atom_words_at f s.next_atom n.own
        → RulesSettled meets q (cells_at f n.inner) atoms before.rules.items middle.rules.items x → middle.nodes.items ≡ before.nodes.items
        → ChildrenSettled meets q f (next_spot f s) n.sibling n.children middle after next below → r ≡ join (cells_at f n.parent) x below
        → TreeSettled meets q f s before after next (record { own = x; below = below; made = r; rest = DontCare; joined = r })
    tree-settled {before = before} {middle = middle} {after = after} {x = x} {below = below} {r = r} {next = next} reached more e v own same k j =
        let here = tree-here f s reached more in
        let at = node_at f s.nodes_left in
        let children = children_at f (next_spot f s) at.children in
        let kids : ChildrenSettled meets q f (next_spot f s) at.sibling at.children middle after next below = rw e at k in
        let words : RulesSettled meets q (cells_at f at.inner) (atom_words_at f s.next_atom at.own) before.rules.items middle.rules.items x =
        rw e at (rw v at own) in
        let joined : r ≡ join (cells_at f at.parent) x below = rw e at j in
        record {
          given = step-of (node_here f s) children words.given kids.given joined
              ∙ sym (ap (λ t. node_step meets q t DontCare (eval meets DontCare join t q)) here);
          rules = kids.rules ∙ ap (λ l. l ++ forest_rules meets q children) words.put ∙ append_assoc before.rules.items _ _
              ∙ sym (ap (λ t. before.rules.items ++ tree_rules meets q t) here);
          nodes = kids.nodes ∙ ap (λ l. l ++ child_steps meets q (cells_at f at.sibling) children) same
              ∙ sym (ap (λ t. before.nodes.items ++ below_steps meets q t) here);
          behind = after-tree f s reached more kids.behind;
        }

  -- the walk from the root, whose step is set at the end
  pub root-settled : (f : List ℕ) (l : Layout) → read_of f ≡ Ok l → (at : Spot) → at ≡ root_spot l → (nothing : NodeStep) {empty : List NodeStep}
      {begun before after : Steps} {step : NodeStep} {next : Spot} → begun.rules.items ≡ [] → empty ≡ [] → begun.nodes.items ≡ empty ++ (nothing ∷ [])
      → TreeSettled meets q f at begun before next step → after.rules.items ≡ before.rules.items → after.nodes.items ≡ set before.nodes.items 0 step
      → AllSettled meets q (tree_of f l) after
  root-settled f l e at start nothing {step = step} r z n t x y =
      let here : tree_at f at ≡ tree_of f l = root-tree f l e at start in
      let tree = tree_at f at in
      record {
        rules = x ∙ t.rules ∙ ap (λ l. l ++ tree_rules meets q tree) r ∙ ap (tree_rules meets q) here;
        nodes = y ∙ ap (λ l. set l 0 step) (t.nodes ∙ ap (λ l. l ++ below_steps meets q tree) (n ∙ ap (λ l. l ++ (nothing ∷ [])) z))
            ∙ ap (λ s. s ∷ below_steps meets q tree) t.given ∙ ap (tree_steps meets q) here;
      }
