-- The walk over the nodes: where it starts, which tree and which children stand at a place, and which place is behind them. Assumes nothing.
use Prim.Native.Nat.{ℕ, zero, suc, ◌+◌, ◌-◌, ◌<◌}
use native.Mathlib.Omega.{arith}
use mathlib.Core.Path.{◌≡◌, refl, sym, ap, ◌∙◌}
use mathlib.Core.Bool.{true, false, ◌||◌, false≢true}
use mathlib.Core.List.{List}
use lib.Dec.{eqb}
use lib.ListN.{get_or, drop, drop_of_length-le}
use borrow.Author.Tests.{eqb-true, eqb-false, le-ltb}
use Rattle.theory.specs.Tree.{Tree, Forest, node, bare, ◌▸◌}
use Rattle.theory.specs.Nodes.{take_trees, drop_trees, plant}
use Rattle.policy.specs.Numbers.{most_operators}
use Rattle.policy.specs.Read.{first_atom, nodes_at, read_of}
use Rattle.policy.specs.Read as read
use Rattle.policy.specs.File.{PolicyNode, first_tree, tree_of}
use Rattle.policy.specs.WellFormed.{Otherwise}
use Rattle.policy.specs.declared.Layout.{Layout}
use Rattle.std.specs.Prelude.{Ok}
use Rattle.policy.proofs.Accepted.{accepted-exactly}
use Rattle.logic.proofs.Tests.{by-test}
use Rattle.nodes.specs.Nodes.{node_at, root_spot}
use Rattle.nodes.specs.Walk.{layout_of, list_of, node_index, Reached, next_spot, grown, tree_at, children_at, AfterTree, AfterChildren}
use Rattle.nodes.specs.declared.Spot.{Spot}
use Rattle.nodes.proofs.Places.{node_here, here, listed-many}

-- THE START: the root, with all nodes left
module _ (f : List ℕ) (l : Layout) (e : read_of f ≡ Ok l) (s : Spot) (start : s ≡ root_spot l) where
  o : Otherwise f l.operators l.atoms l.nodes
  o = ((accepted-exactly f l).0 e).otherwise

  same : layout_of f ≡ l
  same =
      let a : get_or f 0 0 ≡ l.operators = o.operators.count in
      let b : get_or f (read.atoms_at l.operators) 0 ≡ l.atoms = o.atoms.count in
      let c : get_or f (nodes_at l.operators l.atoms) 0 ≡ l.nodes = o.nodes.count in
      rw (a, b, c)

  first : node_index f s ≡ 0
  unfolding root_spot
  first = rw start (omega (arith, ap (λ (x : Layout). x.nodes) same))

  pub start-reached : Reached f s × (0 < s.nodes_left)
  unfolding root_spot first_atom
  start-reached =
      let all : s.nodes_left ≡ l.nodes = ap (λ (x : Spot). x.nodes_left) start in
      let many : (layout_of f).nodes ≡ l.nodes = ap (λ (x : Layout). x.nodes) same in
      let atom : s.next_atom ≡ read.atoms_at l.operators + 1 =
      ap (λ (x : Spot). x.next_atom) start ∙ rw (le-ltb most_operators l.operators o.operators.most) in (
        record {
          accepted = rw same e;
          left = omega arith;
          atom = atom ∙ ap (λ (x : Layout). read.atoms_at x.operators + 1) (sym same) ∙ rw first (omega arith);
        },
        omega (arith, o.nodes.least),
      )

  pub root-tree : tree_at f s ≡ tree_of f l
  unfolding grown
  root-tree = ap (λ i. first_tree (plant (drop i (list_of f)))) first ∙ ap (tree_of f) same

module _ {X : Type 0} (t : Tree X) (ts : Forest X) where
  take-first : (k : ℕ) → 0 < k → take_trees k (t ▸ ts) ≡ t ▸ take_trees (k - 1) ts
  take-first zero h = absurd (omega arith)
  take-first (suc k) h = let e : suc k - 1 ≡ k = omega arith in rw e

  drop-first : (k : ℕ) → 0 < k → drop_trees k (t ▸ ts) ≡ drop_trees (k - 1) ts
  drop-first zero h = absurd (omega arith)
  drop-first (suc k) h = let e : suc k - 1 ≡ k = omega arith in rw e

-- A NODE: the trees from its place on are its own, with its children, and those behind them
module _ (f : List ℕ) (s : Spot) (r : Reached f s) (more : 0 < s.nodes_left) where
  grown-node : grown f s ≡ node (node_here f s) (children_at f (next_spot f s) (node_at f s.nodes_left).children)
      ▸ drop_trees (node_at f s.nodes_left).children (grown f (next_spot f s))
  unfolding grown
  grown-node = ap plant (here f s r more).stands

  pub tree-here : tree_at f s ≡ node (node_here f s) (children_at f (next_spot f s) (node_at f s.nodes_left).children)
  tree-here = ap first_tree grown-node

  pub after-tree : {x : Spot} → AfterChildren f (next_spot f s) (node_at f s.nodes_left).children x → AfterTree f s x
  after-tree a = record { rest = a.rest ∙ sym (ap (drop_trees 1) grown-node); less = a.less; reached = a.reached }

  -- the first child, and the others behind it
  module _ (k : ℕ) (some : 0 < k) where
    pub children-more : children_at f s k ≡ tree_at f s ▸ take_trees (k - 1) (drop_trees 1 (grown f s))
    children-more = rw grown-node (take-first _ _ k some)

    module _ {next : Spot} (a : AfterTree f s next) where
      pub children-here : children_at f s k ≡ tree_at f s ▸ children_at f next (k - 1)
      children-here = children-more ∙ ap (λ ts. tree_at f s ▸ take_trees (k - 1) ts) (sym a.rest)

      pub after-children : {x : Spot} → AfterChildren f next (k - 1) x → AfterChildren f s k x
      after-children b = record {
        rest = b.rest ∙ rw (a.rest, grown-node) (sym (drop-first _ _ k some));
        less = omega (arith, a.less, b.less);
        reached = b.reached;
      }

-- NO CHILD is taken where none is counted, or no node is left
pub record NoChild (f : List ℕ) (s : Spot) (k : ℕ) : Type 0 where
  pub none : children_at f s k ≡ bare
  pub after : AfterChildren f s k s

pub none-taken : {f : List ℕ} {s : Spot} (k : ℕ) → Reached f s → (eqb k 0 || eqb s.nodes_left 0) ≡ true → NoChild f s k
unfolding grown
none-taken {f} {s} k r t =
    by-test (eqb k 0) (λ e. let z : k ≡ 0 = eqb-true k 0 e in both (rw z) (rw z))
    (λ e.
    let z : s.nodes_left ≡ 0 = eqb-true s.nodes_left 0 (rw e at t) in
    let past : grown f s ≡ bare = ap plant (drop_of_length-le (list_of f) {i = node_index f s} (omega (arith, listed-many f))) in
    both (rw past (take_bare k)) (rw past (drop-bare k)))
  where
    both : take_trees k (grown f s) ≡ bare → drop_trees k (grown f s) ≡ grown f s → NoChild f s k
    both a b = record { none = a; after = record { rest = sym b; less = omega arith; reached = r } }

    take_bare : (k : ℕ) → ◌≡◌ {A = Forest PolicyNode} (take_trees k bare) bare
    take_bare zero = refl
    take_bare (suc k) = refl

    drop-bare : (k : ℕ) → ◌≡◌ {A = Forest PolicyNode} (drop_trees k bare) bare
    drop-bare zero = refl
    drop-bare (suc k) = refl

pub some-taken : (k n : ℕ) → (eqb k 0 || eqb n 0) ≡ false → (0 < k) × (0 < n)
some-taken k n t =
    by-test (eqb k 0) (λ e. let z : true ≡ false = rw e at t in absurd (false≢true (sym z)))
    (λ e. (omega (arith, eqb-false k 0 e), omega (arith, eqb-false n 0 (rw e at t))))
