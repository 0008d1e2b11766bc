-- Policy trees over any matches, actions and operators: the tree's action, and the rows that it is compiled to.
-- See docs/FORMAT.md, "The tree's action" and "Rows".
--
--   Tree X, Forest X     a tree whose nodes each hold an X, and trees in order: node, bare, _▸_
--   depth, depths        how deep a tree is; the deepest of some trees
--   Node O M A           what a node of a policy holds: its operators and its atoms
--   EveryNode            what every node of a tree holds has a property; EveryNodes of a forest
--   GoodNode             a node's operators have one property, and its atoms another
--   own                  a node's own action on a packet
--   eval, evals          the action of a tree, and of children under a sibling operator
--   table                a node's own table
--   compile, compiles    the table of a tree, and of children under a sibling operator
use Rattle.std.specs.Prelude.{ℕ, suc, max, Bool, List, [], ◌∷◌, if◌then◌else◌, ⊤}
use Rattle.logic.specs.Lists.{All}
use Rattle.theory.specs.declared.Row.{Row}
use Rattle.theory.specs.Rows.{kept, join}

infixr 67 ◌▸◌
-- A tree is what its root holds and its children in order, a forest no tree or one before others. Figure 1: T = (+P) ×
-- (+S) × D × 2^T, the operators held by D.
mutual
  pub data Tree (X : Type 0) : Type 0 where
    node : X → Forest X → Tree X

  pub data Forest (X : Type 0) : Type 0 where
    bare : Forest X
    ◌▸◌ : Tree X → Forest X → Forest X

module _ {X : Type 0} where
  abbrev mutual
    -- How deep a tree is: a node without children is 1 deep.
    pub depth : Tree X → ℕ
    depth (node x ts) = suc (depths ts)

    -- The deepest of some trees.
    pub depths : Forest X → ℕ
    depths bare = 0
    depths (t ▸ ts) = max (depth t) (depths ts)

-- Inner, parent and sibling operator, and the atoms in file order. Figure 1: D = (+D) × 2^P, here with (+P) and (+S).
pub record Node (O M A : Type 0) : Type 0 where
  pub inner : O
  pub parent : O
  pub sibling : O
  pub atoms : List (Row M A)

module _ {X : Type 0} (Q : X → Type 0) where
  abbrev mutual
    -- What every node of a tree holds has the property Q.
    pub EveryNode : Tree X → Type 0
    EveryNode (node x ts) = Q x × EveryNodes ts

    -- The same of every tree of a forest.
    pub EveryNodes : Forest X → Type 0
    EveryNodes bare = ⊤
    EveryNodes (t ▸ ts) = EveryNode t × EveryNodes ts

-- The operators of a node have the property K, and its atoms the property T.
pub record GoodNode {O M A : Type 0} (K : O → Type 0) (T : Row M A → Type 0) (n : Node O M A) : Type 0 where
  pub inner : K n.inner
  pub parent : K n.parent
  pub sibling : K n.sibling
  pub atoms : All T n.atoms

module _ {M P A O : Type 0} (meets : M → P → Bool) (dont_care : A) (joined : O → A → A → A) where
  -- The matching atoms' actions, each one counted, folded from the last, don't care at the end. Figure 1: cmb = A'₁ +
  -- .. + A'ₖ + 0.
  abbrev pub own : O → List (Row M A) → P → A
  own i [] p = dont_care
  own i (x ∷ xs) p = if meets x.matching p then joined i x.action (own i xs p) else own i xs p

  abbrev mutual
    -- The node's own action on the left, that of its children on the right. Figure 1: eval = cmb(D, K) +P A₁.
    pub eval : Tree (Node O M A) → P → A
    eval (node n ts) p = joined n.parent (own n.inner n.atoms p) (evals ts n.sibling p)

    -- The children's actions folded from the last, don't care at the end. Figure 1: Aᵢ = eval(Tᵢ, K) +S Aᵢ₊₁, the last
    -- with 0.
    pub evals : Forest (Node O M A) → O → P → A
    evals bare s p = dont_care
    evals (t ▸ ts) s p = joined s (eval t p) (evals ts s p)

-- Tables are joined exactly as the actions above are folded.
module _ {M A O : Type 0} (common : M → M → M) (empty : M → Bool) (joined : O → A → A → A) where
  -- A node's own table: its atoms' tables joined under the inner operator, as own.
  abbrev pub table : O → List (Row M A) → List (Row M A)
  table i [] = []
  table i (x ∷ xs) = join common empty (joined i) (kept empty x) (table i xs)

  abbrev mutual
    -- The table of a tree, as eval.
    pub compile : Tree (Node O M A) → List (Row M A)
    compile (node n ts) = join common empty (joined n.parent) (table n.inner n.atoms)
        (compiles ts n.sibling)

    -- The table of children under a sibling operator, as evals.
    pub compiles : Forest (Node O M A) → O → List (Row M A)
    compiles bare s = []
    compiles (t ▸ ts) s = join common empty (joined s) (compile t) (compiles ts s)
