-- A node with the nodes inside it is written as its nodes by their depths, and the other way round.
--
--   Behind d us ws ts xs vs   trees that stand one below depth d, written as ws, before the nodes xs, written as vs
use Rattle.std.proofs.Common.{◌≡◌, ℕ, zero, suc, ◌≤◌, List, [], ◌∷◌, ◌++◌, refl, sym, ap, subst, ◌∙◌, append_assoc, append-nil, arith}
use Rattle.std.specs.Prelude.{replicate}
use Rattle.theory.specs.Tree.{Tree, Forest, bare, ◌▸◌}
use Rattle.theory.specs.Tree as tree
use Rattle.depths.specs.Depths.{Deep, deep_tree, deep_trees, closings, first_depth}
use Rattle.depths.proofs.Grown.{first-trees}
use Rattle.notation.specs.Words.{close_mark}
use Rattle.notation.specs.Grammar.{Block, IsHeader, IsRules, IsNode, IsNodes}
use Rattle.notation.proofs.Flat.{IsFlat}

-- a node's own end, and those of the nodes above it that end with it
closings-more : (d e : ℕ) → e ≤ suc d → closings (suc d) e ≡ suc (closings d e)
closings-more d zero h = refl
closings-more d (suc e) h = omega arith

-- none ends behind a node where the next stands one deeper
closings-none : (d : ℕ) → closings d (suc d) ≡ 0
closings-none d = omega arith

-- the ends behind a node of depth d before nodes xs, and what these are written as
abbrev pub ended_then : ℕ → List (Deep Block) → List (List ℕ) → List (List ℕ)
ended_then d xs vs = replicate (closings d (first_depth xs)) close_mark ++ vs

-- with its own end
own-end : (d : ℕ) (xs : List (Deep Block)) (vs : List (List ℕ)) → first_depth xs ≤ suc d → ended_then (suc d) xs vs ≡ close_mark ∷ ended_then d xs vs
own-end d xs vs h = ap (λ (n : ℕ). replicate n close_mark ++ vs) (closings-more d (first_depth xs) h)

-- a tree that stands one deeper comes at once
one-deeper : (d : ℕ) (t : Tree Block) (xs : List (Deep Block)) (vs : List (List ℕ)) → ended_then d (deep_tree (suc d) t ++ xs) vs ≡ vs
one-deeper d (tree.node b ts) xs vs = ap (λ (n : ℕ). replicate n close_mark ++ vs) (closings-none d)

-- the words of a node in other brackets
regroup : (h r c e : List (List ℕ)) → h ++ (r ++ (c ++ (close_mark ∷ e))) ≡ (h ++ (r ++ (c ++ close_mark ∷ []))) ++ e
regroup h r c e = simp append_assoc

-- trees that stand one below depth d, written as ws, before the nodes xs, written as vs, are all written as us
record Behind (d : ℕ) (us ws : List (List ℕ)) (ts : Forest Block) (xs : List (Deep Block)) (vs : List (List ℕ)) : Type 0 where
  flat : IsFlat us (deep_trees (suc d) ts ++ xs)
  words : ended_then d (deep_trees (suc d) ts ++ xs) us ≡ ws ++ ended_then d xs vs

mutual
  -- a tree before nodes that are not inside it is written as its nodes by their depths
  flat-tree : (d : ℕ) (w vs : List (List ℕ)) (t : Tree Block) (xs : List (Deep Block)) → IsNode w t → first_depth xs ≤ suc d → IsFlat vs xs
      → IsFlat (w ++ ended_then d xs vs) (deep_tree (suc d) t ++ xs)
  flat-tree d w vs (tree.node b ts) xs (IsNode.node {h} {r} {c} ih ir ic) e f =
      let g = flat-trees (suc d) c vs ts xs ic (omega arith) f in
      let k : ended_then (suc d) (deep_trees (suc (suc d)) ts ++ xs) g.0 ≡ c ++ (close_mark ∷ ended_then d xs vs) =
      g.1.words ∙ ap (λ (ws : List (List ℕ)). c ++ ws) (own-end d xs vs e) in
      subst (λ (ws : List (List ℕ)). IsFlat ws (deep_tree (suc d) (tree.node b ts) ++ xs))
      (ap (λ (ws : List (List ℕ)). h ++ (r ++ ws)) k ∙ regroup h r c (ended_then d xs vs)) (IsFlat.more ih ir g.1.flat)

  -- so are trees
  flat-trees : (d : ℕ) (ws vs : List (List ℕ)) (ts : Forest Block) (xs : List (Deep Block)) → IsNodes ws ts → first_depth xs ≤ suc d → IsFlat vs xs
      → (us : List (List ℕ)) × Behind d us ws ts xs vs
  flat-trees d ws vs bare xs IsNodes.none e f = (vs, record { flat = f; words = refl })
  flat-trees d ws vs (t ▸ ts) xs (IsNodes.more {w} {ws = us} i is) e f =
      let g = flat-trees d us vs ts xs is e f in
      let ys : List (Deep Block) = deep_trees (suc d) ts ++ xs in
      let k : IsFlat (w ++ ended_then d ys g.0) (deep_tree (suc d) t ++ ys) = flat-tree d w g.0 t ys i (first-trees (suc d) ts xs e) g.1.flat in
      let all : List (List ℕ) = w ++ ended_then d ys g.0 in
      let s : deep_trees (suc d) (t ▸ ts) ++ xs ≡ deep_tree (suc d) t ++ ys = append_assoc (deep_tree (suc d) t) (deep_trees (suc d) ts) xs in (
        all,
        record {
          flat = subst (IsFlat all) (sym s) k;
          words = ap (λ (zs : List (Deep Block)). ended_then d zs all) s ∙ one-deeper d t ys all
              ∙ ap (λ (x : List (List ℕ)). w ++ x) g.1.words ∙ sym (append_assoc w us (ended_then d xs vs));
        },
      )

-- A NODE WITH THE NODES INSIDE IT IS WRITTEN AS ITS NODES BY THEIR DEPTHS
pub flat-node : (ws : List (List ℕ)) (t : Tree Block) → IsNode ws t → IsFlat ws (deep_tree 1 t)
flat-node ws t i =
    subst (λ (vs : List (List ℕ)). IsFlat vs (deep_tree 1 t)) (append-nil ws)
    (subst (IsFlat (ws ++ [])) (append-nil (deep_tree 1 t)) (flat-tree 0 ws [] t [] i (omega arith) IsFlat.none))

-- ---- back

-- nodes by their depths that are written as us begin by a node: its header, its rules, and what stands behind it
pub record Head (us : List (List ℕ)) (x : Deep Block) (xs : List (Deep Block)) : Type 0 where
  pub header : List (List ℕ)
  pub rules : List (List ℕ)
  pub others : List (List ℕ)
  pub is_header : IsHeader header x.what.name x.what.inner x.what.sibling x.what.parent
  pub are_rules : IsRules rules x.what.rules
  pub flat : IsFlat others xs
  pub words : us ≡ header ++ (rules ++ ended_then x.depth xs others)

-- nodes as words start by the first one
pub head-of : (us : List (List ℕ)) (x : Deep Block) (xs : List (Deep Block)) → IsFlat us (x ∷ xs) → Head us x xs
head-of us x xs (IsFlat.more {h} {r} {ws} ih ir f) =
    record { header = h; rules = r; others = ws; is_header = ih; are_rules = ir; flat = f; words = refl }

-- no nodes are written as nothing
none-of : (us : List (List ℕ)) → IsFlat us [] → us ≡ []
none-of us IsFlat.none = refl

-- a tree that the words begin by, before the nodes xs
record TreeFirst (d : ℕ) (us : List (List ℕ)) (t : Tree Block) (xs : List (Deep Block)) : Type 0 where
  own : List (List ℕ)
  others : List (List ℕ)
  is : IsNode own t
  flat : IsFlat others xs
  words : us ≡ own ++ ended_then d xs others

-- and trees
record TreesFirst (d : ℕ) (us : List (List ℕ)) (ts : Forest Block) (xs : List (Deep Block)) : Type 0 where
  own : List (List ℕ)
  others : List (List ℕ)
  is : IsNodes own ts
  flat : IsFlat others xs
  words : ended_then d (deep_trees (suc d) ts ++ xs) us ≡ own ++ ended_then d xs others

mutual
  -- nodes by their depths are those of a tree before others
  tree-first : (d : ℕ) (us : List (List ℕ)) (t : Tree Block) (xs : List (Deep Block)) → first_depth xs ≤ suc d → IsFlat us (deep_tree (suc d) t ++ xs)
      → TreeFirst d us t xs
  tree-first d us (tree.node b ts) xs e f =
      let g = head-of us (record { depth = suc d; what = b }) (deep_trees (suc (suc d)) ts ++ xs) f in
      let k = trees-first (suc d) g.others ts xs (omega arith) g.flat in
      record {
        own = g.header ++ (g.rules ++ (k.own ++ close_mark ∷ []));
        others = k.others;
        is = IsNode.node g.is_header g.are_rules k.is;
        flat = k.flat;
        words = g.words ∙ ap (λ (ws : List (List ℕ)). g.header ++ (g.rules ++ ws)) (k.words
            ∙ ap (λ (ws : List (List ℕ)). k.own ++ ws) (own-end d xs k.others e))
            ∙ regroup g.header g.rules k.own (ended_then d xs k.others);
      }

  -- and of trees
  trees-first : (d : ℕ) (us : List (List ℕ)) (ts : Forest Block) (xs : List (Deep Block)) → first_depth xs ≤ suc d → IsFlat us (deep_trees (suc d) ts ++ xs)
      → TreesFirst d us ts xs
  trees-first d us bare xs e f = record { own = []; others = us; is = IsNodes.none; flat = f; words = refl }
  trees-first d us (t ▸ ts) xs e f =
      let ys : List (Deep Block) = deep_trees (suc d) ts ++ xs in
      let s : deep_trees (suc d) (t ▸ ts) ++ xs ≡ deep_tree (suc d) t ++ ys = append_assoc (deep_tree (suc d) t) (deep_trees (suc d) ts) xs in
      let g = tree-first d us t ys (first-trees (suc d) ts xs e) (subst (IsFlat us) s f) in
      let k = trees-first d g.others ts xs e g.flat in
      record {
        own = g.own ++ k.own;
        others = k.others;
        is = IsNodes.more g.is k.is;
        flat = k.flat;
        words = ap (λ (zs : List (Deep Block)). ended_then d zs us) s ∙ one-deeper d t ys us ∙ g.words ∙ ap (λ (x : List (List ℕ)). g.own ++ x) k.words
            ∙ sym (append_assoc g.own k.own (ended_then d xs k.others));
      }

-- WHAT NODES BY THEIR DEPTHS ARE WRITTEN AS is a node with the nodes inside it, where they are those of a tree
pub node-flat : (ws : List (List ℕ)) (t : Tree Block) → IsFlat ws (deep_tree 1 t) → IsNode ws t
node-flat ws t f =
    let g = tree-first 0 ws t [] (omega arith) (subst (IsFlat ws) (sym (append-nil (deep_tree 1 t))) f) in
    let e : ws ≡ g.own = g.words ∙ ap (λ (x : List (List ℕ)). g.own ++ x) (none-of g.others g.flat) ∙ append-nil g.own in
    subst (λ (vs : List (List ℕ)). IsNode vs t) (sym e) g.is
