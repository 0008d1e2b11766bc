-- An accepted file, opened: its atoms are cut where the nodes' own counts say, and since its nodes are one tree, each of them has the children that it
-- counts, whole subtrees that stand behind it. Assumes nothing.
use Rattle.std.proofs.Common.{ℕ, zero, suc, ◌+◌, ◌-◌, ◌≤◌, ◌<◌, arith, ◌≡◌, refl, sym, ap, ap₂, subst, ◌∙◌, inl, inr, List, [], ◌∷◌, ◌++◌, map}
use Rattle.std.proofs.Common.{length, take, drop, append_assoc, append-nil, length-append, length-drop, take-append-drop, length-take-le, Ok}
use Rattle.std.proofs.lemmas.Bool.{cases_lt}
use lib.ListN.{length-map}
use Rattle.std.specs.Prelude.{flat_map}
use Rattle.logic.specs.Lists.{All}
use Rattle.logic.proofs.Lists.{all_split, all_take, all_drop}
use Rattle.theory.specs.Tree.{Tree, Forest, node, bare, ◌▸◌, depth, depths}
use Rattle.theory.specs.Nodes.{Listed, count_trees, list_tree, list_trees}
use Rattle.theory.specs.Shuffle.{trees, listed}
use Rattle.theory.proofs.ShuffleNodes.{AtMost, each-least}
use Rattle.policy.specs.Numbers.{latest, deepest}
use Rattle.policy.specs.Sections.{own_of, children_of}
use Rattle.policy.specs.Whole.{own_atoms, shape}
use Rattle.policy.specs.Read.{read_of}
use Rattle.policy.specs.File.{file_nodes_in}
use Rattle.policy.specs.WellFormed.{OtherwiseIn}
use Rattle.policy.specs.Parts.{Parts, file_words_in, parts_in, RightPartsIn, EachLong}
use Rattle.policy.specs.declared.Layout.{Layout}
use Rattle.policy.proofs.Trees.{shape-one-tree, one-tree-shape}
use Rattle.policy.proofs.Accepted.{accepted-as, children-shape}
use Rattle.policy.proofs.Parts.{accepted-parts, parts_whole}
use Rattle.promises.specs.Shuffles.{Block, block, in_a_row, file_of, Laid, counted, Subtree, Family, Opened}

module _ {X : Type 0} where
  -- node i of some nodes in file order, with its children's trees, none deeper than d, behind it
  record Placed (ns : List (Listed X)) (i d : ℕ) : Type 0 where
    before : List (Listed X)
    what : X
    children : List (Tree X)
    behind : List (Listed X)
    is : ns ≡ before ++ (listed what (length children) ∷ (flat_map list_tree children ++ behind))
    place : length before ≡ i
    shallow : All (AtMost d) children

  pub trees-count : (ts : Forest X) → length (trees ts) ≡ count_trees ts
  trees-count bare = refl
  trees-count (t ▸ ts) = ap suc (trees-count ts)

  pub trees-list : (ts : Forest X) → flat_map list_tree (trees ts) ≡ list_trees ts
  trees-list bare = refl
  trees-list (t ▸ ts) = ap (λ ns. list_tree t ++ ns) (trees-list ts)

  deeper : (d e : ℕ) (ts : List (Tree X)) → d ≤ e → All (AtMost d) ts → All (AtMost e) ts
  deeper d e [] h a = tt
  deeper d e (t ∷ ts) h a = (omega (arith, a.0), deeper d e ts h a.1)

  -- with other nodes before or behind, it still stands so
  placed-behind : (fs ns : List (Listed X)) (i j d e : ℕ) → Placed ns i d → length fs + i ≡ j → d ≤ e → Placed (fs ++ ns) j e
  placed-behind fs ns i j d e p h l = record {
    before = fs ++ p.before;
    what = p.what;
    children = p.children;
    behind = p.behind;
    is = ap (λ ms. fs ++ ms) p.is ∙ sym (append_assoc fs p.before _);
    place = length-append fs p.before ∙ omega (arith, p.place);
    shallow = deeper d e p.children l p.shallow;
  }

  placed-before : (ns bs : List (Listed X)) (i d e : ℕ) → Placed ns i d → d ≤ e → Placed (ns ++ bs) i e
  placed-before ns bs i d e p l =
      let n : Listed X = listed p.what (length p.children) in
      let cs : List (Listed X) = flat_map list_tree p.children in
      record {
        before = p.before;
        what = p.what;
        children = p.children;
        behind = p.behind ++ bs;
        is = ap (λ ms. ms ++ bs) p.is ∙ append_assoc p.before (n ∷ (cs ++ p.behind)) bs
            ∙ ap (λ ms. p.before ++ (n ∷ ms)) (append_assoc cs p.behind bs);
        place = p.place;
        shallow = deeper d e p.children l p.shallow;
      }

  -- each node of a tree or a forest has its place
  mutual
    tree-placed : (t : Tree X) (i : ℕ) → i < length (list_tree t) → Placed (list_tree t) i (depth t)
    tree-placed (node x ts) zero h = record {
      before = [];
      what = x;
      children = trees ts;
      behind = [];
      is = ap₂ (λ (k : ℕ) (ms : List (Listed X)). listed x k ∷ ms) (sym (trees-count ts)) (sym (append-nil _ ∙ trees-list ts));
      place = refl;
      shallow = each-least (depth (node x ts)) ts (omega arith);
    }
    tree-placed (node x ts) (suc i) h =
        placed-behind (listed x (count_trees ts) ∷ []) (list_trees ts) i (suc i) (depths ts) (depth (node x ts))
        (trees-placed ts i (omega arith)) (omega arith) (omega arith)

    trees-placed : (ts : Forest X) (i : ℕ) → i < length (list_trees ts) → Placed (list_trees ts) i (depths ts)
    trees-placed bare i h = absurd (omega arith)
    trees-placed (t ▸ ts) i h =
        let n : length (list_tree t ++ list_trees ts) ≡ length (list_tree t) + length (list_trees ts) = length-append (list_tree t) (list_trees ts) in
        elim (cases_lt i (length (list_tree t))) [
          | inl l ↦ placed-before (list_tree t) (list_trees ts) i (depth t) (depths (t ▸ ts)) (tree-placed t i l) (omega arith)
          | inr l ↦ placed-behind (list_tree t) (list_trees ts) (i - length (list_tree t)) i (depths ts) (depths (t ▸ ts))
              (trees-placed ts (i - length (list_tree t)) (omega arith)) (omega arith) (omega arith)
        ]

-- the blocks of some nodes in file order
abbrev pub kept_blocks : List (Listed Block) → List Block
kept_blocks ns = map (λ n. n.what) ns

-- a listed node has the child count that its words give, as all have that come from blocks: so the blocks determine it
abbrev pub Faithful : Listed Block → Type 0
Faithful n = counted n.what ≡ n

pub kept-counted : (bs : List Block) → kept_blocks (map counted bs) ≡ bs
kept-counted [] = refl
kept-counted (b ∷ bs) = ap (λ cs. b ∷ cs) (kept-counted bs)

pub all-faithful : (bs : List Block) → All Faithful (map counted bs)
all-faithful [] = tt
all-faithful (b ∷ bs) = (refl, all-faithful bs)

counted-kept : (ns : List (Listed Block)) → All Faithful ns → map counted (kept_blocks ns) ≡ ns
counted-kept [] a = refl
counted-kept (n ∷ ns) a = ap₂ (λ m ms. m ∷ ms) a.0 (counted-kept ns a.1)

pub kept-append : (ns ms : List (Listed Block)) → kept_blocks (ns ++ ms) ≡ kept_blocks ns ++ kept_blocks ms
kept-append [] ms = refl
kept-append (n ∷ ns) ms = ap (λ cs. n.what ∷ cs) (kept-append ns ms)

-- the blocks of trees
abbrev pub of_trees : List (Tree Block) → List (List Block)
of_trees ts = map (λ t. kept_blocks (list_tree t)) ts

pub kept-trees : (ts : List (Tree Block)) → kept_blocks (flat_map list_tree ts) ≡ in_a_row (of_trees ts)
kept-trees [] = refl
kept-trees (t ∷ ts) = kept-append (list_tree t) (flat_map list_tree ts) ∙ ap (λ cs. kept_blocks (list_tree t) ++ cs) (kept-trees ts)

pub trees-whole : (ts : List (Tree Block)) → All Faithful (flat_map list_tree ts) → All (AtMost deepest) ts → All Subtree (of_trees ts)
trees-whole [] a d = tt
trees-whole (t ∷ ts) a d =
    let s = all_split Faithful (list_tree t) (flat_map list_tree ts) a in
    (record { tree = t; lists = sym (counted-kept (list_tree t) s.0); shallow = d.0 }, trees-whole ts s.1 d.1)

-- nodes that are one tree have each the children that they count
pub families : (bs : List Block) → Subtree bs → (i : ℕ) → i < length bs → Family bs i
families bs o i h =
    let many : length (list_tree o.tree) ≡ length bs = ap length o.lists ∙ length-map bs counted in
    let p : Placed (list_tree o.tree) i (depth o.tree) = tree-placed o.tree i (omega arith) in
    let cs : List (Listed Block) = flat_map list_tree p.children in
    let n : Listed Block = listed p.what (length p.children) in
    let e : map counted bs ≡ p.before ++ (n ∷ (cs ++ p.behind)) = sym o.lists ∙ p.is in
    let a = all_split Faithful p.before (n ∷ (cs ++ p.behind)) (subst (All Faithful) e (all-faithful bs)) in
    let c = all_split Faithful cs p.behind a.1.1 in
    record {
      before = kept_blocks p.before;
      node = p.what;
      children = of_trees p.children;
      behind = kept_blocks p.behind;
      is = sym (kept-counted bs) ∙ ap kept_blocks e ∙ kept-append p.before (n ∷ (cs ++ p.behind))
          ∙ ap (λ ms. kept_blocks p.before ++ (p.what ∷ ms)) (kept-append cs p.behind ∙ ap (λ ms. ms ++ kept_blocks p.behind) (kept-trees p.children));
      place = length-map p.before (λ n. n.what) ∙ p.place;
      all = length-map p.children (λ t. kept_blocks (list_tree t)) ∙ sym (ap (λ m. m.child_count) a.1.0);
      whole = trees-whole p.children c.0 (deeper (depth o.tree) deepest p.children o.shallow p.shallow);
    }

-- the atoms, cut where the nodes' own counts say
abbrev pub blocks : List (List ℕ) → List (List ℕ) → List Block
blocks xs [] = []
blocks xs (r ∷ rs) = block r (take (own_of r) xs) ∷ blocks (drop (own_of r) xs) rs

-- the nodes are as they were
pub blocks-nodes : (xs rs : List (List ℕ)) → map (λ b. b.node) (blocks xs rs) ≡ rs
blocks-nodes xs [] = refl
blocks-nodes xs (r ∷ rs) = ap (λ ns. r ∷ ns) (blocks-nodes (drop (own_of r) xs) rs)

blocks-children : (xs rs : List (List ℕ)) → map (λ n. n.child_count) (map counted (blocks xs rs)) ≡ map children_of rs
blocks-children xs [] = refl
blocks-children xs (r ∷ rs) = ap (λ ks. children_of r ∷ ks) (blocks-children (drop (own_of r) xs) rs)

none-left : (xs : List (List ℕ)) → length xs ≡ 0 → [] ≡ xs
none-left [] h = refl
none-left (x ∷ xs) h = absurd (omega arith)

-- and so are the atoms, where the nodes take them all
pub blocks-atoms : (xs rs : List (List ℕ)) → own_atoms rs ≡ length xs → flat_map (λ b. b.atoms) (blocks xs rs) ≡ xs
blocks-atoms xs [] h = none-left xs (sym h)
blocks-atoms xs (r ∷ rs) h =
    let n : ℕ = own_of r in
    let left : own_atoms rs ≡ length (drop n xs) = rw length-drop (omega arith) in
    ap (λ ys. take n xs ++ ys) (blocks-atoms (drop n xs) rs left) ∙ take-append-drop n xs

blocks-own : (xs rs : List (List ℕ)) → own_atoms rs ≡ length xs → All (λ b. own_of b.node ≡ length b.atoms) (blocks xs rs)
blocks-own xs [] h = tt
blocks-own xs (r ∷ rs) h =
    let n : ℕ = own_of r in
    let left : own_atoms rs ≡ length (drop n xs) = rw length-drop (omega arith) in
    (sym (length-take-le n xs (omega arith)), blocks-own (drop n xs) rs left)

blocks-long : (k : ℕ) (xs rs : List (List ℕ)) → EachLong k xs → All (λ b. EachLong k b.atoms) (blocks xs rs)
blocks-long k xs [] h = tt
blocks-long k xs (r ∷ rs) h =
    let n : ℕ = own_of r in
    (all_take (λ x. length x ≡ k) n xs h, blocks-long k (drop n xs) rs (all_drop (λ x. length x ≡ k) n xs h))

blocks-words : (k : ℕ) (xs rs : List (List ℕ)) → EachLong k rs → All (λ b. length b.node ≡ k) (blocks xs rs)
blocks-words k xs [] h = tt
blocks-words k xs (r ∷ rs) h = (h.0, blocks-words k (drop (own_of r) xs) rs h.1)

-- what right parts make is laid in blocks
pub parts-laid : (P : Parts) → RightPartsIn latest P → Laid P.operators (blocks P.atoms P.nodes)
parts-laid P r = record {
  operators = r.operators_long;
  atoms = blocks-long 11 P.atoms P.nodes r.atoms_long;
  nodes = blocks-words 5 P.atoms P.nodes r.nodes_long;
  own = blocks-own P.atoms P.nodes r.all_taken;
}

-- and is their file
pub parts-file : (P : Parts) → own_atoms P.nodes ≡ length P.atoms → file_of P.operators (blocks P.atoms P.nodes) ≡ file_words_in latest P
parts-file P h =
    ap₂ (λ (xs ns : List (List ℕ)). file_words_in latest (record { operators = P.operators; atoms = xs; nodes = ns }))
    (blocks-atoms P.atoms P.nodes h) (blocks-nodes P.atoms P.nodes)

-- EVERY ACCEPTED FILE IS ONE OF NODES with their atoms and their children
pub opened : (f : List ℕ) (l : Layout) → read_of f ≡ Ok l → Opened f
opened f l g =
    let o : OtherwiseIn latest f l.operators l.atoms l.nodes = ((accepted-as latest f l).0 g).otherwise in
    let P : Parts = parts_in latest f l in
    let r : RightPartsIn latest P = (accepted-parts latest f l g).0 in
    let bs : List Block = blocks P.atoms P.nodes in
    let one : Subtree bs =
    shape-one-tree (map counted bs)
    (ap (λ ks. shape ks (1 ∷ []) 0) (blocks-children P.atoms P.nodes) ∙ sym (children-shape latest f l.operators l.atoms l.nodes)
    ∙ one-tree-shape (file_nodes_in latest f l) o.one_tree) in
    record {
      operators = P.operators;
      nodes = bs;
      laid = parts-laid P r;
      is = sym (parts-file P r.all_taken ∙ parts_whole latest f l.operators l.atoms l.nodes o);
      tree = one;
      families = families bs one;
    }
