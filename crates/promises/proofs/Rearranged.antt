-- A whole tree of blocks in another order at once is one that steps lead to: from the root on, a node's atoms, its children among themselves, and then
-- each child within itself. Assumes nothing.
use Rattle.std.proofs.Common.{ℕ, arith, ◌≡◌, refl, sym, ap, subst, subst₂, ◌∙◌, inl, inr, List, [], ◌∷◌, ◌++◌, length}
use Rattle.std.proofs.Common.{append_assoc, append-nil, IsPermutation}
use Rattle.std.proofs.lemmas.List.Sorted.{IsPermutation-map}
use lib.ListN.{length-map}
use Rattle.logic.specs.Lists.{All}
use Rattle.logic.proofs.Lists.{flat_all}
use Rattle.logic.proofs.Permutations.{all-perm}
use Rattle.theory.specs.Tree.{Tree, Forest, node, bare, ◌▸◌}
use Rattle.theory.specs.Nodes.{Listed, list_tree, list_trees}
use Rattle.theory.specs.Shuffle.{trees}
use Rattle.theory.proofs.ShuffleNodes.{AtMost, each-least}
use Rattle.policy.specs.Numbers.{deepest}
use Rattle.policy.specs.Sections.{children_of}
use Rattle.promises.specs.Shuffles.{Block, block, in_a_row, file_of, Laid, Reordered, none, more, Opened, Rearranged, EachRearranged}
use Rattle.promises.proofs.Blocks.{Moved, moved-laid, moved-step, reordered-on}
use Rattle.promises.proofs.Opened.{trees-count, trees-list, kept_blocks, Faithful, kept-counted, all-faithful, kept-append, of_trees, kept-trees, trees-whole}

-- each node of a tree has the child count of its words, and the tree is no deeper than allowed
record GoodTree (t : Tree Block) : Type 0 where
  faithful : All Faithful (list_tree t)
  shallow : AtMost deepest t

-- so for the trees of a forest
all-good : (ts : List (Tree Block)) → All (λ t. All Faithful (list_tree t)) ts → All (AtMost deepest) ts → All GoodTree ts
all-good [] a d = tt
all-good (t ∷ ts) a d = (record { faithful = a.0; shallow = d.0 }, all-good ts a.1 d.1)

-- the blocks of a forest are those of its trees
kept-forest : (ts : Forest Block) → kept_blocks (list_trees ts) ≡ in_a_row (of_trees (trees ts))
kept-forest ts = ap kept_blocks (sym (trees-list ts)) ∙ kept-trees (trees ts)

-- the blocks of a forest, and of what is behind it, are those of its first tree, and of what is behind that
kept-behind : (t : Tree Block) (ts : Forest Block) (behind : List Block)
    → kept_blocks (list_trees (t ▸ ts)) ++ behind ≡ kept_blocks (list_tree t) ++ (kept_blocks (list_trees ts) ++ behind)
kept-behind t ts behind =
    ap (λ bs. bs ++ behind) (kept-append (list_tree t) (list_trees ts))
    ∙ append_assoc (kept_blocks (list_tree t)) (kept_blocks (list_trees ts)) behind

module _ (os : List (List ℕ)) where
  -- from the file of some blocks, if they are laid out, steps lead to that of others, and these are laid out too
  abbrev Leads : List Block → List Block → Type 0
  Leads bs cs = Laid os bs → Reordered (file_of os bs) (file_of os cs) × Laid os cs

  -- by a move
  leads-by : (bs cs : List Block) → Moved bs cs → Leads bs cs
  leads-by bs cs m h = (more (moved-step os bs cs h m) (none refl), moved-laid os bs cs m h)

  -- and one after the other
  leads-on : (bs cs ds : List Block) → Leads bs cs → Leads cs ds → Leads bs ds
  leads-on bs cs ds a b h =
      let x = a h in
      let y = b x.1 in
      (reordered-on (file_of os bs) (file_of os cs) (file_of os ds) x.0 y.0, y.1)

  -- the atoms of a node in another order
  atoms-lead : (before behind : List Block) (b c : Block) → b.node ≡ c.node → IsPermutation b.atoms c.atoms
      → Leads (before ++ (b ∷ behind)) (before ++ (c ∷ behind))
  atoms-lead before behind b c e p =
      leads-by (before ++ (b ∷ behind)) (before ++ (c ∷ behind)) (inl (record {
        before = before;
        node = b.node;
        old = b.atoms;
        new = c.atoms;
        behind = behind;
        was = refl;
        order = p;
        is = ap (λ n. before ++ (block n c.atoms ∷ behind)) (sym e);
      }))

  -- and its children, among themselves
  children-lead : (before behind : List Block) (c : Block) (ts us : Forest Block) → length (trees ts) ≡ children_of c.node
      → All Faithful (list_trees ts) → All (AtMost deepest) (trees ts) → IsPermutation (trees ts) (trees us)
      → Leads (before ++ (c ∷ (kept_blocks (list_trees ts) ++ behind))) (before ++ (c ∷ (kept_blocks (list_trees us) ++ behind)))
  children-lead before behind c ts us many a d p =
      leads-by (before ++ (c ∷ (kept_blocks (list_trees ts) ++ behind))) (before ++ (c ∷ (kept_blocks (list_trees us) ++ behind))) (inr (record {
        place = length before;
        family = record {
          before = before;
          node = c;
          children = of_trees (trees ts);
          behind = behind;
          is = ap (λ bs. before ++ (c ∷ (bs ++ behind))) (kept-forest ts);
          place = refl;
          all = length-map (trees ts) (λ t. kept_blocks (list_tree t)) ∙ many;
          whole = trees-whole (trees ts) (subst (All Faithful) (sym (trees-list ts)) a) d;
        };
        new = of_trees (trees us);
        order = IsPermutation-map (λ t. kept_blocks (list_tree t)) (trees ts) (trees us) p;
        is = ap (λ bs. before ++ (c ∷ (bs ++ behind))) (kept-forest us);
      }))

  -- a whole tree, and each tree of a forest, wherever its blocks stand
  mutual
    tree-leads : (t u : Tree Block) (before behind : List Block) → GoodTree t → Rearranged t u
        → Leads (before ++ (kept_blocks (list_tree t) ++ behind)) (before ++ (kept_blocks (list_tree u) ++ behind))
    tree-leads (node b ts) (node c vs) before behind g (same, order, us, turned, each) =
        let old : List Block = kept_blocks (list_trees ts) ++ behind in
        let mid : List Block = kept_blocks (list_trees us) ++ behind in
        let new : List Block = kept_blocks (list_trees vs) ++ behind in
        let shallow : All (AtMost deepest) (trees ts) = each-least deepest ts (omega (arith, g.shallow)) in
        let many : length (trees ts) ≡ children_of c.node =
        trees-count ts ∙ sym (ap (λ n. n.child_count) g.faithful.0) ∙ ap children_of same in
        let good : All GoodTree (trees ts) =
        all-good (trees ts) (flat_all Faithful list_tree (trees ts) (subst (All Faithful) (sym (trees-list ts)) g.faithful.1)) shallow in
        let inside : Leads (before ++ (c ∷ mid)) (before ++ (c ∷ new)) =
        subst₂ Leads (append_assoc before (c ∷ []) mid) (append_assoc before (c ∷ []) new)
        (each-leads us vs (before ++ (c ∷ [])) behind (all-perm GoodTree (trees ts) (trees us) turned good) each) in
        leads-on (before ++ (b ∷ old)) (before ++ (c ∷ old)) (before ++ (c ∷ new)) (atoms-lead before old b c same order)
        (leads-on (before ++ (c ∷ old)) (before ++ (c ∷ mid)) (before ++ (c ∷ new))
        (children-lead before behind c ts us many g.faithful.1 shallow turned) inside)

    each-leads : (ts us : Forest Block) (before behind : List Block) → All GoodTree (trees ts) → EachRearranged ts us
        → Leads (before ++ (kept_blocks (list_trees ts) ++ behind)) (before ++ (kept_blocks (list_trees us) ++ behind))
    each-leads bare us before behind g same =
        subst (λ vs. Leads (before ++ behind) (before ++ (kept_blocks (list_trees vs) ++ behind))) (sym same) (λ h. (none refl, h))
    each-leads (t ▸ ts) bare before behind g r = absurd r
    each-leads (t ▸ ts) (u ▸ us) before behind g (r, each) =
        let T : List Block = kept_blocks (list_tree t) in
        let U : List Block = kept_blocks (list_tree u) in
        let old : List Block = kept_blocks (list_trees ts) ++ behind in
        let new : List Block = kept_blocks (list_trees us) ++ behind in
        let later : Leads (before ++ (U ++ old)) (before ++ (U ++ new)) =
        subst₂ Leads (append_assoc before U old) (append_assoc before U new) (each-leads ts us (before ++ U) behind g.1 each) in
        subst₂ (λ x y. Leads (before ++ x) (before ++ y)) (sym (kept-behind t ts behind)) (sym (kept-behind u us behind))
        (leads-on (before ++ (T ++ old)) (before ++ (U ++ old)) (before ++ (U ++ new)) (tree-leads t u before old g.0 r) later)

-- A WHOLE FILE IN ANOTHER ORDER AT ONCE IS ONE THAT STEPS LEAD TO
pub at_once : (f : List ℕ) (o : Opened f) (t : Tree Block) → Rearranged o.tree.tree t
    → Reordered f (file_of o.operators (kept_blocks (list_tree t)))
at_once f o t r =
    let os : List (List ℕ) = o.operators in
    let old : List (Listed Block) = list_tree o.tree.tree in
    let same : kept_blocks old ≡ o.nodes = ap kept_blocks o.tree.lists ∙ kept-counted o.nodes in
    let good : GoodTree o.tree.tree = record { faithful = subst (All Faithful) (sym o.tree.lists) (all-faithful o.nodes); shallow = o.tree.shallow } in
    let leads : Leads os (kept_blocks old) (kept_blocks (list_tree t)) =
    subst₂ (Leads os) (append-nil (kept_blocks old)) (append-nil (kept_blocks (list_tree t))) (tree-leads os o.tree.tree t [] [] good r) in
    subst (λ x. Reordered x (file_of os (kept_blocks (list_tree t)))) (ap (file_of os) same ∙ sym o.is) (leads (subst (Laid os) (sym same) o.laid)).0
