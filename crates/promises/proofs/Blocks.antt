-- The file of some nodes with their own atoms, and a step from it: the nodes of its tree are those of its blocks, a step keeps what is asked of an
-- accepted file, and leads to a tree one step away. Assumes nothing.
use Rattle.std.proofs.Common.{ℕ, ◌+◌, arith, ◌≡◌, refl, sym, ap, ap₂, subst, subst₂, ◌∙◌, ◌⊎◌, inl, inr, true, List, [], ◌∷◌}
use Rattle.std.proofs.Common.{◌++◌, map, get_or, length, drop, take_at, drop_at, length-append, flat_map, IsPermutation, Ok}
use Rattle.std.proofs.lemmas.List.{map-append}
use Rattle.std.proofs.lemmas.List.Concat.{flat_map-append}
use Rattle.std.proofs.lemmas.List.Sorted.{IsPermutation-sym, IsPermutation-map, IsPermutation-cons, IsPermutation-append_left, IsPermutation-append_right}
use Rattle.std.proofs.lemmas.List.Sorted.{length_permutation}
use lib.ListN.{length-map}
use Rattle.logic.specs.Lists.{All}
use Rattle.logic.proofs.Lists.{all_append, all_split, all-at, all_from, all_mapped, mapped_all, all_flat, flat_all}
use Rattle.logic.proofs.Permutations.{all-perm, IsPermutation-flat_map}
use Rattle.words.proofs.RecordLaws.{length-records}
use Rattle.theory.specs.declared.Row.{Row}
use Rattle.theory.specs.Nodes.{Listed, plant, list_tree}
use Rattle.theory.specs.Shuffle.{listed, AtomsMoved, Shuffled, ShuffledTo}
use Rattle.theory.proofs.ShuffleNodes.{atoms-shuffled, children-shuffled}
use Rattle.flow.specs.declared.Match.{Match}
use Rattle.action.specs.declared.Action.{Action}
use Rattle.row.specs.Row.{row_of}
use Rattle.policy.specs.Numbers.{latest, operator_length, atom_length, node_length}
use Rattle.policy.specs.Sections.{inner_of, parent_of, sibling_of, own_of, children_of}
use Rattle.policy.specs.Atom.{right_atom_match, right_atom_action}
use Rattle.policy.specs.Whole.{own_atoms, shape}
use Rattle.policy.specs.Due.{RightNode}
use Rattle.policy.specs.Meaning.{OneTree, operator_at, KeepsLaws}
use Rattle.policy.specs.Read.{layout, atoms_at, nodes_at, read_of}
use Rattle.policy.specs.File.{PolicyNode, PolicyTree, held, file_nodes, first_tree, tree_of}
use Rattle.policy.specs.WellFormed.{WellFormed}
use Rattle.policy.specs.Parts.{Parts, parts_in, layout_of_parts, LongPartsIn, RightPartsIn, LawfulPartsIn}
use Rattle.policy.specs.declared.Layout.{Layout}
use Rattle.policy.proofs.Accepted.{accepted-exactly}
use Rattle.policy.proofs.Parts.{parts_whole, parts-same, parts-accepted, accepted-parts}
use Rattle.policy.proofs.Trees.{one-tree-shape, shape-one-tree, one-tree-planted}
use Rattle.promises.specs.Shuffles.{Block, block, in_a_row, file_of, Laid, counted, Subtree, Family, AtomsReordered, ChildrenReordered}
use Rattle.promises.specs.Shuffles.{Step, Reordered, none, more}

-- the atoms and the nodes of some blocks
abbrev pub atoms_in_order : List Block → List (List ℕ)
atoms_in_order bs = flat_map (λ b. b.atoms) bs

abbrev pub nodes_in_order : List Block → List (List ℕ)
nodes_in_order bs = map (λ b. b.node) bs

-- each node counts its own atoms
abbrev pub OwnCounted : List Block → Type 0
OwnCounted bs = All (λ b. own_of b.node ≡ length b.atoms) bs

-- the parts that the file of some operators and blocks is made of
abbrev pub parts_of : List (List ℕ) → List Block → Parts
parts_of os bs = record { operators = os; atoms = atoms_in_order bs; nodes = nodes_in_order bs }

-- they are as long as the edition has them
pub parts-long : (os : List (List ℕ)) (bs : List Block) → Laid os bs → LongPartsIn latest (parts_of os bs)
parts-long os bs h = record {
  operators = h.operators;
  atoms = all_flat (λ x. length x ≡ atom_length) (λ b. b.atoms) bs h.atoms;
  nodes = all_mapped (λ r. length r ≡ node_length) (λ b. b.node) bs h.nodes;
}

-- AN ACCEPTED FILE OF BLOCKS HAS THESE PARTS
module _ (os : List (List ℕ)) (bs : List Block) (laid : Laid os bs) (f : List ℕ) (l : Layout) (e : read_of f ≡ Ok l) (is : f ≡ file_of os bs) where
  pub parts-found : parts_in latest f l ≡ parts_of os bs
  parts-found =
      let w : WellFormed f l = (accepted-exactly f l).0 e in
      let r : RightPartsIn latest (parts_in latest f l) = (accepted-parts latest f l e).0 in
      let long : LongPartsIn latest (parts_in latest f l) = record { operators = r.operators_long; atoms = r.atoms_long; nodes = r.nodes_long } in
      parts-same latest (parts_in latest f l) (parts_of os bs) long (parts-long os bs laid) (parts_whole latest f l.operators l.atoms l.nodes w.otherwise ∙ is)

  -- and its counts are how many of each there are
  pub layout-found : l ≡ layout_of_parts (parts_of os bs)
  layout-found = same-layout ∙ ap layout_of_parts parts-found
    where
      three : (a b c a' b' c' : ℕ) → a ≡ a' → b ≡ b' → c ≡ c' → layout a b c ≡ layout a' b' c'
      three a b c a' b' c' x y z = rw (x, y, z) refl

      same-layout : l ≡ layout_of_parts (parts_in latest f l)
      same-layout =
          three _ _ _ _ _ _ (sym (length-records l.operators operator_length (drop 1 f)))
          (sym (length-records l.atoms atom_length (drop (atoms_at l.operators + 1) f)))
          (sym (length-records l.nodes node_length (drop (nodes_at l.operators l.atoms + 1) f)))

-- a block as a node of the policy: its operators by their cells, and its own atoms
abbrev pub policy_node : List (List ℕ) → Block → PolicyNode
policy_node os b = record {
  inner = operator_at os (inner_of b.node);
  parent = operator_at os (parent_of b.node);
  sibling = operator_at os (sibling_of b.node);
  atoms = map row_of b.atoms;
}

-- the same with its child count
abbrev pub policy_listed : List (List ℕ) → Block → Listed PolicyNode
policy_listed os b = listed (policy_node os b) (children_of b.node)

-- EACH NODE HOLDS ITS OWN ATOMS
pub held-blocks : (os : List (List ℕ)) (bs : List Block) → OwnCounted bs
    → held os (map row_of (atoms_in_order bs)) (nodes_in_order bs) ≡ map (policy_listed os) bs
held-blocks os [] h = refl
held-blocks os (b ∷ bs) h =
    let n : ℕ = own_of b.node in
    let xs : List (Row Match Action) = map row_of b.atoms in
    let ys : List (Row Match Action) = map row_of (atoms_in_order bs) in
    let s : map row_of (b.atoms ++ atoms_in_order bs) ≡ xs ++ ys = map-append row_of b.atoms (atoms_in_order bs) in
    let many : length xs ≡ n = length-map b.atoms row_of ∙ sym h.0 in
    let with_atoms : List (Row Match Action) → PolicyNode = λ zs. record {
      inner = operator_at os (inner_of b.node);
      parent = operator_at os (parent_of b.node);
      sibling = operator_at os (sibling_of b.node);
      atoms = zs;
    } in
    ap (λ zs. held os zs (b.node ∷ nodes_in_order bs)) s
    ∙ ap₂ (λ x y. listed (with_atoms x) (children_of b.node) ∷ held os y (nodes_in_order bs)) (take_at xs ys n many) (drop_at xs ys n many)
    ∙ ap (λ ns. policy_listed os b ∷ ns) (held-blocks os bs h.1)

-- so the nodes of an accepted file are those of its blocks
module _ (os : List (List ℕ)) (bs : List Block) (laid : Laid os bs) (f : List ℕ) (l : Layout) (e : read_of f ≡ Ok l) (is : f ≡ file_of os bs) where
  pub file-blocks : file_nodes f l ≡ map (policy_listed os) bs
  file-blocks = ap (λ (P : Parts). held P.operators (map row_of P.atoms) P.nodes) (parts-found os bs laid f l e is) ∙ held-blocks os bs laid.own

  -- and its tree is theirs
  pub tree-blocks : (o : OneTree (map (policy_listed os) bs)) → tree_of f l ≡ o.tree
  tree-blocks o = ap (λ ns. first_tree (plant ns)) file-blocks ∙ ap first_tree (one-tree-planted (map (policy_listed os) bs) o)

-- the own-atom counts add up
own-many : (bs : List Block) → OwnCounted bs → own_atoms (nodes_in_order bs) ≡ length (atoms_in_order bs)
own-many [] h = refl
own-many (b ∷ bs) h = omega (arith, h.0, own-many bs h.1, length-append b.atoms (atoms_in_order bs))

-- WHAT A MOVE OF BLOCKS KEEPS: the atoms of one node, or its children, in another order
abbrev pub Moved : List Block → List Block → Type 0
Moved bs cs = AtomsReordered bs cs ⊎ ChildrenReordered bs cs

-- children in another order are blocks in another order
children-moved : (bs cs : List Block) → ChildrenReordered bs cs → IsPermutation bs cs
children-moved bs cs c =
    rw (c.family.is, c.is)
    (IsPermutation-append_right c.family.before _ _
    (IsPermutation-cons c.family.node _ _
    (IsPermutation-append_left c.family.behind _ _ (IsPermutation-flat_map (λ t. t) c.family.children c.new c.order))))

-- what all blocks have, if the order of a node's atoms is free
pub moved-all : (T : Block → Type 0) → ((n : List ℕ) (xs ys : List (List ℕ)) → IsPermutation xs ys → T (block n xs) → T (block n ys))
    → (bs cs : List Block) → Moved bs cs → All T bs → All T cs
moved-all T free bs cs (inl a) h =
    let s = all_split T a.before (block a.node a.old ∷ a.behind) (subst (All T) a.was h) in
    subst (All T) (sym a.is) (all_append T a.before (block a.node a.new ∷ a.behind) s.0 (free a.node a.old a.new a.order s.1.0, s.1.1))
moved-all T free bs cs (inr c) h = all-perm T bs cs (children-moved bs cs c) h

-- the atoms in order are the same in another order, and there are as many nodes
moved-atoms : (bs cs : List Block) → Moved bs cs → IsPermutation (atoms_in_order bs) (atoms_in_order cs)
moved-atoms bs cs (inl a) =
    let g : Block → List (List ℕ) = λ b. b.atoms in
    rw (a.was, a.is, flat_map-append g a.before (block a.node a.old ∷ a.behind), flat_map-append g a.before (block a.node a.new ∷ a.behind))
    (IsPermutation-append_right (atoms_in_order a.before) _ _ (IsPermutation-append_left (atoms_in_order a.behind) _ _ a.order))
moved-atoms bs cs (inr c) = IsPermutation-flat_map (λ b. b.atoms) bs cs (children-moved bs cs c)

moved-many : (bs cs : List Block) → Moved bs cs → length cs ≡ length bs
moved-many bs cs (inl a) =
    rw (a.was, a.is)
    (omega (arith, length-append a.before (block a.node a.old ∷ a.behind), length-append a.before (block a.node a.new ∷ a.behind)))
moved-many bs cs (inr c) = length_permutation bs cs (children-moved bs cs c)

-- a move keeps what is asked of the words
pub moved-laid : (os : List (List ℕ)) (bs cs : List Block) → Moved bs cs → Laid os bs → Laid os cs
moved-laid os bs cs m h = record {
  operators = h.operators;
  atoms = moved-all (λ b. All (λ x. length x ≡ 11) b.atoms) (λ n xs ys p g. all-perm (λ x. length x ≡ 11) xs ys p g) bs cs m h.atoms;
  nodes = moved-all (λ b. length b.node ≡ 5) (λ n xs ys p g. g) bs cs m h.nodes;
  own = moved-all (λ b. own_of b.node ≡ length b.atoms) (λ n xs ys p g. g ∙ sym (length_permutation xs ys p)) bs cs m h.own;
}

-- and is a step, from the file of some blocks to that of the others
pub moved-step : (os : List (List ℕ)) (bs cs : List Block) → Laid os bs → Moved bs cs → Step (file_of os bs) (file_of os cs)
moved-step os bs cs h m = record { operators = os; old = bs; new = cs; laid = h; was = refl; moved = m; is = refl }

-- THE WAY BACK IS A MOVE TOO
pub moved-back : (bs cs : List Block) → Moved bs cs → Moved cs bs
moved-back bs cs (inl a) = inl (record {
  before = a.before;
  node = a.node;
  old = a.new;
  new = a.old;
  behind = a.behind;
  was = a.is;
  order = IsPermutation-sym a.old a.new a.order;
  is = a.was;
})
moved-back bs cs (inr c) =
    let F : Family bs c.place = c.family in
    inr (record {
      place = c.place;
      family = record {
        before = F.before;
        node = F.node;
        children = c.new;
        behind = F.behind;
        is = c.is;
        place = F.place;
        all = length_permutation F.children c.new c.order ∙ F.all;
        whole = all-perm Subtree F.children c.new c.order F.whole;
      };
      new = F.children;
      order = IsPermutation-sym F.children c.new c.order;
      is = F.is;
    })

-- and a step
pub step-back : (f g : List ℕ) → Step f g → Step g f
step-back f g s = record {
  operators = s.operators;
  old = s.new;
  new = s.old;
  laid = moved-laid s.operators s.old s.new s.moved s.laid;
  was = s.is;
  moved = moved-back s.old s.new s.moved;
  is = s.was;
}

-- steps go on by steps
pub reordered-on : (f g h : List ℕ) → Reordered f g → Reordered g h → Reordered f h
reordered-on f g h (none e) q = subst (λ x. Reordered x h) (sym e) q
reordered-on f g h (more {g = x} s r) q = more s (reordered-on x g h r q)

-- and lead back
pub back : (f g : List ℕ) → Reordered f g → Reordered g f
back f g r = onto f g f r (none refl)
  where
    -- with steps that led back from the first file already
    onto : (f g h : List ℕ) → Reordered f g → Reordered f h → Reordered g h
    onto f g h (none e) r = subst (λ x. Reordered x h) e r
    onto f g h (more {g = x} s r) q = onto x g h r (more (step-back f x s) q)

-- A MOVE LEADS TO A TREE ONE STEP AWAY
module _ (os : List (List ℕ)) where
  -- the child counts are those of the blocks, whatever else their nodes hold
  counts-same : (bs : List Block) → map (λ n. n.child_count) (map (policy_listed os) bs) ≡ map (λ n. n.child_count) (map counted bs)
  counts-same [] = refl
  counts-same (b ∷ bs) = ap (λ ks. children_of b.node ∷ ks) (counts-same bs)

  -- so a whole subtree of blocks is a tree of the policy's nodes
  pub subtree-tree : (bs : List Block) → Subtree bs → OneTree (map (policy_listed os) bs)
  subtree-tree bs o =
      shape-one-tree (map (policy_listed os) bs) (ap (λ ks. shape ks (1 ∷ []) 0) (counts-same bs) ∙ one-tree-shape (map counted bs) o)

  -- the tree that some blocks are
  abbrev grown : List Block → PolicyTree
  grown bs = first_tree (plant (map (policy_listed os) bs))

  grown-lists : (bs : List Block) → Subtree bs → list_tree (grown bs) ≡ map (policy_listed os) bs
  grown-lists bs s =
      let o : OneTree (map (policy_listed os) bs) = subtree-tree bs s in
      ap (λ ts. list_tree (first_tree ts)) (one-tree-planted (map (policy_listed os) bs) o) ∙ o.lists

  grown-row : (ts : List (List Block)) → All Subtree ts → flat_map list_tree (map grown ts) ≡ map (policy_listed os) (in_a_row ts)
  grown-row [] h = refl
  grown-row (t ∷ ts) h =
      ap₂ (λ x y. x ++ y) (grown-lists t h.0) (grown-row ts h.1) ∙ sym (map-append (policy_listed os) t (in_a_row ts))

  -- the nodes of a family
  family-listed : (L R : List Block) (n : Block) (ts : List (List Block)) → All Subtree ts → length ts ≡ children_of n.node
      → map (policy_listed os) (L ++ (n ∷ (in_a_row ts ++ R)))
      ≡ map (policy_listed os) L
      ++ (listed (policy_node os n) (length (map grown ts)) ∷ (flat_map list_tree (map grown ts) ++ map (policy_listed os) R))
  family-listed L R n ts h many =
      let F : Block → Listed PolicyNode = policy_listed os in
      let k : children_of n.node ≡ length (map grown ts) = sym many ∙ sym (length-map ts grown) in
      map-append F L (n ∷ (in_a_row ts ++ R))
      ∙ ap (λ x. map F L ++ (F n ∷ x)) (map-append F (in_a_row ts) R)
      ∙ ap₂ (λ x y. map F L ++ (listed (policy_node os n) x ∷ (y ++ map F R))) k (sym (grown-row ts h))

  -- the nodes of the moved blocks are those of a tree one step away, as deep
  pub moved-tree : (bs cs : List Block) → Moved bs cs → (t : PolicyTree) → list_tree t ≡ map (policy_listed os) bs
      → ShuffledTo t (map (policy_listed os) cs)
  moved-tree bs cs (inl a) t e =
      let F : Block → Listed PolicyNode = policy_listed os in
      let n : PolicyNode = policy_node os (block a.node a.old) in
      let n' : PolicyNode = policy_node os (block a.node a.new) in
      let moved : AtomsMoved n n' = record { inner = refl; parent = refl; sibling = refl; atoms = IsPermutation-map row_of a.old a.new a.order } in
      subst (ShuffledTo t) (sym (ap (map F) a.is ∙ map-append F a.before (block a.node a.new ∷ a.behind)))
      (atoms-shuffled t (map F a.before) (map F a.behind) n n' (children_of a.node)
      (e ∙ ap (map F) a.was ∙ map-append F a.before (block a.node a.old ∷ a.behind)) moved)
  moved-tree bs cs (inr c) t e =
      let F : Block → Listed PolicyNode = policy_listed os in
      let fam : Family bs c.place = c.family in
      let many : length c.new ≡ children_of fam.node.node = length_permutation fam.children c.new c.order ∙ fam.all in
      let whole : All Subtree c.new = all-perm Subtree fam.children c.new c.order fam.whole in
      subst (ShuffledTo t) (sym (ap (map F) c.is ∙ family-listed fam.before fam.behind fam.node c.new whole many))
      (children-shuffled t (map F fam.before) (map F fam.behind) (policy_node os fam.node) (map grown fam.children) (map grown c.new)
      (e ∙ ap (map F) fam.is ∙ family-listed fam.before fam.behind fam.node fam.children fam.whole fam.all)
      (IsPermutation-map grown fam.children c.new c.order))

-- WHAT IS ASKED OF A BLOCK of an accepted file with some operators, but for its lengths and its place
abbrev RightAtomWords : List ℕ → Type 0
RightAtomWords x = (right_atom_match latest x ≡ true) × (right_atom_action latest x ≡ true)

record SoundNode (os : List (List ℕ)) (r : List ℕ) : Type 0 where
  right : RightNode (length os) r
  inner : KeepsLaws (operator_at os (inner_of r))
  sibling : KeepsLaws (operator_at os (sibling_of r))

record SoundBlocks (os : List (List ℕ)) (bs : List Block) : Type 0 where
  nodes : All (λ b. SoundNode os b.node) bs
  atoms : All (λ b. All RightAtomWords b.atoms) bs

moved-sound : (os : List (List ℕ)) (bs cs : List Block) → Moved bs cs → SoundBlocks os bs → SoundBlocks os cs
moved-sound os bs cs m h = record {
  nodes = moved-all (λ b. SoundNode os b.node) (λ n xs ys p g. g) bs cs m h.nodes;
  atoms = moved-all (λ b. All RightAtomWords b.atoms) (λ n xs ys p g. all-perm RightAtomWords xs ys p g) bs cs m h.atoms;
}

-- right and lawful parts have it
parts-sound : (os : List (List ℕ)) (bs : List Block) → RightPartsIn latest (parts_of os bs) → LawfulPartsIn latest (parts_of os bs) → SoundBlocks os bs
parts-sound os bs r laws = record {
  nodes = mapped_all (SoundNode os) (λ b. b.node) bs (all_from (SoundNode os) [] (nodes_in_order bs)
      (λ i h. record { right = r.right_nodes i h; inner = (laws i h).0; sibling = (laws i h).1 }));
  atoms = flat_all RightAtomWords (λ b. b.atoms) bs (all_from RightAtomWords [] (atoms_in_order bs) (λ i h. (r.matches i h, r.actions i h)));
}

-- and what has it makes right and lawful parts, of as many as are allowed and of one tree
sound-right : (os : List (List ℕ)) (bs cs : List Block) → RightPartsIn latest (parts_of os bs) → Laid os cs → SoundBlocks os cs
    → length cs ≡ length bs → length (atoms_in_order cs) ≡ length (atoms_in_order bs) → OneTree (map (policy_listed os) cs)
    → RightPartsIn latest (parts_of os cs)
sound-right os bs cs r laid sound many much o =
    let long : LongPartsIn latest (parts_of os cs) = parts-long os cs laid in
    let nodes : All (SoundNode os) (nodes_in_order cs) = all_mapped (SoundNode os) (λ b. b.node) cs sound.nodes in
    let atoms : All RightAtomWords (atoms_in_order cs) = all_flat RightAtomWords (λ b. b.atoms) cs sound.atoms in
    let same : length (nodes_in_order cs) ≡ length (nodes_in_order bs) = length-map cs (λ b. b.node) ∙ many ∙ sym (length-map bs (λ b. b.node)) in
    record {
      operators_long = long.operators;
      atoms_long = long.atoms;
      nodes_long = long.nodes;
      some_operators = r.some_operators;
      few_operators = r.few_operators;
      few_atoms = omega (arith, r.few_atoms, much);
      some_nodes = omega (arith, r.some_nodes, same);
      few_nodes = omega (arith, r.few_nodes, same);
      cells = r.cells;
      matches = λ i h. (all-at RightAtomWords [] (atoms_in_order cs) i atoms h).0;
      actions = λ i h. (all-at RightAtomWords [] (atoms_in_order cs) i atoms h).1;
      right_nodes = λ i h. (all-at (SoundNode os) [] (nodes_in_order cs) i nodes h).right;
      one_tree = subst OneTree (sym (held-blocks os cs laid.own)) o;
      all_taken = own-many cs laid.own;
    }

sound-lawful : (os : List (List ℕ)) (cs : List Block) → SoundBlocks os cs → LawfulPartsIn latest (parts_of os cs)
sound-lawful os cs sound i h =
    let nodes : All (SoundNode os) (nodes_in_order cs) = all_mapped (SoundNode os) (λ b. b.node) cs sound.nodes in
    let n : SoundNode os (get_or (nodes_in_order cs) i []) = all-at (SoundNode os) [] (nodes_in_order cs) i nodes h in
    (n.inner, n.sibling)

-- what is known of the file g, one step from the file f, which is accepted with the counts l
pub record Stepped (f g : List ℕ) (l : Layout) : Type 0 where
  pub accepted : read_of g ≡ Ok l
  pub shuffled : Shuffled (tree_of f l) (tree_of g l)

-- AN ACCEPTED FILE IS ACCEPTED AFTER A STEP, with the same counts, and its tree is a step away
pub stepped : (f g : List ℕ) (l : Layout) → read_of f ≡ Ok l → Step f g → Stepped f g l
stepped f g l e s =
    let os : List (List ℕ) = s.operators in
    let bs : List Block = s.old in
    let cs : List Block = s.new in
    let laid : Laid os cs = moved-laid os bs cs s.moved s.laid in
    let same : parts_in latest f l ≡ parts_of os bs = parts-found os bs s.laid f l e s.was in
    let parts = accepted-parts latest f l e in
    let r : RightPartsIn latest (parts_of os bs) = subst (RightPartsIn latest) same parts.0 in
    let laws : LawfulPartsIn latest (parts_of os bs) = subst (LawfulPartsIn latest) same parts.1 in
    let sound : SoundBlocks os cs = moved-sound os bs cs s.moved (parts-sound os bs r laws) in
    let many : length cs ≡ length bs = moved-many bs cs s.moved in
    let much : length (atoms_in_order cs) ≡ length (atoms_in_order bs) = length_permutation _ _ (moved-atoms bs cs s.moved) in
    let o : OneTree (map (policy_listed os) bs) = subst OneTree (held-blocks os bs s.laid.own) r.one_tree in
    let to : ShuffledTo o.tree (map (policy_listed os) cs) = moved-tree os bs cs s.moved o.tree o.lists in
    let o' : OneTree (map (policy_listed os) cs) = record { tree = to.tree; lists = to.lists; shallow = omega (arith, to.deep, o.shallow) } in
    let right : RightPartsIn latest (parts_of os cs) = sound-right os bs cs r laid sound many much o' in
    let counts : layout_of_parts (parts_of os cs) ≡ l =
    counts_same os bs cs many much ∙ sym (layout-found os bs s.laid f l e s.was) in
    let accepted : read_of g ≡ Ok l =
    ap read_of s.is ∙ parts-accepted latest (parts_of os cs) right (sound-lawful os cs sound) ∙ ap Ok counts in
    record {
      accepted = accepted;
      shuffled = subst₂ Shuffled (sym (tree-blocks os bs s.laid f l e s.was o)) (sym (tree-blocks os cs laid g l accepted s.is o')) to.shuffled;
    }
  where
    counts_same : (os : List (List ℕ)) (bs cs : List Block) → length cs ≡ length bs → length (atoms_in_order cs) ≡ length (atoms_in_order bs)
        → layout_of_parts (parts_of os cs) ≡ layout_of_parts (parts_of os bs)
    counts_same os bs cs many much = rw (length-map cs (λ b. b.node), length-map bs (λ b. b.node), many, much) refl
