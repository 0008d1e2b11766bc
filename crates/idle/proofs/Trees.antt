-- The tree of a file without an atom is that of the file but for the atom's match. Assumes nothing.
use Rattle.std.proofs.Common.{ℕ, suc, ◌<◌, ◌≡◌, refl, sym, ap₂, subst, List, [], ◌∷◌, ◌++◌, map, get_or, take, drop, Ok}
use Rattle.std.proofs.Math.ListN.{get_or-map}
use Rattle.logic.specs.Lists.{All}
use Rattle.theory.specs.declared.Row.{Row}
use Rattle.theory.specs.Tree.{Forest, bare, ◌▸◌}
use Rattle.theory.specs.Nodes.{plant}
use Rattle.flow.specs.Match.{none}
use Rattle.flow.specs.declared.Match.{Match}
use Rattle.action.specs.declared.Action.{Action}
use Rattle.row.specs.Row.{row_of}
use Rattle.policy.specs.Sections.{own_of}
use Rattle.policy.specs.Read.{read_of, operator_records, atom_records, node_records}
use Rattle.policy.specs.File.{PolicyNode, held, first_tree, tree_of, atoms_of}
use Rattle.policy.specs.declared.Layout.{Layout}
use Rattle.table.specs.Table.{past}
use Rattle.idle.specs.Idle.{without}
use Rattle.idle.proofs.Alike.{AlikeRows, alike-self, alike-take, alike-drop, AlikeTree, AlikeTrees, AlikeListed, alike-plant}
use Rattle.idle.proofs.Replaced.{emptied, emptied-row, Again, again, among}

-- an atom without its match
abbrev pub unmatched : Row Match Action → Row Match Action
unmatched x = record { matching = none; action = x.action }

module _ (R : Row Match Action → Row Match Action → Type 0) where
  -- related atoms, held by the same nodes
  held-alike : (os : List (List ℕ)) (xs ys : List (Row Match Action)) (rs : List (List ℕ)) → AlikeRows R xs ys
      → AlikeListed R (held os xs rs) (held os ys rs)
  held-alike os xs ys [] h = tt
  held-alike os xs ys (r ∷ rs) h = (
    record { inner = refl; parent = refl; sibling = refl; atoms = alike-take R (own_of r) xs ys h },
    refl,
    held-alike os (drop (own_of r) xs) (drop (own_of r) ys) rs (alike-drop R (own_of r) xs ys h),
  )

  first-alike : (ts us : Forest PolicyNode) → AlikeTrees R ts us → AlikeTree R (first_tree ts) (first_tree us)
  first-alike bare bare h = (record { inner = refl; parent = refl; sibling = refl; atoms = tt }, tt)
  first-alike bare (u ▸ us) h = absurd h
  first-alike (t ▸ ts) bare h = absurd h
  first-alike (t ▸ ts) (u ▸ us) h = h.0

  -- TWO FILES WITH THE SAME OPERATORS AND NODES, AND RELATED ATOMS, HAVE TREES THAT ARE ALIKE
  pub tree-alike : (f g : List ℕ) (l : Layout) → operator_records g l.operators ≡ operator_records f l.operators
      → node_records g l.operators l.atoms l.nodes ≡ node_records f l.operators l.atoms l.nodes → AlikeRows R (atoms_of f l) (atoms_of g l)
      → AlikeTree R (tree_of f l) (tree_of g l)
  tree-alike f g l p q h =
      let os : List (List ℕ) = operator_records f l.operators in
      let ns : List (List ℕ) = node_records f l.operators l.atoms l.nodes in
      let same : tree_of g l ≡ first_tree (plant (held os (atoms_of g l) ns)) = ap₂ (λ o n. first_tree (plant (held o (atoms_of g l) n))) p q in
      subst (AlikeTree R (tree_of f l)) (sym same)
      (first-alike (plant (held os (atoms_of f l) ns)) (plant (held os (atoms_of g l) ns))
      (alike-plant R (held os (atoms_of f l) ns) (held os (atoms_of g l) ns) (held-alike os (atoms_of f l) (atoms_of g l) ns h)))

  -- the atoms of a file, and those with one of them without its match
  one-alike : (ps qs : List (List ℕ)) (x : List ℕ) → All (λ y. R y y) (map row_of (ps ++ (x ∷ qs))) → R (row_of x) (unmatched (row_of x))
      → AlikeRows R (map row_of (ps ++ (x ∷ qs))) (map row_of (ps ++ (emptied x ∷ qs)))
  one-alike [] qs x h k = (subst (R (row_of x)) (sym (emptied-row x)) k, alike-self R (map row_of qs) h.1)
  one-alike (p ∷ ps) qs x h k = (h.0, one-alike ps qs x h.1 k)

  -- and those, each with itself
  new-self : (ps qs : List (List ℕ)) (x : List ℕ) → All (λ y. R y y) (map row_of (ps ++ (x ∷ qs))) → R (unmatched (row_of x)) (unmatched (row_of x))
      → All (λ y. R y y) (map row_of (ps ++ (emptied x ∷ qs)))
  new-self [] qs x h k = (subst (λ y. R y y) (sym (emptied-row x)) k, h.1)
  new-self (p ∷ ps) qs x h k = (h.0, new-self ps qs x h.1 k)

-- an accepted file, and one of its atoms
module _ (R : Row Match Action → Row Match Action → Type 0) (f : List ℕ) (l : Layout) (j : ℕ) (e : read_of f ≡ Ok l) (h : j < l.atoms)
    (same : All (λ x. R x x) (atoms_of f l)) where
  abbrev xs : List (List ℕ)
  xs = atom_records f l.operators l.atoms

  abbrev x : List ℕ
  x = get_or xs j []

  abbrev with_it : List (Row Match Action)
  with_it = map row_of (take j xs ++ (x ∷ drop (suc j) xs))

  abbrev atom : Row Match Action
  atom = get_or (atoms_of f l) j past

  is-atom : row_of x ≡ atom
  is-atom = sym (get_or-map row_of xs j [])

  all-same : All (λ y. R y y) with_it
  all-same = subst (λ ys. All (λ y. R y y) (map row_of ys)) (sym (among f l j e h)) same

  -- THE TREE OF A FILE, AND WITHOUT AN ATOM
  pub without-alike : R atom (unmatched atom) → AlikeTree R (tree_of f l) (tree_of (without f l j) l)
  without-alike k =
      let a : Again f l j = again f l j e h in
      let pairs : AlikeRows R with_it (map row_of (take j xs ++ (emptied x ∷ drop (suc j) xs))) =
      one-alike R (take j xs) (drop (suc j) xs) x all-same (subst (λ y. R y (unmatched y)) (sym is-atom) k) in
      tree-alike R f (without f l j) l a.operators a.nodes
      (subst (λ ys. AlikeRows R (atoms_of f l) (map row_of ys)) (sym a.atoms)
      (subst (λ ys. AlikeRows R (map row_of ys) (map row_of (take j xs ++ (emptied x ∷ drop (suc j) xs)))) (among f l j e h) pairs))

  -- THE TREE WITHOUT IT, AND ITSELF
  pub without-self : R (unmatched atom) (unmatched atom) → AlikeTree R (tree_of (without f l j) l) (tree_of (without f l j) l)
  without-self k =
      let a : Again f l j = again f l j e h in
      let each : All (λ y. R y y) (map row_of (take j xs ++ (emptied x ∷ drop (suc j) xs))) =
      new-self R (take j xs) (drop (suc j) xs) x all-same (subst (λ y. R (unmatched y) (unmatched y)) (sym is-atom) k) in
      tree-alike R (without f l j) (without f l j) l refl refl
      (subst (λ ys. AlikeRows R (map row_of ys) (map row_of ys)) (sym a.atoms)
      (alike-self R (map row_of (take j xs ++ (emptied x ∷ drop (suc j) xs))) each))
