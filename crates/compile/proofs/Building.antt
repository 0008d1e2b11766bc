-- The steps of the walk that builds tables: a part that does not fit means that the whole does not, since a join holds both its parts. Assumes nothing.
use Rattle.std.proofs.Common.{ℕ, ◌+◌, ◌-◌, ◌≤◌, ◌<◌, arith, ◌≡◌, refl, sym, ap, ap₂, subst, ◌∙◌, List, length, Option, Some, None}
use Rattle.words.proofs.Laid.{length-laid}
use Rattle.theory.specs.Tree.{Forest, ◌▸◌, table}
use Rattle.flow.specs.Match.{is_empty, common}
use Rattle.action.specs.Operator as operator
use Rattle.policy.specs.File.{PolicyNode, PolicyTree}
use Rattle.nodes.specs.Nodes.{node_at, cells_at, atom_words_at}
use Rattle.nodes.specs.Walk.{next_spot, Reached, tree_at, children_at}
use Rattle.policy.specs.declared.Node.{Node}
use Rattle.nodes.specs.declared.Spot.{Spot}
use Rattle.nodes.proofs.Walk.{tree-here, after-tree, children-more, children-here, after-children, NoChild}
use Rattle.compile.specs.Lays.{Lays}
use Rattle.compile.proofs.Going.{Fitted, made-words, lays-none, lays-case, lays-ends, too_long}
use Rattle.compile.specs.Tables.{join_words, own_words}
use Rattle.compile.proofs.Grow.{join-flat, join-length, joins}
use Rattle.compile.specs.Build.{compile_tree, compile_trees, own_at, tree_words, children_words, BuildsBy, Builds, NodeBuilt}
use Rattle.compile.specs.Build.{TreeBuilt, ChildrenBuilt, JoinBuilt}
use Rattle.compile.specs.declared.build.BuiltTable.{BuiltTable}
use Rattle.row.specs.Row.{rows_in, words_of}

-- a join holds both its parts
join-holds : (o A B : List ℕ) → length A + length B ≤ length (join_words o A B)
join-holds o A B = omega (arith, join-length o A B)

module _ {a : ℕ} {F old new : List ℕ} {P : Spot → Type 0} where
  -- what is known once the case is
  built-done : {r : Option BuiltTable} {p : BuiltTable} → Builds a F old new P r → r ≡ Some p → Lays a F old new (Some p.end) × P p.next
  built-done h q = subst (BuildsBy a F old new P) q h.is

  pub built-told : {r : Option BuiltTable} {p : BuiltTable} → Builds a F old new P r → r ≡ Some p → (a ≤ p.end) × (p.end ≤ length old) × P p.next
  built-told h q = let d = built-done h q in let e = lays-ends d.0 refl in (e.0, e.1, d.1)

  -- what does not fit does not fit with more
  part-full : {r : Option BuiltTable} (last o D : List ℕ) {Q : Spot → Type 0} → Builds a F old new P r → r ≡ None
      → Builds a (join_words o F D) old last Q None
  part-full last o D h q =
      let l : Lays a F old new None = subst (BuildsBy a F old new P) q h.is in
      record { is = too_long last l refl refl (omega (arith, join-holds o F D)) }

-- two tables built one behind the other: there is no room for the second, and both are joined
module _ {a : ℕ} {C D old mid here new : List ℕ} {N P Q : Spot → Type 0} {x m : Option BuiltTable} {p : BuiltTable} (o : List ℕ)
    (g : Builds a C old mid N x) (q : x ≡ Some p) (k : Builds p.end D mid here P m) where
  rest-full : m ≡ None → Builds a (join_words o C D) old new Q None
  rest-full e =
      let l : Lays a C old mid (Some p.end) = (built-done g q).0 in
      let f : Fitted a C (length old) p.end = made-words a C (length old) p.end l.answer in
      let same : length mid ≡ length old = ap length (l.words f.fits) ∙ length-laid a C old in
      let t : Lays p.end D mid here None = subst (BuildsBy p.end D mid here P) e k.is in
      record { is = too_long new t refl same (omega (arith, f.end, join-holds o C D)) }

  both-built : {n : BuiltTable} (r : Option BuiltTable) → m ≡ Some n → JoinBuilt o a p.end n here new r → ((s : Spot) → P s → Q s)
      → Builds a (join_words o C D) old new Q r
  both-built {n} (Some t) e j f =
      let l : Lays a C old mid (Some p.end) = (built-done g q).0 in
      let d = built-done k e in
      record { is = (joins o l d.0 j.is.0, subst Q (sym j.is.1) (f n.next d.1)) }
  both-built {n} None e j f =
      let l : Lays a C old mid (Some p.end) = (built-done g q).0 in
      record { is = joins o l (built-done k e).0 j.is }

-- a subtree's words: its own rows, joined with its children's
tree-words : (f : List ℕ) (s : Spot) → Reached f s → 0 < s.nodes_left
    → tree_words f s ≡ join_words (cells_at f (node_at f s.nodes_left).parent) (own_at f s)
    (children_words f (next_spot f s) (node_at f s.nodes_left).children (node_at f s.nodes_left).sibling)
unfolding tree_words children_words own_words
tree-words f s r h =
    let n : Node = node_at f s.nodes_left in
    ap (λ (t : PolicyTree). words_of (compile_tree t)) (tree-here f s r h)
    ∙ sym (join-flat (cells_at f n.parent)
    (table common is_empty operator.join (cells_at f n.inner) (rows_in (atom_words_at f s.next_atom n.own)))
    (compile_trees (children_at f (next_spot f s) n.children) (cells_at f n.sibling)))

-- the words of some children: the first's, joined with the others'
children-words : (f : List ℕ) (s : Spot) (k o : ℕ) (ts : Forest PolicyNode) → children_at f s k ≡ tree_at f s ▸ ts
    → children_words f s k o ≡ join_words (cells_at f o) (tree_words f s) (words_of (compile_trees ts (cells_at f o)))
unfolding tree_words children_words
children-words f s k o ts e =
    ap (λ us. words_of (compile_trees us (cells_at f o))) e ∙ sym (join-flat (cells_at f o) (compile_tree (tree_at f s)) (compile_trees ts (cells_at f o)))

-- THE ANSWERS OF THE WALK: a node's own rows
module _ (f : List ℕ) (s : Spot) {a : ℕ} {old new : List ℕ} (n : Node) {o atoms : List ℕ} {m : Option ℕ}
    (e : n ≡ node_at f s.nodes_left) (u : o ≡ cells_at f n.inner) (v : atoms ≡ atom_words_at f s.next_atom n.own)
    (l : Lays a (own_words o atoms) old new m) where
  own-lays : Lays a (own_at f s) old new m
  own-lays =
      let words : own_words o atoms ≡ own_at f s =
      ap₂ own_words (u ∙ ap (λ (z : Node). cells_at f z.inner) e) (v ∙ ap (λ (z : Node). atom_words_at f s.next_atom z.own) e) in
      subst (λ x. Lays a x old new m) words l

  pub node-full : m ≡ None → NodeBuilt f s a old new None
  node-full q = record { is = lays-case q own-lays }

  pub node_done : {end : ℕ} {next : Spot} → m ≡ Some end → next ≡ next_spot f s → NodeBuilt f s a old new (Some (record { end = end; next = next }))
  node_done q p = record { is = (lays-case q own-lays, p) }

module _ {f : List ℕ} {s : Spot} {a : ℕ} {old : List ℕ} where
  -- a subtree: no room for its own rows, or for those of its children; both joined
  pub tree-full : {mid : List ℕ} (last : List ℕ) {o : Option BuiltTable} → NodeBuilt f s a old mid o → o ≡ None → Reached f s → 0 < s.nodes_left
      → TreeBuilt f s a old last None
  tree-full last g q r h = rw (tree-words f s r h) (part-full last _ _ g q)

  module _ {mid here : List ℕ} {n : Node} {o m : Option BuiltTable} {p : BuiltTable} (g : NodeBuilt f s a old mid o) (q : o ≡ Some p)
      (k : ChildrenBuilt f p.next n.sibling n.children p.end mid here m) (e : n ≡ node_at f s.nodes_left) (reached : Reached f s) (h : 0 < s.nodes_left) where
    pub tree-rest : (last : List ℕ) → m ≡ None → TreeBuilt f s a old last None
    tree-rest last w = rw (tree-words f s reached h) (rest-full _ g q (rw ((built-done g q).1, e) at k) w)

    pub tree-done : {new : List ℕ} {c : BuiltTable} (r : Option BuiltTable) → m ≡ Some c → JoinBuilt (cells_at f n.parent) a p.end c here new r
        → TreeBuilt f s a old new r
    tree-done r w j =
        rw (tree-words f s reached h) (both-built _ g q (rw ((built-done g q).1, e) at k) r w (rw e at j) (λ x u. after-tree f s reached h u))

  -- children: none; no room for the first, or for the others; the first joined with the others
  pub children-none : {k : ℕ} (o : ℕ) → NoChild f s k → a ≤ length old → ChildrenBuilt f s o k a old old (Some (record { end = a; next = s }))
  unfolding children_words
  children-none o n h = record { is = (lays-none (ap (λ ts. words_of (compile_trees ts (cells_at f o))) n.none) h, n.after) }

  module _ (k o : ℕ) {mid : List ℕ} {x : Option BuiltTable} (g : TreeBuilt f s a old mid x) (reached : Reached f s) (some : 0 < k)
      (more : 0 < s.nodes_left) where
    pub children-full : (last : List ℕ) → x ≡ None → ChildrenBuilt f s o k a old last None
    children-full last q = rw (children-words f s k o _ (children-more f s reached more k some)) (part-full last _ _ g q)

    module _ {p : BuiltTable} {here : List ℕ} {m : Option BuiltTable} (q : x ≡ Some p) (kb : ChildrenBuilt f p.next o (k - 1) p.end mid here m) where
      is_more : children_words f s k o ≡ join_words (cells_at f o) (tree_words f s) (children_words f p.next (k - 1) o)
      unfolding children_words
      is_more = children-words f s k o _ (children-here f s reached more k some (built-done g q).1)

      pub children-rest : (last : List ℕ) → m ≡ None → ChildrenBuilt f s o k a old last None
      children-rest last w = rw is_more (rest-full _ g q kb w)

      pub children-done : {new : List ℕ} {c : BuiltTable} (r : Option BuiltTable) → m ≡ Some c → JoinBuilt (cells_at f o) a p.end c here new r
          → ChildrenBuilt f s o k a old new r
      children-done r w j =
          rw is_more (both-built _ g q kb r w j (λ x u. after-children f s reached more k some (built-done g q).1 u))
