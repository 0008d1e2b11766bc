-- The scan at a match in the place of a packet, which meets a row where it lies inside the row's match: the scan of the compiled rows is the tree's action
-- there too, for right matches; and a row that stays is the first that its own match meets. Assumes nothing.
use Rattle.std.proofs.Common.{ℕ, ◌<◌, ◌≡◌, refl, sym, ◌∙◌, Bool, false, cond, List, [], ◌∷◌, ◌++◌, length, get_or}
use mathlib.Core.Option as option
use mathlib.Core.Option.{Option, none, some}
use Rattle.std.specs.Prelude.{⊤}
use Rattle.logic.specs.Lists.{All}
use Rattle.logic.proofs.Lists.{all_then, all-at}
use Rattle.logic.proofs.Tests.{by-test}
use Rattle.theory.specs.declared.Row.{Row}
use Rattle.theory.specs.Rows.{scan, matches_at, kept, common_row, common_with, common_rows, join}
use Rattle.theory.specs.Number.{FirstPlace}
use Rattle.theory.specs.Hidden.{staying}
use Rattle.theory.specs.Tree.{Tree, Forest, node, bare, ◌▸◌, Node, EveryNodes, GoodNode, own, eval, evals, table, compile, compiles}
use Rattle.theory.proofs.Join.{or_else, join_both, first, first-scan, first-append}
use Rattle.theory.proofs.Every.{every-table, every-trees, compile-every}
use Rattle.theory.proofs.Places.{scan-place}
use Rattle.theory.proofs.HiddenLaws.{scan-hidden, none_hidden, hidden-every}
use Rattle.origins.specs.Marked.{InsideLaws, Identity, RightAtoms}

-- a first answer hides the others
both_first : {A : Type 0} (op : A → A → A) (a : A) (x y : Option A) → or_else (join_both op (some a) y) (join_both op x y) ≡ join_both op (some a) y
both_first op a x (some d) = refl
both_first op a none none = refl
both_first op a (some b) none = refl

-- a match meets the rows that it lies inside
abbrev pub around : {M : Type 0} → (M → M → Bool) → M → M → Bool
around inside m q = inside q m

module _ {M P A O : Type 0} {meets : M → P → Bool} {inside : M → M → Bool} {common : M → M → M} {empty : M → Bool} {Right : M → Type 0}
    (laws : InsideLaws meets inside common empty Right) {dont_care : A} {joined : O → A → A → A} (identity : Identity dont_care joined) where
  abbrev Rights : List (Row M A) → Type 0
  Rights N = All (λ r. Right r.matching) N

  -- compiled rows are right and not empty
  abbrev Lives : Row M A → Type 0
  Lives r = Right r.matching × (empty r.matching ≡ false)

  keeps : (o : O) (r s : Row M A) → ⊤ → Right r.matching → Right s.matching → Right (common r.matching s.matching)
  keeps o r s k f g = laws.common_right r.matching s.matching f g

  rights-of : (N : List (Row M A)) → All Lives N → Rights N
  rights-of N f = all_then Lives (λ r. Right r.matching) (λ r g. g.0) N f

  rows-live : (t : Tree (Node O M A)) → RightAtoms Right t → All Lives (compile common empty joined t)
  rows-live t g = compile-every joined common empty (λ o. ⊤) (λ r. Right r.matching) keeps t g

  module _ (q : M) (right : Right q) (live : empty q ≡ false) where
    first-kept : (r : Row M A) → first (around inside) (kept empty r) q ≡ cond (inside q r.matching) (some r.action) none
    first-kept r = by-test (empty r.matching) (λ t. rw (t, laws.inside_empty q r.matching live t)) (λ t. rw t)

    first-with : (o : O) (r : Row M A) (N' : List (Row M A)) → Right r.matching → Rights N'
        → first (around inside) (common_with common empty (joined o) r N') q
        ≡ join_both (joined o) (cond (inside q r.matching) (some r.action) none) (first (around inside) N' q)
    first-with o r [] f g = by-test (inside q r.matching) (λ t. rw t) (λ t. rw t)
    first-with o r (s ∷ N') f g =
        rw (
          first-append (around inside) (kept empty (common_row common (joined o) r s)) (common_with common empty (joined o) r N') q,
          first-kept (common_row common (joined o) r s),
          laws.inside_common q r.matching s.matching right live f g.0,
          first-with o r N' f g.1,
        )
        (by-test (inside q r.matching) (λ t. rw t (by-test (inside q s.matching) (λ u. rw u) (λ u. rw u))) (λ t. rw t))

    first-common : (o : O) (N N' : List (Row M A)) → Rights N → Rights N'
        → first (around inside) (common_rows common empty (joined o) N N') q
        ≡ join_both (joined o) (first (around inside) N q) (first (around inside) N' q)
    first-common o [] N' f g = refl
    first-common o (r ∷ N) N' f g =
        rw (
          first-append (around inside) (common_with common empty (joined o) r N') (common_rows common empty (joined o) N N') q,
          first-with o r N' f.0 g,
          first-common o N N' f.1 g,
        )
        (by-test (inside q r.matching)
        (λ t. rw t (both_first (joined o) r.action (first (around inside) N q) (first (around inside) N' q)))
        (λ t. rw t))

    -- by which of the two tables are met
    answers : (o : O) (x y : Option A)
        → option.get_or (or_else (join_both (joined o) x y) (or_else x y)) dont_care ≡ joined o (option.get_or x dont_care) (option.get_or y dont_care)
    answers o none y = sym (identity.left o (option.get_or y dont_care))
    answers o (some a) none = sym (identity.right o a)
    answers o (some a) (some b) = refl

    -- Lemma 1 here
    scan-join : (o : O) (N N' : List (Row M A)) → Rights N → Rights N'
        → scan (around inside) dont_care (join common empty (joined o) N N') q
        ≡ joined o (scan (around inside) dont_care N q) (scan (around inside) dont_care N' q)
    scan-join o N N' f g =
        rw (
          first-scan (around inside) dont_care (join common empty (joined o) N N') q,
          first-scan (around inside) dont_care N q,
          first-scan (around inside) dont_care N' q,
          first-append (around inside) (common_rows common empty (joined o) N N') (N ++ N') q,
          first-append (around inside) N N' q,
          first-common o N N' f g,
        )
        (answers o (first (around inside) N q) (first (around inside) N' q))

    rights-kept : (r : Row M A) → Right r.matching → Rights (kept empty r)
    rights-kept r f = by-test (empty r.matching) (λ t. rw t tt) (λ t. rw t (f, tt))

    scan-table : (i : O) (xs : List (Row M A)) → Rights xs
        → scan (around inside) dont_care (table common empty joined i xs) q ≡ own (around inside) dont_care joined i xs q
    scan-table i [] f = refl
    scan-table i (x ∷ xs) f =
        let N : List (Row M A) = table common empty joined i xs in
        let rest : Rights N = rights-of N (every-table joined common empty (λ o. ⊤) (λ r. Right r.matching) keeps i tt xs f.1) in
        rw (
          scan-join i (kept empty x) N (rights-kept x f.0) rest,
          first-scan (around inside) dont_care (kept empty x) q,
          first-kept x,
          scan-table i xs f.1,
        )
        (by-test (inside q x.matching) (λ t. rw t) (λ t. rw t (identity.left i (own (around inside) dont_care joined i xs q))))

    -- Theorem 1 here
    mutual
      scan-tree : (t : Tree (Node O M A)) → RightAtoms Right t
          → scan (around inside) dont_care (compile common empty joined t) q ≡ eval (around inside) dont_care joined t q
      scan-tree (node n ts) g =
          let N : List (Row M A) = table common empty joined n.inner n.atoms in
          let N' : List (Row M A) = compiles common empty joined ts n.sibling in
          rw (
            scan-join n.parent N N'
                (rights-of N (every-table joined common empty (λ o. ⊤) (λ r. Right r.matching) keeps n.inner tt n.atoms g.0.atoms))
                (rights-of N' (every-trees joined common empty (λ o. ⊤) (λ r. Right r.matching) keeps ts n.sibling tt g.1)),
            scan-table n.inner n.atoms g.0.atoms,
            scan-trees ts n.sibling g.1,
          )

      scan-trees : (ts : Forest (Node O M A)) (s : O) → EveryNodes (GoodNode (λ o. ⊤) (λ r. Right r.matching)) ts
          → scan (around inside) dont_care (compiles common empty joined ts s) q ≡ evals (around inside) dont_care joined ts s q
      scan-trees bare s g = refl
      scan-trees (t ▸ ts) s g =
          let N : List (Row M A) = compile common empty joined t in
          let N' : List (Row M A) = compiles common empty joined ts s in
          rw (
            scan-join s N N' (rights-of N (rows-live t g.0))
                (rights-of N' (every-trees joined common empty (λ o. ⊤) (λ r. Right r.matching) keeps ts s tt g.1)),
            scan-tree t g.0,
            scan-trees ts s g.1,
          )

  -- A ROW THAT STAYS has the action of the tree over the atoms that its match lies inside
  pub staying-action : (t : Tree (Node O M A)) → RightAtoms Right t → (d : Row M A) (i : ℕ)
      → let K : List (Row M A) = staying inside (compile common empty joined t) in
      i < length K → (get_or K i d).action ≡ eval (around inside) dont_care joined t (get_or K i d).matching
  staying-action t g d i h =
      let N : List (Row M A) = compile common empty joined t in
      let K : List (Row M A) = staying inside N in
      let q : M = (get_or K i d).matching in
      let lives : Lives (get_or K i d) = all-at Lives d K i (hidden-every A inside Lives N (rows-live t g)) h in
      let at : FirstPlace (matches_at (around inside) d K q) (length K) i = record {
        within = h;
        passes = laws.inside_itself q lives.0;
        skips = λ j l. none_hidden A inside d N j i l h;
      } in
      sym (scan-place (around inside) dont_care d K q i at).0
      ∙ scan-hidden (around inside) dont_care inside (λ m n l e f. laws.nests l m n f e) N q
      ∙ scan-tree q lives.0 lives.1 t g
