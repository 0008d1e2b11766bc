-- The first row that a packet meets: it lies inside exactly the atoms that the packet meets. Each row carries its match; the scan of what is carried is the
-- common match of the atoms met. Assumes nothing.
use Rattle.std.proofs.Common.{ℕ, ◌<◌, ◌≡◌, refl, sym, ap, subst, ◌∙◌, Bool, true, false, ◌&&◌, List, [], ◌∷◌, ◌++◌, map, length, get_or}
use mathlib.Core.Bool.{false≢true}
use mathlib.Core.Option.{Option, none, some}
use Rattle.std.proofs.Math.ListN.{get_or-map, length-map}
use Rattle.std.specs.Prelude.{⊤}
use Rattle.logic.specs.Lists.{All}
use Rattle.logic.proofs.Lists.{all_append, all_then}
use Rattle.logic.proofs.Tests.{by-test, and_left, and_right, and_both, same_test}
use Rattle.theory.specs.declared.Row.{Row}
use Rattle.theory.specs.Rows.{scan, matches_at}
use Rattle.theory.specs.Number.{FirstPlace}
use Rattle.theory.specs.Nodes.{list_tree, all_atoms}
use Rattle.theory.specs.Tree.{Tree, Forest, node, bare, ◌▸◌, Node, EveryNode, EveryNodes, GoodNode, own, eval, evals}
use Rattle.theory.specs.Theorems.{Laws}
use Rattle.theory.proofs.Compile.{scan-compile}
use Rattle.theory.proofs.Places.{scan-place, scan-none}
use Rattle.theory.specs.Hidden.{staying}
use Rattle.theory.proofs.HiddenLaws.{scan-hidden}
use Rattle.theory.proofs.Count.{tree_atoms, forest_atoms, atoms-listed}
use Rattle.origins.specs.Marked.{InsideLaws, RightAtoms, rows}
use Rattle.origins.specs.Theorems.{FirstRow, NoRow, FirstKept, NoneKept}
use Rattle.origins.proofs.Carried.{carried, carried_tree, carried_trees, carried-compile, carried-staying}

-- both matches together, where there are both
abbrev both_matches : {M : Type 0} → (M → M → M) → Option M → Option M → Option M
both_matches common none y = y
both_matches common (some m) none = some m
both_matches common (some m) (some n) = some (common m n)

-- the same under every operator
abbrev under : {M O : Type 0} → (M → M → M) → O → Option M → Option M → Option M
under common o x y = both_matches common x y

-- what a row carries: its match
abbrev itself : {M A : Type 0} → Row M A → Option M
itself r = some r.matching

module _ {M P : Type 0} {meets : M → P → Bool} {inside : M → M → Bool} {common : M → M → M} {empty : M → Bool} {Right : M → Type 0}
    (laws : InsideLaws meets inside common empty Right) where
  carried-laws : (O : Type 0) → Laws meets none (under {O = O} common) common empty
  carried-laws O = record {
    meets_common = laws.meets_common;
    meets_empty = laws.meets_empty;
    identity_left = λ o x. refl;
    identity_right = λ o x. right_none x;
  }
    where
      right_none : (x : Option M) → both_matches common x none ≡ x
      right_none none = refl
      right_none (some m) = refl

  lives : (p : P) (m : M) → meets m p ≡ true → empty m ≡ false
  lives p m e = by-test (empty m) (λ t. absurd (false≢true (sym (laws.meets_empty m p t) ∙ e))) (λ t. t)

module _ {M P A : Type 0} {meets : M → P → Bool} {inside : M → M → Bool} {common : M → M → M} {empty : M → Bool} {Right : M → Type 0}
    (laws : InsideLaws meets inside common empty Right) (p : P) where
  -- what the common match of the atoms met tells of some atoms
  abbrev Tells : List (Row M A) → Option M → Type 0
  Tells xs none = All (λ x. meets x.matching p ≡ false) xs
  Tells xs (some m) = Right m × (meets m p ≡ true) × All (λ x. meets x.matching p ≡ true → inside m x.matching ≡ true) xs

  -- atoms that are not met lie where they will
  unmet : (m : M) (xs : List (Row M A)) → All (λ x. meets x.matching p ≡ false) xs
      → All (λ x. meets x.matching p ≡ true → inside m x.matching ≡ true) xs
  unmet m xs f = all_then (λ x. meets x.matching p ≡ false) _ (λ x e t. absurd (false≢true (sym e ∙ t))) xs f

  -- a narrower match lies inside more
  narrower : (l m : M) (xs : List (Row M A)) → inside l m ≡ true → All (λ x. meets x.matching p ≡ true → inside m x.matching ≡ true) xs
      → All (λ x. meets x.matching p ≡ true → inside l x.matching ≡ true) xs
  narrower l m xs e f =
      all_then (λ x. meets x.matching p ≡ true → inside m x.matching ≡ true) _ (λ x g t. laws.nests l m x.matching e (g t)) xs f

  tells-both : (xs ys : List (Row M A)) (u v : Option M) → Tells xs u → Tells ys v → Tells (xs ++ ys) (both_matches common u v)
  tells-both xs ys none none f g = all_append _ xs ys f g
  tells-both xs ys none (some n) f g = (g.0, g.1, all_append _ xs ys (unmet n xs f) g.2)
  tells-both xs ys (some m) none f g = (f.0, f.1, all_append _ xs ys f.2 (unmet m ys g))
  tells-both xs ys (some m) (some n) f g =
      let right : Right (common m n) = laws.common_right m n f.0 g.0 in
      let met : meets (common m n) p ≡ true = laws.meets_common m n p ∙ and_both f.1 g.1 in
      let halves : (inside (common m n) m && inside (common m n) n) ≡ true =
      sym (laws.inside_common (common m n) m n right (lives laws p (common m n) met) f.0 g.0) ∙ laws.inside_itself (common m n) right in (
        right,
        met,
        all_append _ xs ys (narrower (common m n) m xs (and_left _ (inside (common m n) n) halves) f.2)
            (narrower (common m n) n ys (and_right (inside (common m n) m) _ halves) g.2),
      )

module _ {M P A O : Type 0} {meets : M → P → Bool} {inside : M → M → Bool} {common : M → M → M} {empty : M → Bool} {Right : M → Type 0}
    (laws : InsideLaws meets inside common empty Right) (p : P) where
  tells-own : (i : O) (xs : List (Row M A)) → All (λ x. Right x.matching) xs → Tells laws p xs (own meets none (under common) i (map (carried itself) xs) p)
  tells-own i [] f = tt
  tells-own i (x ∷ xs) f =
      let rest : Option M = own meets none (under common) i (map (carried itself) xs) p in
      by-test (meets x.matching p)
      (λ t. rw t (tells-both laws p (x ∷ []) xs (some x.matching) rest (f.0, t, (λ u. laws.inside_itself x.matching f.0, tt)) (tells-own i xs f.1)))
      (λ t. rw t (tells-both laws p (x ∷ []) xs none rest (t, tt) (tells-own i xs f.1)))

  mutual
    tells-eval : (t : Tree (Node O M A)) → EveryNode (GoodNode (λ o. ⊤) (λ x. Right x.matching)) t
        → Tells laws p (tree_atoms t) (eval meets none (under common) (carried_tree itself t) p)
    tells-eval (node n ts) f =
        tells-both laws p n.atoms (forest_atoms ts) (own meets none (under common) n.inner (map (carried itself) n.atoms) p)
        (evals meets none (under common) (carried_trees itself ts) n.sibling p) (tells-own n.inner n.atoms f.0.atoms) (tells-evals ts n.sibling f.1)

    tells-evals : (ts : Forest (Node O M A)) (s : O) → EveryNodes (GoodNode (λ o. ⊤) (λ x. Right x.matching)) ts
        → Tells laws p (forest_atoms ts) (evals meets none (under common) (carried_trees itself ts) s p)
    tells-evals bare s f = tt
    tells-evals (t ▸ ts) s f =
        tells-both laws p (tree_atoms t) (forest_atoms ts) (eval meets none (under common) (carried_tree itself t) p)
        (evals meets none (under common) (carried_trees itself ts) s p) (tells-eval t f.0) (tells-evals ts s f.1)

  module _ (joined : O → A → A → A) (t : Tree (Node O M A)) (good : RightAtoms Right t) where
    -- the scan of what the rows carry
    carried-scan : scan meets none (map (carried itself) (rows joined common empty t)) p ≡ eval meets none (under common) (carried_tree itself t) p
    carried-scan =
        ap (λ N. scan meets none N p) (carried-compile common empty joined (under common) itself (λ o r s. refl) t)
        ∙ scan-compile (carried-laws laws O) (carried_tree itself t) p

    -- the same without the hidden rows
    staying-scan : scan meets none (map (carried itself) (staying inside (rows joined common empty t))) p
        ≡ eval meets none (under common) (carried_tree itself t) p
    staying-scan =
        ap (λ N. scan meets none N p) (carried-staying inside itself (rows joined common empty t))
        ∙ scan-hidden meets none inside laws.encloses (map (carried itself) (rows joined common empty t)) p
        ∙ carried-scan

    -- rows whose scan is that
    module _ (N : List (Row M A)) (scanned : scan meets none (map (carried itself) N) p ≡ eval meets none (under common) (carried_tree itself t) p)
        (d : Row M A) where
      told : (v : Option M) → scan meets none (map (carried itself) N) p ≡ v → Tells laws p (all_atoms (list_tree t)) v
      told v e =
          subst (λ xs. Tells laws p xs v) (sym (atoms-listed t)) (subst (Tells laws p (tree_atoms t)) (sym scanned ∙ e) (tells-eval t good))

      same-length : length (map (carried itself) N) ≡ length N
      same-length = length-map N (carried itself)

      same-place : (i : ℕ) → get_or (map (carried itself) N) i (carried itself d) ≡ carried itself (get_or N i d)
      same-place i = get_or-map (carried itself) N i d

      first-of : (i : ℕ) → FirstPlace (matches_at meets d N p) (length N) i
          → All (λ x. meets x.matching p ≡ inside (get_or N i d).matching x.matching) (all_atoms (list_tree t))
      first-of i f =
          let r : Row M A = get_or N i d in
          let at : FirstPlace (matches_at meets (carried itself d) (map (carried itself) N) p) (length (map (carried itself) N)) i = record {
            within = rw same-length f.within;
            passes = rw (same-place i) f.passes;
            skips = λ j h. rw (same-place j) (f.skips j h);
          } in
          let v : scan meets none (map (carried itself) N) p ≡ some r.matching =
          (scan-place meets none (carried itself d) (map (carried itself) N) p i at).0 ∙ ap (λ (s : Row M (Option M)). s.action) (same-place i) in
          all_then (λ x. meets x.matching p ≡ true → inside r.matching x.matching ≡ true) _
          (λ x g. same_test (meets x.matching p) (inside r.matching x.matching) g (λ e. laws.encloses r.matching x.matching p e f.passes))
          (all_atoms (list_tree t)) (told (some r.matching) v).2

      none-of : ((i : ℕ) → i < length N → matches_at meets d N p i ≡ false) → All (λ x. meets x.matching p ≡ false) (all_atoms (list_tree t))
      none-of f =
          told none
          (scan-none meets none (carried itself d) (map (carried itself) N) p (λ i h. rw (same-place i) (f i (rw same-length at h)))).0

module _ {M P A O : Type 0} {meets : M → P → Bool} {inside : M → M → Bool} {common : M → M → M} {empty : M → Bool} {Right : M → Type 0}
    (joined : O → A → A → A) where
  -- THE FIRST ROW MET lies inside the atoms that are met, and inside no other
  pub first-row : FirstRow meets inside common empty Right joined
  first-row laws t good p = first-of laws p joined t good (rows joined common empty t) (carried-scan laws p joined t good)

  pub no-row : NoRow meets inside common empty Right joined
  no-row laws t good p = none-of laws p joined t good (rows joined common empty t) (carried-scan laws p joined t good)

  -- the same of the rows that stay
  pub first-kept : FirstKept meets inside common empty Right joined
  first-kept laws t good p = first-of laws p joined t good (staying inside (rows joined common empty t)) (staying-scan laws p joined t good)

  pub none-kept : NoneKept meets inside common empty Right joined
  none-kept laws t good p = none-of laws p joined t good (staying inside (rows joined common empty t)) (staying-scan laws p joined t good)
