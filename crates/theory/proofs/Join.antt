-- Lemma 1 and the size of a join: the first match of a join is that of both tables, or else of N, or else of N'; then four cases.
use Rattle.std.proofs.Common.{◌*◌, ◌≤◌, arith, ◌≡◌, refl, sym, Bool, true, false, cond, ◌&&◌, List, [], ◌∷◌, ◌++◌, length, length-append}
use mathlib.Core.Option.{Option, none, some, get_or}
use Rattle.logic.proofs.Tests.{by-test}
use Rattle.theory.specs.declared.Row.{Row}
use Rattle.theory.specs.Rows.{scan, kept, common_row, common_with, common_rows, join}
use Rattle.theory.specs.Theorems.{Laws, ScanJoin, JoinSize}

module _ {A : Type 0} where
  -- The first answer, or else the second.
  abbrev pub or_else : Option A → Option A → Option A
  or_else none y = y
  or_else (some a) y = some a

  -- Both answers joined, where there are both.
  abbrev pub join_both : (A → A → A) → Option A → Option A → Option A
  join_both op none y = none
  join_both op (some a) none = none
  join_both op (some a) (some b) = some (op a b)

  both-none : (op : A → A → A) (x : Option A) → join_both op x none ≡ none
  both-none op none = refl
  both-none op (some a) = refl

  -- One more row of N', and one more of N.
  both_right : (op : A → A → A) (b c : Bool) (a d : A) (y : Option A)
      → or_else (cond (b && c) (some (op a d)) none) (join_both op (cond b (some a) none) y) ≡ join_both op (cond b (some a) none) (cond c (some d) y)
  both_right op true true a d y = refl
  both_right op true false a d y = refl
  both_right op false c a d y = refl

  both_left : (op : A → A → A) (b : Bool) (a : A) (x y : Option A)
      → or_else (join_both op (cond b (some a) none) y) (join_both op x y) ≡ join_both op (cond b (some a) x) y
  both_left op true a x none = both-none op x
  both_left op true a x (some d) = refl
  both_left op false a x y = refl

module _ {M P A : Type 0} (meets : M → P → Bool) where
  -- The scan, with "none matches" kept apart.
  abbrev pub first : List (Row M A) → P → Option A
  first [] p = none
  first (r ∷ N) p = cond (meets r.matching p) (some r.action) (first N p)

  pub first-scan : (dont_care : A) (N : List (Row M A)) (p : P) → scan meets dont_care N p ≡ get_or (first N p) dont_care
  first-scan dont_care [] p = refl
  first-scan dont_care (r ∷ N) p = by-test (meets r.matching p) (λ t. rw t) (λ t. rw t (first-scan dont_care N p))

  pub first-append : (N N' : List (Row M A)) (p : P) → first (N ++ N') p ≡ or_else (first N p) (first N' p)
  first-append [] N' p = refl
  first-append (r ∷ N) N' p = by-test (meets r.matching p) (λ t. rw t) (λ t. rw t (first-append N N' p))

module _ {M P A O : Type 0} {meets : M → P → Bool} {dont_care : A} {joined : O → A → A → A} {common : M → M → M} {empty : M → Bool}
    (laws : Laws meets dont_care joined common empty) where
  -- Dropping an empty row changes no answer.
  pub first-kept : (r : Row M A) (p : P) → first meets (kept empty r) p ≡ cond (meets r.matching p) (some r.action) none
  first-kept r p = by-test (empty r.matching) (λ t. rw (t, laws.meets_empty r.matching p t)) (λ t. rw t)

  first-with : (o : O) (r : Row M A) (N' : List (Row M A)) (p : P)
      → first meets (common_with common empty (joined o) r N') p ≡ join_both (joined o) (cond (meets r.matching p) (some r.action) none) (first meets N' p)
  first-with o r [] p = sym (both-none (joined o) (cond (meets r.matching p) (some r.action) none))
  first-with o r (s ∷ N') p =
      rw (first-append, first-kept (common_row common (joined o) r s) p, laws.meets_common r.matching s.matching p, first-with o r N' p)
      (both_right (joined o) (meets r.matching p) (meets s.matching p) r.action s.action (first meets N' p))

  first-common : (o : O) (N N' : List (Row M A)) (p : P)
      → first meets (common_rows common empty (joined o) N N') p ≡ join_both (joined o) (first meets N p) (first meets N' p)
  first-common o [] N' p = refl
  first-common o (r ∷ N) N' p =
      rw (first-append, first-with o r N' p, first-common o N N' p)
      (both_left (joined o) (meets r.matching p) r.action (first meets N p) (first meets N' p))

  pub first-join : (o : O) (N N' : List (Row M A)) (p : P)
      → first meets (join common empty (joined o) N N') p
      ≡ or_else (join_both (joined o) (first meets N p) (first meets N' p)) (or_else (first meets N p) (first meets N' p))
  first-join o N N' p = simp (first-append, first-common o N N' p)

  -- Four cases: which of the two tables match.
  answers : (o : O) (x y : Option A)
      → get_or (or_else (join_both (joined o) x y) (or_else x y)) dont_care ≡ joined o (get_or x dont_care) (get_or y dont_care)
  answers o none none = sym (laws.identity_left o dont_care)
  answers o none (some b) = sym (laws.identity_left o b)
  answers o (some a) none = sym (laws.identity_right o a)
  answers o (some a) (some b) = refl

module _ {M P A O : Type 0} {meets : M → P → Bool} {dont_care : A} {joined : O → A → A → A} {common : M → M → M} {empty : M → Bool} where
  pub scan-join : ScanJoin meets dont_care joined common empty
  scan-join laws o N N' p = simp (first-scan, first-join laws o N N' p) (answers laws o (first meets N p) (first meets N' p))

module _ {M A : Type 0} (common : M → M → M) (empty : M → Bool) (op : A → A → A) where
  pub length-kept : (r : Row M A) → length (kept empty r) ≤ 1
  length-kept r = by-test (empty r.matching) (λ t. rw t (omega arith)) (λ t. rw t (omega arith))

  pub length-with : (r : Row M A) (N' : List (Row M A)) → length (common_with common empty op r N') ≤ length N'
  length-with r [] = omega arith
  length-with r (s ∷ N') = simp length-append (omega (arith, length-kept (common_row common op r s), length-with r N'))

  pub length-common : (N N' : List (Row M A)) → length (common_rows common empty op N N') ≤ length N * length N'
  length-common [] N' = omega arith
  length-common (r ∷ N) N' = simp length-append (omega (arith, length-with r N', length-common N N'))

  pub join-size : JoinSize common empty op
  join-size N N' = simp length-append (omega (arith, length-common N N'))
