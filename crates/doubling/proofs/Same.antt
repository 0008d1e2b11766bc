-- Tables whose rows are all the same: each atom that is such a row doubles its table and adds a row. Assumes nothing.
use Rattle.std.proofs.Common.{◌≡◌, refl, ap, ◌∙◌, arith, Bool, false, List, [], ◌∷◌, ◌++◌, append-nil, ℕ, zero, suc, ◌+◌, ◌-◌, ◌^◌, replicate}
use Rattle.std.proofs.Math.Nat.{two-pow-succ}
use Rattle.std.proofs.Math.Pow.{suc_ones}
use Rattle.std.proofs.lemmas.List.{replicate-append-replicate}
use Rattle.theory.specs.declared.Row.{Row}
use Rattle.theory.specs.Rows.{kept, common_row, common_with, common_rows, join}
use Rattle.theory.specs.Tree.{Node, node, bare, table, compile}

module _ {M A : Type 0} (common : M → M → M) (empty : M → Bool) (op : A → A → A) where
  -- a table without rows has no common rows
  common_none : (N : List (Row M A)) → common_rows common empty op N [] ≡ []
  common_none [] = refl
  common_none (r ∷ N) = common_none N

  pub join_none : (N : List (Row M A)) → join common empty op N [] ≡ N
  join_none N = ap (λ l. l ++ (N ++ [])) (common_none N) ∙ append-nil N

  -- a row that is not empty, and is itself when joined with itself
  module _ (one : Row M A) (same : common_row common op one one ≡ one) (some : empty one.matching ≡ false) where
    with_all : (n : ℕ) → common_with common empty op one (replicate n one) ≡ replicate n one
    with_all zero = refl
    with_all (suc n) =
        ap (λ r. kept empty r ++ common_with common empty op one (replicate n one)) same
        ∙ rw some (ap (λ l. one ∷ l) (with_all n))

    pub join_one : (n : ℕ) → join common empty op (kept empty one) (replicate n one) ≡ replicate (n + suc n) one
    join_one n = rw some
        (ap (λ l. l ++ (one ∷ replicate n one)) (append-nil (common_with common empty op one (replicate n one)) ∙ with_all n)
        ∙ replicate-append-replicate n (suc n) one)

module _ {M A O : Type 0} (common : M → M → M) (empty : M → Bool) (joined : O → A → A → A) (one : Row M A) (o : O) where
  module _ (same : common_row common (joined o) one one ≡ one) (some : empty one.matching ≡ false) where
    table_all : (k : ℕ) → table common empty joined o (replicate k one) ≡ replicate (2 ^ k - 1) one
    table_all zero = refl
    table_all (suc k) =
        let count : (2 ^ k - 1) + suc (2 ^ k - 1) ≡ 2 ^ suc k - 1 = omega (arith, two-pow-succ k, suc_ones k) in
        ap (join common empty (joined o) (kept empty one)) (table_all k)
        ∙ join_one common empty (joined o) one same some (2 ^ k - 1)
        ∙ ap (λ n. replicate n one) count

    -- the rows of one node with k such atoms
    pub compile_all : (n : Node O M A) (k : ℕ) → n.inner ≡ o → n.atoms ≡ replicate k one
        → compile common empty joined (node n bare) ≡ replicate (2 ^ k - 1) one
    compile_all n k i x =
        join_none common empty (joined n.parent) (table common empty joined n.inner n.atoms)
        ∙ rw (i, x) (table_all k)
