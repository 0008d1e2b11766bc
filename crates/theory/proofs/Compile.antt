-- Theorem 1: by induction over trees and forests, Lemma 1 at every join. No law of an operator is used but that don't care is its identity.
use Rattle.std.proofs.Common.{◌≡◌, refl, Bool, cond, List, [], ◌∷◌}
use Rattle.logic.proofs.Tests.{by-test}
use Rattle.theory.specs.declared.Row.{Row}
use Rattle.theory.specs.Rows.{scan, kept}
use Rattle.theory.specs.Tree.{Forest, node, bare, ◌▸◌, Node, own, evals, table, compiles}
use Rattle.theory.specs.Theorems.{Laws, ScanCompile, NodeChain}
use Rattle.theory.proofs.Join.{scan-join}

module _ {M P A O : Type 0} {meets : M → P → Bool} {dont_care : A} {joined : O → A → A → A} {common : M → M → M} {empty : M → Bool} where
  pub scan-kept : Laws meets dont_care joined common empty → (x : Row M A) (p : P)
      → scan meets dont_care (kept empty x) p ≡ cond (meets x.matching p) x.action dont_care
  scan-kept laws x p = by-test (empty x.matching) (λ t. rw (t, laws.meets_empty x.matching p t)) (λ t. rw t)

  -- A node's own table gives its own action.
  pub scan-table : Laws meets dont_care joined common empty → (i : O) (xs : List (Row M A)) (p : P)
      → scan meets dont_care (table common empty joined i xs) p ≡ own meets dont_care joined i xs p
  scan-table laws i [] p = refl
  scan-table laws i (x ∷ xs) p =
      rw (scan-join laws, scan-kept laws x p, scan-table laws i xs p)
      (by-test (meets x.matching p) (λ t. rw t) (λ t. rw t (laws.identity_left i (own meets dont_care joined i xs p))))

  mutual
    pub scan-compile : ScanCompile meets dont_care joined common empty
    scan-compile laws (node n ts) p = simp (scan-join laws, scan-table laws, scan-compiles laws ts n.sibling p)

    pub scan-compiles : Laws meets dont_care joined common empty → (ts : Forest (Node O M A)) (s : O) (p : P)
        → scan meets dont_care (compiles common empty joined ts s) p ≡ evals meets dont_care joined ts s p
    scan-compiles laws bare s p = refl
    scan-compiles laws (t ▸ ts) s p = simp (scan-join laws, scan-compile laws t p, scan-compiles laws ts s p)

  pub node-chain : NodeChain meets dont_care joined common empty
  node-chain laws a b c p = rw (scan-compile laws) (simp laws.identity_right)
