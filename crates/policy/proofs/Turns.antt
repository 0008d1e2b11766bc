-- One turn of the shape test. Assumes nothing.
use Rattle.std.proofs.Common.{ℕ, zero, suc, ◌+◌, ◌-◌, ◌≤◌, ◌<◌, pred, arith, add-one, ◌≡◌, sym, ap, ◌∙◌, Bool, true, false, not, cond, ◌&&◌, List, [], ◌∷◌}
use Rattle.std.proofs.Common.{◌++◌, reverse, length, leb, ne_eqb, le-leb, Err, Option, Some, None, is_some}
use borrow.Author.Tests.{lt-leb}
use Rattle.std.proofs.lemmas.List.{reverse-append, length-reverse}
use Rattle.refusal.specs.Refusals.{refusal_at}
use Rattle.policy.specs.Sections.{Test, unless}
use Rattle.policy.specs.declared.nodes.Node.{Node}
use Rattle.policy.proofs.NodeWords.{counts}
use Rattle.policy.specs.Whole.{waiting_nodes, shape, Innermost}
use Rattle.refusal.specs.declared.Reason.TheVariants.{NoTree}

-- what is pushed is on top
pub pushed : (xs ys : List ℕ) (x : ℕ) → ys ≡ xs ++ (x ∷ []) → reverse ys ≡ x ∷ reverse xs
pushed xs ys x e = ap reverse e ∙ reverse-append xs (x ∷ [])

-- the one on top waits, or it has all its children
pub on_top : (st r : List ℕ) (n : ℕ) → st ≡ n ∷ r → 0 < n → waiting_nodes st ≡ n ∷ r
on_top st r zero e p = absurd (omega arith)
on_top st r (suc n) e p = ap waiting_nodes e

module _ (ys : List Node) (i : ℕ) (old new : List ℕ) (v : Test) (inv : shape (counts ys) (reverse old) i ≡ v) where
  -- the node x is next, and those behind it
  module _ (x : Node) (xs : List Node) (e : ys ≡ x ∷ xs) where
    -- the tree had ended
    pub ended : Innermost old new None → Err (refusal_at NoTree i) ≡ v
    ended h = sym (sym inv ∙ rw (e, h))

    module _ (n : ℕ) (h : Innermost old new (Some n)) where
      turn : v
          ≡ cond (leb 1 (suc (length (reverse new))) && leb (suc (length (reverse new))) 16)
          (shape (counts xs) (x.children ∷ pred n ∷ reverse new) (suc i)) (Err (refusal_at NoTree i))
      turn = sym inv ∙ rw (e, h.1)

      -- it is too deep here
      pub deep : 16 ≤ length new → Err (refusal_at NoTree i) ≡ v
      deep g =
          let l = length-reverse new in
          sym (turn ∙ rw (le-leb 1 (suc (length (reverse new))) (omega arith), lt-leb (suc (length (reverse new))) 16 (omega arith)))

      pub on : (one two : List ℕ) → length new < 16 → one ≡ new ++ ((n - 1) ∷ []) → two ≡ one ++ (x.children ∷ [])
          → shape (counts xs) (reverse two) (i + 1) ≡ v
      on one two g p q =
          let l = length-reverse new in
          let m : n - 1 ≡ pred n = omega arith in
          rw (add-one i, pushed one two x.children q, pushed new one (n - 1) p, m)
          (sym (turn ∙ rw (le-leb 1 (suc (length (reverse new))) (omega arith), le-leb (suc (length (reverse new))) 16 (omega arith))))

  pub finished : (found : Option ℕ) (t : Bool) → is_some found ≡ not t → ys ≡ [] → Innermost old new found → unless t NoTree i ≡ v
  finished None true s e h = let g : shape [] (reverse old) i ≡ v = rw e at inv in rw h at g
  finished None false s e h = cc
  finished (Some n) true s e h = cc
  finished (Some n) false s e h =
      let g : shape [] (reverse old) i ≡ v = rw e at inv in
      rw (h.1, ne_eqb (suc (length (reverse new))) 0 (λ q. omega arith)) at g
