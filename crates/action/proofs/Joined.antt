-- Joining: don't care is the identity, and the code's ways through a join are the definition's; by its tests.
use Prim.Native.Nat.{ℕ, ◌+◌, ◌*◌, ◌-◌, ◌≤◌}
use native.Mathlib.Omega.{arith}
use mathlib.Core.Path.{◌≡◌, refl, sym, ap, ◌∙◌}
use mathlib.Core.Bool.{cond}
use mathlib.Core.List.{List}
use lib.ListN.{get_or}
use borrow.Author.Tests.{ne_eqb}
use Rattle.action.specs.Action.{kind_of, is_dont_care}
use Rattle.action.specs.Operator.{kinds, cells_of, cell, coded, join}
use Rattle.action.specs.Theorems.{Identity}
use Rattle.action.specs.declared.Action.{Action}
use Rattle.action.proofs.Cells.{cell-word}
use Rattle.action.specs.declared.Action.TheVariants.{DontCare, Allow, Deny, Gmb}

-- don't care is the identity, on the left and on the right
pub identity : Identity
unfolding join
identity o a = (refl, right a)
  where
    right : (a : Action) → join o a DontCare ≡ a
    right DontCare = refl
    right Allow = refl
    right Deny = refl
    right (Gmb n) = refl

-- the three ways through `join`
pub join-left-none : (o : List ℕ) (a b : Action) → a ≡ DontCare → b ≡ join o a b
unfolding join
join-left-none o a b e = rw e refl

pub join-right-none : (o : List ℕ) (a b : Action) → b ≡ DontCare → a ≡ join o a b
join-right-none o a b e = rw e (sym (identity o a).1)

without-kind : (a : Action) → kind_of a ≡ 0 → a ≡ DontCare
without-kind DontCare e = refl
without-kind Allow e = absurd (omega (arith, e))
without-kind Deny e = absurd (omega (arith, e))
without-kind (Gmb n) e = absurd (omega (arith, e))

pub join-coded : (o : List ℕ) (a b : Action) (k l : ℕ) → k ≡ kind_of a → l ≡ kind_of b → (r : Action) → ¬ (a ≡ DontCare) → ¬ (b ≡ DontCare)
    → r ≡ coded (get_or o ((k - 1) * kinds + (l - 1)) 0) a b → r ≡ join o a b
unfolding join
join-coded o a b k l p q r s t e =
    rw (← p, ← q, ne_eqb k 0 (λ z. s (without-kind a (sym p ∙ z))), ne_eqb l 0 (λ z. t (without-kind b (sym q ∙ z)))) e

-- only an operator's cells are read, of the words that begin with them
pub join-cells : (ws : List ℕ) (a b : Action) → join (cells_of ws) a b ≡ join ws a b
unfolding join
join-cells ws a b =
    ap (λ n. cond (is_dont_care a) b (cond (is_dont_care b) a (coded n a b))) (cell-word ws (cell a b) (omega (arith, kind-most a, kind-most b)))
  where
    kind-most : (a : Action) → kind_of a ≤ kinds
    kind-most DontCare = omega arith
    kind-most Allow = omega arith
    kind-most Deny = omega arith
    kind-most (Gmb n) = omega arith
