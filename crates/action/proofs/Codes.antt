-- What right codes are: over 4 in the ninth cell alone, where both actions are GMBs; by the test of a cell.
use Prim.Native.Nat.{ℕ, zero, suc, ◌≤◌, ◌<◌}
use native.Mathlib.Omega.{arith}
use mathlib.Core.Path.{◌≡◌, refl, sym, ap, ◌∙◌}
use mathlib.Core.Bool.{true, ◌&&◌}
use mathlib.Core.List.{List}
use lib.Dec.{eqb, leb, ltb}
use lib.ListN.{get_or}
use borrow.Author.Tests.{eqb-true, leb-true}
use Rattle.std.proofs.lemmas.List.{get_or_past}
use Rattle.logic.proofs.Tests.{by-test, by_le, and_right}
use Rattle.action.specs.Action.{gmb, kind_of, rate_of, action_of}
use Rattle.action.specs.Operator.{kinds, cell_count, cell, rate_cell, rate_cells, largest_code, largest_rate_code, largest_in, codes, coded, join}
use Rattle.action.specs.Operator.{right_cell, RightCodes}
use Rattle.action.specs.declared.Action.{Action}
use Rattle.action.specs.declared.Action.TheVariants.{DontCare, Allow, Deny, Gmb}
use Rattle.action.proofs.Joined.{join-coded}
use Rattle.action.proofs.Words.{action-of-words}

-- the code that adds, the last of the ninth cell
abbrev pub adding : ℕ
adding = largest_rate_code

-- a plain code, by each of them; and a code for rates
pub by-plain : (P : ℕ → Type 0) → P 0 → P 1 → P 2 → P 3 → P 4 → (c : ℕ) → c ≤ largest_code → P c
by-plain P none allow deny left right zero h = none
by-plain P none allow deny left right (suc zero) h = allow
by-plain P none allow deny left right (suc (suc zero)) h = deny
by-plain P none allow deny left right (suc (suc (suc zero))) h = left
by-plain P none allow deny left right (suc (suc (suc (suc zero)))) h = right
by-plain P none allow deny left right (suc (suc (suc (suc (suc c))))) h = absurd (omega arith)

pub by-rates : (P : ℕ → Type 0) → P 5 → P 6 → P 7 → (c : ℕ) → largest_code < c → c ≤ largest_rate_code → P c
by-rates P larger smaller sum c l h =
    by_le c 5
    (λ k. let e : c ≡ 5 = omega arith in rw e larger)
    (λ k. by_le c 6
    (λ j. let e : c ≡ 6 = omega arith in rw e smaller)
    (λ j. let e : c ≡ 7 = omega arith in rw e sum))

-- any code: one that is unknown gives don't care
pub by-code : (P : ℕ → Type 0) → ((c : ℕ) → c ≤ largest_code → P c) → P 5 → P 6 → P 7 → ((c : ℕ) → largest_rate_code < c → P c) → (c : ℕ) → P c
by-code P plain larger smaller sum unknown c =
    by_le c largest_code (plain c) (λ h.
    by_le c largest_rate_code (by-rates P larger smaller sum c h) (unknown c))

pub unknown-code : (c : ℕ) (a b : Action) → largest_rate_code < c → coded c a b ≡ DontCare
unfolding coded
unknown-code c a b h = get_or_past (codes a b) c DontCare (omega (arith, h))

-- don't care, or another action
pub by-care : {X : Type 0} (a : Action) → (a ≡ DontCare → X) → (¬ (a ≡ DontCare) → X) → X
by-care DontCare f g = f refl
by-care Allow f g = g (λ e. let z : ◌≡◌ {A = ℕ} 0 1 = cc in omega arith)
by-care Deny f g = g (λ e. let z : ◌≡◌ {A = ℕ} 0 1 = cc in omega arith)
by-care (Gmb n) f g = g (λ e. let z : ◌≡◌ {A = ℕ} 0 1 = cc in omega arith)

-- the kinds that have cells
pub has-cell : (a : Action) → ¬ (a ≡ DontCare) → (1 ≤ kind_of a) × (kind_of a ≤ kinds)
has-cell DontCare e = absurd (e refl)
has-cell Allow e = (omega arith, omega arith)
has-cell Deny e = (omega arith, omega arith)
has-cell (Gmb n) e = (omega arith, omega arith)

-- an action of GMB's kind is a GMB
pub rated : (a : Action) → kind_of a ≡ gmb → a ≡ Gmb (rate_of a)
unfolding action_of
rated a e = sym (action-of-words a) ∙ ap (λ k. action_of k (rate_of a)) e

-- a code over the plain ones is right in the ninth cell alone, up to the one that adds
pub rate-code : (i c : ℕ) → right_cell i c ≡ true → largest_code < c → (i ≡ rate_cell) × (c ≤ largest_rate_code)
unfolding right_cell
rate-code i c e h =
    let within : leb c (largest_in rate_cells i) ≡ true = and_right (ltb i cell_count && leb 1 c) _ e in
    by-test (eqb i rate_cell)
    (λ t. (eqb-true i rate_cell t, leb-true c largest_rate_code (rw t at within)))
    (λ t. absurd (omega (arith, leb-true c largest_code (rw t at within))))

module _ (o : List ℕ) (a b : Action) (na : ¬ (a ≡ DontCare)) (nb : ¬ (b ≡ DontCare)) where
  -- where neither is don't care, a cell joins the two
  pub join-cell : join o a b ≡ coded (get_or o (cell a b) 0) a b
  join-cell = sym (join-coded o a b (kind_of a) (kind_of b) refl refl _ na nb refl)

  -- its code is one of the plain ones, or both are GMBs and the cell is the ninth
  pub by-cell : {X : Type 0} → RightCodes o
      → (get_or o (cell a b) 0 ≤ largest_code → X)
      → (a ≡ Gmb (rate_of a) → b ≡ Gmb (rate_of b) → largest_code < get_or o rate_cell 0 → get_or o rate_cell 0 ≤ largest_rate_code → X)
      → X
  by-cell r plain gmbs =
      let k = has-cell a na in
      let l = has-cell b nb in
      by_le (get_or o (cell a b) 0) largest_code plain (λ h.
      let w = rate-code (cell a b) (get_or o (cell a b) 0) (r.1 (cell a b) (omega (arith, k, l))) h in
      let e : cell a b ≡ rate_cell = w.0 in
      let same : get_or o (cell a b) 0 ≡ get_or o rate_cell 0 = ap (λ (i : ℕ). get_or o i 0) e in
      gmbs
      (rated a (omega (arith, e, k, l)))
      (rated b (omega (arith, e, k, l)))
      (omega (arith, same, h))
      (omega (arith, same, w.1)))
