-- The laws are kept exactly when every operator that is named keeps them. Assumes nothing.
use Rattle.std.proofs.Common.{ℕ, zero, suc, ◌<◌, arith, ◌≡◌, refl, sym, subst, true, List, [], ◌∷◌, ⊎_elim, eqb, get_or, length, eqb-true, eq-eqb, Ok, Err}
use Rattle.action.specs.Operator.{right_cell, RightCodes, cells_of}
use Rattle.action.specs.Laws.{Searched, law_search}
use Rattle.action.proofs.Cells.{cells-many, cell-word}
use Rattle.action.proofs.Exact.{search-exact}
use Rattle.policy.specs.Numbers.{operator_length_in, operator_length}
use Rattle.policy.specs.Sections.{inner_of, sibling_of}
use Rattle.policy.specs.Whole.{names, named, broken, operator_fault, laws_fault}
use Rattle.policy.specs.Cells.{right_cell_in, operator_row, operator_rows}
use Rattle.policy.specs.Meaning.{operator_at, KeepsLaws, LawsKept}
use Rattle.policy.specs.Due.{RightNode}
use Rattle.policy.specs.declared.Edition.{Edition}
use Rattle.policy.specs.declared.Edition.TheVariants.{First}
use Rattle.policy.proofs.Each.{each-passed, passed-each}
use Rattle.logic.proofs.Tests.{by-test, or_split}

-- a node that names an operator
pub record Naming (i : ℕ) (ns : List (List ℕ)) : Type 0 where
  pub node : ℕ
  pub within : node < length ns
  pub names-it : names i (get_or ns node []) ≡ true

pub naming : (i : ℕ) (ns : List (List ℕ)) → named i ns ≡ true → Naming i ns
naming i [] e = let z : ◌≡◌ {A = ℕ} 0 1 = cc in absurd (omega arith)
naming i (r ∷ ns) e =
    ⊎_elim
    (λ h. record { node = 0; within = omega arith; names-it = h })
    (λ h. let n : Naming i ns = naming i ns h in record { node = suc n.node; within = omega (arith, n.within); names-it = n.names-it })
    (or_split (names i r) (named i ns) e)

pub named_by : (i : ℕ) (ns : List (List ℕ)) (n : ℕ) → n < length ns → names i (get_or ns n []) ≡ true → named i ns ≡ true
named_by i [] n h e = absurd (omega arith)
named_by i (r ∷ ns) zero h e = rw e
named_by i (r ∷ ns) (suc n) h e =
    by-test (names i r) (λ t. rw t) (λ t. rw t (named_by i ns n (omega arith) e))

unbroken : (i : ℕ) (x : Searched) → broken i x ≡ Ok tt → x ≡ Ok tt
unbroken i (Ok u) g = refl
unbroken i (Err f) g = let w : ◌≡◌ {A = ℕ} 0 1 = cc in absurd (omega arith)

-- an operator passes exactly when the search of it, if it is named, finds nothing
pub passed-search : (ns : List (List ℕ)) (i : ℕ) (o : List ℕ) → operator_fault ns i o ≡ Ok tt → named i ns ≡ true → law_search (cells_of o) ≡ Ok tt
unfolding operator_fault
passed-search ns i o e n = unbroken i (law_search (cells_of o)) (rw n at e)

search-passed : (ns : List (List ℕ)) (i : ℕ) (o : List ℕ) → (named i ns ≡ true → law_search (cells_of o) ≡ Ok tt) → operator_fault ns i o ≡ Ok tt
unfolding operator_fault
search-passed ns i o h = by-test (named i ns) (λ t. rw (t, h t)) (λ t. rw t)

-- right cells are right codes
pub right-codes : (r : List ℕ) → ((j : ℕ) → j < operator_length → right_cell j (get_or r j 0) ≡ true) → RightCodes (cells_of r)
right-codes r h = (cells-many r, λ j l. rw (cell-word r j l) (h j l))

-- for each edition
right-codes-in : (e : Edition) (r : List ℕ) → ((j : ℕ) → j < operator_length_in e → right_cell_in e j (get_or r j 0) ≡ true)
    → RightCodes (cells_of (operator_row e r))
right-codes-in First r h = right-codes r h

-- the operators of an edition in their newest form: as many, and one by one
pub operators-many : (e : Edition) (os : List (List ℕ)) → length (operator_rows e os) ≡ length os
operators-many First os = refl

operators-at : (e : Edition) (os : List (List ℕ)) (i : ℕ) → i < length os → get_or (operator_rows e os) i [] ≡ operator_row e (get_or os i [])
operators-at First os i h = refl

-- so they have right codes
pub right-operators : (e : Edition) (os : List (List ℕ)) (a : ℕ) → length os ≡ a
    → ((i j : ℕ) → i < a → j < operator_length_in e → right_cell_in e j (get_or (get_or os i []) j 0) ≡ true) → (i : ℕ) → i < a → RightCodes
    (operator_at (operator_rows e os) i)
right-operators e os a many cells i l =
    subst (λ r. RightCodes (cells_of r)) (sym (operators-at e os i (omega arith))) (right-codes-in e (get_or os i []) (λ j. cells i j l))

-- THE LAWS: the stage is passed exactly when every operator that a node names as inner or sibling keeps them at all allowed rates
module _ (a : ℕ) (os ns : List (List ℕ)) (many : length os ≡ a)
    (codes : (i : ℕ) → i < a → RightCodes (operator_at os i))
    (nodes : (i : ℕ) → i < length ns → RightNode a (get_or ns i [])) where
  pub laws-kept : laws_fault ns os ≡ Ok tt → LawsKept os ns
  unfolding laws_fault
  laws-kept e n h =
      let r : List ℕ = get_or ns n [] in
      let inner : inner_of r < a = (nodes n h).inner in
      let sibling : sibling_of r < a = (nodes n h).sibling in (
        kept (inner_of r) inner (named_by (inner_of r) ns n h (rw (eq-eqb (inner_of r) (inner_of r) refl))),
        kept (sibling_of r) sibling
            (named_by (sibling_of r) ns n h (by-test (eqb (inner_of r) (sibling_of r)) (λ t. rw t) (λ t. rw (t, eq-eqb (sibling_of r) (sibling_of r) refl)))),
      )
    where
      kept : (i : ℕ) → i < a → named i ns ≡ true → KeepsLaws (operator_at os i)
      kept i l t =
          (search-exact (operator_at os i) (codes i l)).0
          (passed-search ns i (get_or os i []) (each-passed [] (operator_fault ns) 1 0 os e i (omega arith) i (omega arith)) t)

  pub kept_laws : LawsKept os ns → laws_fault ns os ≡ Ok tt
  unfolding laws_fault
  kept_laws keeps =
      passed-each [] (operator_fault ns) 1 0 os
      (λ j h p q. let z : p ≡ j = omega arith in rw z (search-passed ns j (get_or os j []) (searched j h)))
    where
      searched : (j : ℕ) → j < length os → named j ns ≡ true → law_search (cells_of (get_or os j [])) ≡ Ok tt
      searched j h t =
          let n : Naming j ns = naming j ns t in
          let r : List ℕ = get_or ns n.node [] in
          let k : KeepsLaws (operator_at os (inner_of r)) × KeepsLaws (operator_at os (sibling_of r)) = keeps n.node n.within in
          let exact : KeepsLaws (operator_at os j) → law_search (operator_at os j) ≡ Ok tt =
          (search-exact (operator_at os j) (codes j (omega arith))).1 in
          ⊎_elim
          (λ e. let q : inner_of r ≡ j = eqb-true (inner_of r) j e in exact (rw (← q) k.0))
          (λ e. let q : sibling_of r ≡ j = eqb-true (sibling_of r) j e in exact (rw (← q) k.1))
          (or_split (eqb (inner_of r) j) (eqb (sibling_of r) j) n.names-it)
