-- The operators that nodes use: where one of a name stands, and what one adds that is there from the start.
use Rattle.std.proofs.Common.{◌≡◌, ℕ, suc, ◌<◌, ◌≤◌, Bool, true, false, List, [], ◌∷◌, ◌++◌}
use Rattle.std.proofs.Common.{Option, Some, None, Result, Ok, length, map, refl, sym, ap, subst, ◌∙◌, arith}
use Rattle.std.specs.Prelude.{if◌then◌else◌, nat_lt, bytes_eq, option_map}
use Rattle.std.proofs.lemmas.Bool.{ltb-true}
use Rattle.std.proofs.lemmas.List.{append-nil, length-append, map-append}
use Rattle.std.proofs.lemmas.Slice.Eq.{bytes_eq-Decides}
use Rattle.logic.specs.Lists.{All}
use Rattle.logic.proofs.Lists.{all_append}
use Rattle.policy.specs.Numbers.{most_operators}
use Rattle.values.specs.Words.{is_name}
use Rattle.notation.specs.declared.fault.Fault.{Fault}
use Rattle.notation.specs.declared.fault.Reason.TheVariants.{TooManyOperators}
use Rattle.notation.specs.Reads.{fault_at}
use Rattle.notation.specs.Policy.{OperatorEntry}
use Rattle.notation.specs.Operators.{builtin_of}
use Rattle.notation.specs.Nodes.{operator_index, Used, added, found_or, operator_for}
use Rattle.notation.specs.Right.{Distinct, RightOperator, bare_operator}
use Rattle.notation.specs.Meaning.{added_by}
use Rattle.notation.proofs.Bind.{passed}
use Rattle.notation.proofs.Names.{New, distinct-more}
use Rattle.notation.proofs.OperatorLaws.{builtin-name}
use Rattle.notation.proofs.RightLaws.{operator-right, bare-operator-right}
use Rattle.notation.specs.Grammar as grammar

-- ---- where an operator stands

-- an index that is found is one of the operators
below-case : (c : Bool) (r : Option ℕ) (i n : ℕ) → ((j : ℕ) → r ≡ Some j → j < n) → (if c then Some 0 else option_map suc r) ≡ Some i → i < suc n
below-case true r i n h e = let z : 0 ≡ i = cc in omega (arith, z)
below-case false None i n h e = absurd cc
below-case false (Some j) i n h e = let z : suc j ≡ i = cc in omega (arith, h j refl, z)

-- the index of an operator is below their number
pub index-below : (w : List ℕ) (os : List OperatorEntry) (i : ℕ) → operator_index w os ≡ Some i → i < length os
index-below w [] i e = absurd cc
index-below w (o ∷ os) i e = below-case (bytes_eq o.name w) (operator_index w os) i (length os) (λ j f. index-below w os j f) e

-- it stays where others are put behind
behind-case : (c : Bool) (r s : Option ℕ) (i : ℕ) → ((j : ℕ) → r ≡ Some j → s ≡ Some j) → (if c then Some 0 else option_map suc r) ≡ Some i
    → (if c then Some 0 else option_map suc s) ≡ Some i
behind-case true r s i h e = e
behind-case false None s i h e = absurd cc
behind-case false (Some j) s i h e = ap (option_map suc) (h j refl) ∙ e

-- the index of an operator is the same with others behind
pub index-append : (w : List ℕ) (os more : List OperatorEntry) (i : ℕ) → operator_index w os ≡ Some i → operator_index w (os ++ more) ≡ Some i
index-append w [] more i e = absurd cc
index-append w (o ∷ os) more i e =
    behind-case (bytes_eq o.name w) (operator_index w os) (operator_index w (os ++ more)) i (λ j f. index-append w os more j f) e

-- places don't matter
pub index-bare : (w : List ℕ) (os : List OperatorEntry) → operator_index w (map bare_operator os) ≡ operator_index w os
index-bare w [] = refl
index-bare w (o ∷ os) = rw (index-bare w os) refl

-- a name that is not found is new
new-case : (c : Bool) (r : Option ℕ) → (if c then Some 0 else option_map suc r) ≡ None → (c ≡ false) × (r ≡ None)
new-case true r e = absurd cc
new-case false None e = (refl, refl)
new-case false (Some j) e = absurd cc

-- an operator that is not found has a new name
pub index-new : (w : List ℕ) (os : List OperatorEntry) → operator_index w os ≡ None → New w (map (λ o. o.name) os)
index-new w [] e = tt
index-new w (o ∷ os) e =
    let c = new-case (bytes_eq o.name w) (operator_index w os) e in
    ((λ f. let t = (bytes_eq-Decides o.name w).1 (sym f) in let u = sym c.0 ∙ t in absurd cc), index-new w os c.1)

-- and stands where it is put behind the others
pub index-behind : (o : OperatorEntry) (os more : List OperatorEntry) → operator_index o.name os ≡ None
    → operator_index o.name (os ++ o ∷ more) ≡ Some (length os)
index-behind o [] more e = rw ((bytes_eq-Decides o.name o.name).1 refl) refl
index-behind o (p ∷ os) more e =
    let c = new-case (bytes_eq p.name o.name) (operator_index o.name os) e in
    rw (c.0, index-behind o os more c.1) refl

-- an operator that is found has a name
pub index-name : (w : List ℕ) (os : List OperatorEntry) (i : ℕ) → All RightOperator os → operator_index w os ≡ Some i → is_name w ≡ true
index-name w [] i a e = absurd cc
index-name w (o ∷ os) i a e =
    elim (bytes_eq o.name w) as (λ d. bytes_eq o.name w ≡ d → (if d then Some 0 else option_map suc (operator_index w os)) ≡ Some i → is_name w ≡ true) [
      | true ↦ λ k f. subst (λ (v : List ℕ). is_name v ≡ true) ((bytes_eq-Decides o.name w).0 k) a.0.name
      | false ↦ λ k f. some-name (operator_index w os) (λ j g. index-name w os j a.1 g) f
    ] refl e
  where
    some-name : (r : Option ℕ) → ((j : ℕ) → r ≡ Some j → is_name w ≡ true) → option_map suc r ≡ Some i → is_name w ≡ true
    some-name None h f = absurd cc
    some-name (Some j) h f = h j refl

-- ---- operators so far

-- right operators, of different names, no more than a policy has
pub record RightOperators (os : List OperatorEntry) : Type 0 where
  pub few : length os ≤ most_operators
  pub all : All RightOperator os
  pub names : Distinct (map (λ o. o.name) os)

-- the operator u.index of u.operators is the one of the name w, and these are os with those that the name adds
pub record Uses (os : List OperatorEntry) (w : List ℕ) (u : Used) : Type 0 where
  pub name : is_name w ≡ true
  pub index : operator_index w u.operators ≡ Some u.index
  pub right : RightOperators u.operators
  pub more : List OperatorEntry
  pub grown : os ++ more ≡ u.operators
  pub bare : map bare_operator u.operators ≡ added_by w (map bare_operator os)

-- a value that was read
abbrev done : {X : Type 0} → X → Result X Fault
done x = Ok x

-- what was read fixes the value
done-same : {X : Type 0} (x y : X) → done x ≡ done y → x ≡ y
done-same x y e = cc

-- where it is there
there : (os : List OperatorEntry) (w : List ℕ) (i : ℕ) → RightOperators os → operator_index w os ≡ Some i → Uses os w (record { index = i; operators = os })
there os w i r e = record {
  name = index-name w os i r.all e;
  index = e;
  right = r;
  more = [];
  grown = append-nil os;
  bare = rw (index-bare w os ∙ e) refl;
}

-- where it is put behind the others
behind : (os : List OperatorEntry) (w cells : List ℕ) (place : ℕ) → RightOperators os → operator_index w os ≡ None → builtin_of w ≡ Some cells
    → nat_lt (length os) most_operators ≡ true
    → Uses os w (record { index = length os; operators = os ++ record { name = w; at = place; cells = cells } ∷ [] })
behind os w cells place r e b few =
    let o : OperatorEntry = record { name = w; at = place; cells = cells } in
    let l = ltb-true (length os) most_operators few in
    record {
      name = builtin-name w cells b;
      index = index-behind o os [] e;
      right = record {
        few = omega (arith, l, length-append os (o ∷ []));
        all = all_append RightOperator os (o ∷ []) r.all (bare-operator-right o (operator-right _ _ (grammar.builtin b)), tt);
        names = subst Distinct (sym (map-append (λ x. x.name) os (o ∷ []))) (distinct-more (map (λ x. x.name) os) w r.names (index-new w os e));
      };
      more = o ∷ [];
      grown = refl;
      bare = map-append bare_operator os (o ∷ []) ∙ sym (rw (index-bare w os ∙ e, b) refl);
    }

-- the operator that is found for a name is the one of the name
pub operator-used : (w : List ℕ) (place : ℕ) (os : List OperatorEntry) (u : Used) → RightOperators os → operator_for w place os ≡ Ok u → Uses os w u
unfolding operator_for
operator-used w place os u r g = of-index (operator_index w os) refl g
  where
    of-builtin : (q : Option (List ℕ)) → builtin_of w ≡ q → operator_index w os ≡ None → added w place q os ≡ Ok u → Uses os w u
    of-builtin None b e h = absurd cc
    of-builtin (Some cells) b e h =
        let o : OperatorEntry = record { name = w; at = place; cells = cells } in
        let p = passed (nat_lt (length os) most_operators) (Ok (record { index = length os; operators = os ++ o ∷ [] }))
        (fault_at place TooManyOperators) u h in
        subst (Uses os w) (done-same _ u p.1) (behind os w cells place r e b p.0)

    of-index : (q : Option ℕ) → operator_index w os ≡ q → found_or q w place os ≡ Ok u → Uses os w u
    of-index (Some i) e h = subst (Uses os w) (done-same (record { index = i; operators = os }) u h) (there os w i r e)
    of-index None e h = of-builtin (builtin_of w) refl e h
