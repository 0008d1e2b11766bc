-- The pairs of two lists: a search along them by the list whose entries go slowest, and which pairs stand there.
use Prim.Native.Nat.{ℕ}
use mathlib.Core.Path.{◌≡◌, sym, ap, ap₂}
use mathlib.Core.Logic.{⊎_elim}
use mathlib.Core.List.Memᴰ
use mathlib.Core.List.{List, [], ◌∷◌, map}
use Rattle.action.specs.Laws.{◌among◌, along, product, shown, pairs, triples, commutes, associates}
use Rattle.action.specs.Laws.{first_pair, with_second, first_triple, with_pair, with_third}
use Rattle.action.specs.declared.Action.{Action}
use Rattle.action.proofs.Along.{along-product}

-- the search along the pairs, and along the triples, is one along the first actions
pub pairs_by-first : (o : List ℕ) → along (with_second o) shown ≡ first_pair o
unfolding first_pair pairs with_second
pairs_by-first o = sym (along-product (commutes o) shown shown)

pub triples_by-first : (o : List ℕ) → along (with_pair o) shown ≡ first_triple o
unfolding first_triple triples with_pair
triples_by-first o = sym (along-product (associates o) shown pairs)

-- the search along the triples of an action is one along the second actions
pub triples_by-second : (o : List ℕ) (a : Action) → along (with_third o a) shown ≡ with_pair o a
unfolding pairs with_pair with_third
triples_by-second o a = sym (along-product (λ p. associates o (a, p)) shown shown)

-- a pair is among the pairs exactly where its parts are among the two lists
row-among : {X Y : Type 0} (x : X) (p : X × Y) (ys : List Y) → p.0 ≡ x → p.1 among ys → p among map (λ z. (x, z)) ys
row-among x p [] e m = absurd (Memᴰ.not-nil m)
row-among {X} {Y} x p (z ∷ zs) e m =
    ⊎_elim
    (λ f. Memᴰ.head (ap₂ (λ (u : X) (v : Y). (u, v)) e f))
    (λ n. Memᴰ.tail (row-among x p zs e n))
    (Memᴰ.cases_cons m)

pub among-product : {X Y : Type 0} (p : X × Y) (xs : List X) (ys : List Y) → p.0 among xs → p.1 among ys → p among product xs ys
among-product p [] ys m n = absurd (Memᴰ.not-nil m)
among-product p (z ∷ zs) ys m n =
    ⊎_elim
    (λ e. Memᴰ.append_left (product zs ys) (row-among z p ys e n))
    (λ k. Memᴰ.append_right (map (λ v. (z, v)) ys) (among-product p zs ys k n))
    (Memᴰ.cases_cons m)

among-row : {X Y : Type 0} (x : X) (p : X × Y) (ys : List Y) → p among map (λ z. (x, z)) ys → (p.0 ≡ x) × (p.1 among ys)
among-row x p [] m = absurd (Memᴰ.not-nil m)
among-row x p (z ∷ zs) m =
    ⊎_elim
    (λ e. (ap (λ q. q.0) e, Memᴰ.head (ap (λ q. q.1) e)))
    (λ n. let r = among-row x p zs n in (r.0, Memᴰ.tail r.1))
    (Memᴰ.cases_cons m)

pub product-among : {X Y : Type 0} (p : X × Y) (xs : List X) (ys : List Y) → p among product xs ys → (p.0 among xs) × (p.1 among ys)
product-among p [] ys m = absurd (Memᴰ.not-nil m)
product-among p (z ∷ zs) ys m =
    ⊎_elim
    (λ n. let r = among-row z p ys n in (Memᴰ.head r.0, r.1))
    (λ n. let r = product-among p zs ys n in (Memᴰ.tail r.0, r.1))
    (Memᴰ.append_cases (map (λ v. (z, v)) ys) m)
