-- Names that are given once: entries whose names all differ, and where a name stands among them.
use Rattle.std.proofs.Common.{◌≡◌, ℕ, true, false, List, [], ◌∷◌, ◌++◌, Option, Some, None, map, refl, sym, ◌∙◌}
use Rattle.std.specs.Prelude.{if◌then◌else◌, bytes_eq}
use Rattle.std.proofs.lemmas.Slice.Eq.{bytes_eq-Decides}
use Rattle.logic.specs.Lists.{All}
use Rattle.notation.specs.Right.{Distinct}

-- x is none of some
abbrev pub New : {X : Type 0} → X → List X → Type 0
New x ys = All (λ y. ¬ (x ≡ y)) ys

-- all of some have what one behind them has
all-more : {X : Type 0} (T : X → Type 0) (zs : List X) (x : X) → All T zs → T x → All T (zs ++ x ∷ [])
all-more T [] x a b = (b, tt)
all-more T (z ∷ zs) x a b = (a.0, all-more T zs x a.1 b)

-- one of all has it
all-there : {X : Type 0} (T : X → Type 0) (vs zs : List X) (x : X) → All T (vs ++ x ∷ zs) → T x
all-there T [] zs x a = a.0
all-there T (v ∷ vs) zs x a = all-there T vs zs x a.1

-- one more that is new
pub distinct-more : {X : Type 0} (ys : List X) (x : X) → Distinct ys → New x ys → Distinct (ys ++ x ∷ [])
distinct-more [] x d n = (tt, tt)
distinct-more (y ∷ ys) x d n = (all-more (λ z. ¬ (z ≡ y)) ys x d.0 n.0, distinct-more ys x d.1 n.1)

-- one behind others that all differ is new
pub distinct-new : {X : Type 0} (ys zs : List X) (x : X) → Distinct (ys ++ x ∷ zs) → New x ys
distinct-new [] zs x d = tt
distinct-new (y ∷ ys) zs x d = (all-there (λ z. ¬ (z ≡ y)) ys zs x d.0, distinct-new ys zs x d.1)

-- where the first entry of a name stands
abbrev pub place_in : {E : Type 0} → (E → List ℕ) → (E → ℕ) → List ℕ → List E → Option ℕ
place_in name at w [] = None
place_in name at w (e ∷ es) = if bytes_eq (name e) w then Some (at e) else place_in name at w es

-- a name that stands nowhere is new
pub nowhere-new : {E : Type 0} (name : E → List ℕ) (at : E → ℕ) (w : List ℕ) (es : List E) → place_in name at w es ≡ None → New w (map name es)
nowhere-new name at w [] h = tt
nowhere-new name at w (e ∷ es) h =
    elim (bytes_eq (name e) w) as (λ d. bytes_eq (name e) w ≡ d → (if d then Some (at e) else place_in name at w es) ≡ None → New w (map name (e ∷ es))) [
      | true ↦ λ k g. absurd cc
      | false ↦ λ k g. ((λ f. let t = (bytes_eq-Decides (name e) w).1 (sym f) in let u = sym k ∙ t in absurd cc), nowhere-new name at w es g)
    ] refl h

-- a new name stands nowhere
pub new-nowhere : {E : Type 0} (name : E → List ℕ) (at : E → ℕ) (w : List ℕ) (es : List E) → New w (map name es) → place_in name at w es ≡ None
new-nowhere name at w [] h = refl
new-nowhere name at w (e ∷ es) h =
    elim (bytes_eq (name e) w) as (λ d. bytes_eq (name e) w ≡ d → (if d then Some (at e) else place_in name at w es) ≡ None) [
      | true ↦ λ k. absurd (h.0 (sym ((bytes_eq-Decides (name e) w).0 k)))
      | false ↦ λ k. new-nowhere name at w es h.1
    ] refl
