-- What `map` of an array gives: each entry's image, where its closure answers with the image and stays as it was; by recursion on the calls.
use Prim.Native.Nat.{ℕ, zero, suc, ◌+◌, ◌≤◌, ◌<◌}
use native.Mathlib.Omega.{arith}
use mathlib.Core.Path.{◌≡◌, refl, sym, ap₂, subst, ◌∙◌}
use mathlib.Core.List.{List, [], ◌∷◌, map}
use lib.ListN.{length, get_or}
use denote.Param.Members.{Mut}
use Rattle.std.specs.Fn.{Called}
use Rattle.std.specs.Array.{MapsFrom, IsMapOf}
use Rattle.logic.proofs.Tests.{by_le}

-- lists that are as long, and are images place by place
images : {A B : Type 0} (v : A → B) (xs : List A) (ys : List B) → length ys ≡ length xs
    → ((i : ℕ) → i < length xs → (d : A) (e : B) → get_or ys i e ≡ v (get_or xs i d)) → ys ≡ map v xs
images v [] [] l f = refl
images v [] (y ∷ ys) l f = absurd (omega (arith, l))
images v (x ∷ xs) [] l f = absurd (omega (arith, l))
images v (x ∷ xs) (y ∷ ys) l f =
    ap₂ (λ z (zs : List _). z ∷ zs) (f 0 (omega arith) x y) (images v xs ys (omega (arith, l)) (λ i h. f (suc i) (omega (arith, h))))

-- what such calls give, from a place on
calls : {F A B : Type 0} (g : Mut F (A × Unit {0}) B) (f : F) (v : A → B) → ((x : A) (w : B) (q : F) → Called g f (x, tt) w q → (q ≡ f) × (w ≡ v x))
    → (xs : List A) (ys : List B) (i n : ℕ) → MapsFrom g f xs ys i n
    → (k : ℕ) → i ≤ k → k < i + n → (d : A) (e : B) → get_or ys k e ≡ v (get_or xs k d)
calls g f v answers xs ys i zero m k h l d e = absurd (omega (arith, h, l))
calls g f v answers xs ys i (suc n) m k h l d e =
    let (q, x, y, at_x, at_y, call, rest) = m in
    let b = answers x y q call in
    by_le k i
    (λ z. let same : k ≡ i = omega (arith, z, h) in rw (same, at_x.1 d, at_y.1 e) b.1)
    (λ z. calls g f v answers xs ys (i + 1) n (subst (λ p. MapsFrom g p xs ys (i + 1) n) b.0 rest) k (omega (arith, z)) (omega (arith, l)) d e)

pub mapped : {F A B : Type 0} {g : Mut F (A × Unit {0}) B} {f : F} {xs : List A} {ys : List B} {n : ℕ} (v : A → B)
    → IsMapOf g f xs ys n → length xs ≡ n
    → ((x : A) (w : B) (q : F) → Called g f (x, tt) w q → (q ≡ f) × (w ≡ v x)) → ys ≡ map v xs
mapped {g = g} {f = f} {xs = xs} {ys = ys} {n = n} v m l answers =
    images v xs ys (m.long ∙ sym l) (λ i h d e. calls g f v answers xs ys 0 n m.each i (omega arith) (omega (arith, h, l)) d e)
