-- What stands before the first of a byte, and behind it, by its place.
use Rattle.std.proofs.Common.{◌≡◌, ℕ, zero, suc, ◌<◌, true, false, List, [], ◌∷◌, length, get_or, take, drop, refl, ap, ◌∙◌, arith, inl, inr}
use Rattle.std.specs.Prelude.{if◌then◌else◌, ◌==◌, nat_lt}
use Rattle.std.proofs.lemmas.Bool.{ne_eqb, eq-eqb, cases_lt, lt-ltb, le-ltb}
use Rattle.values.specs.Prefixes.{slash, before, behind, holds, length_behind, length_of}

-- the byte stands nowhere before a place
abbrev pub Past : List ℕ → ℕ → ℕ → Type 0
Past w c n = (k : ℕ) → k < n → get_or w k 0 ≡ c → ⊥

-- behind the first byte, a place less
past-rest : (b : ℕ) (w : List ℕ) (c n : ℕ) → Past (b ∷ w) c (suc n) → Past w c n
past-rest b w c n h k lt e = h (suc k) (omega arith) e

-- before the place where it stands first
pub before-at : (w : List ℕ) (c n : ℕ) → Past w c n → n < length w → get_or w n 0 ≡ c → take n w ≡ before c w
before-at [] c n h lt e = absurd (omega arith)
before-at (b ∷ w) c zero h lt e = rw (eq-eqb b c e) refl
before-at (b ∷ w) c (suc n) h lt e =
    rw (ne_eqb b c (h 0 (omega arith))) (ap (λ (t : List ℕ). b ∷ t) (before-at w c n (past-rest b w c n h) (omega arith) e))

-- behind the place where it stands first
pub behind-at : (w : List ℕ) (c n : ℕ) → Past w c n → n < length w → get_or w n 0 ≡ c → drop (suc n) w ≡ behind c w
behind-at [] c n h lt e = absurd (omega arith)
behind-at (b ∷ w) c zero h lt e = rw (eq-eqb b c e) refl
behind-at (b ∷ w) c (suc n) h lt e =
    rw (ne_eqb b c (h 0 (omega arith))) (behind-at w c n (past-rest b w c n h) (omega arith) e)

-- all stands before it where it does not stand
pub before-all : (w : List ℕ) (c : ℕ) → Past w c (length w) → w ≡ before c w
before-all [] c h = refl
before-all (b ∷ w) c h = rw (ne_eqb b c (h 0 (omega arith))) (ap (λ (t : List ℕ). b ∷ t) (before-all w c (past-rest b w c (length w) h)))

-- and nothing behind it
pub behind-none : (w : List ℕ) (c : ℕ) → Past w c (length w) → [] ≡ behind c w
behind-none [] c h = refl
behind-none (b ∷ w) c h = rw (ne_eqb b c (h 0 (omega arith))) (behind-none w c (past-rest b w c (length w) h))

-- one more on both sides
ltb-suc : (a b : ℕ) → nat_lt (suc a) (suc b) ≡ nat_lt a b
ltb-suc a b =
    elim (cases_lt a b) [
      | inl lt ↦ rw (lt-ltb a b lt, lt-ltb (suc a) (suc b) (omega arith)) refl
      | inr le ↦ rw (le-ltb a b le, le-ltb (suc a) (suc b) (omega arith)) refl
    ]

-- it stands there if less stands before it than there is
pub holds-by_length : (w : List ℕ) (c : ℕ) → nat_lt (length (before c w)) (length w) ≡ holds c w
holds-by_length [] c = refl
holds-by_length (b ∷ w) c =
    elim (b == c) as (λ d. nat_lt (length (if d then [] else (b ∷ before c w))) (suc (length w)) ≡ (if d then true else holds c w)) [
      | true ↦ lt-ltb 0 (suc (length w)) (omega arith)
      | false ↦ ltb-suc (length (before c w)) (length w) ∙ holds-by_length w c
    ]

-- the length that is written behind the part before the slash
pub length-as : (w first second : List ℕ) → first ≡ before slash w → second ≡ behind slash w
    → length_behind (nat_lt (length first) (length w)) second ≡ length_of w
length-as w first second e1 e2 = rw (e1, e2, holds-by_length w slash) refl
