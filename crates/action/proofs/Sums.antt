-- Where the ninth cell adds, joining follows the change of the sums of some of 1, 2 and 4 to the sums of the same of three rates: not at all rates, but
-- where each of 1, 2 and 4 is added once at most, as it is when these stand for three rates.
use Prim.Native.Nat.{ℕ, zero, suc, ◌≤◌}
use native.Mathlib.Omega.{arith}
use mathlib.Core.Path.{◌≡◌, refl, sym, ap, ◌∙◌}
use mathlib.Core.Logic.{◌⊎◌, inl, inr, ⊎_elim}
use mathlib.Core.List.{List}
use lib.ListN.{get_or}
use Rattle.action.specs.Action.{kind_of, rate_of}
use Rattle.action.specs.Operator.{cell, rate_cell, largest_code, added, coded, join, RightCodes}
use Rattle.action.specs.declared.Action.{Action}
use Rattle.action.specs.declared.Action.TheVariants.{Gmb}
use Rattle.action.proofs.Codes.{adding, by-plain, by-care, by-cell, join-cell}
use Rattle.action.proofs.Joined.{identity}
use Rattle.action.proofs.Rates.{Ninth}

-- the sums of some of three rates, which are told by the sum of the same of 1, 2 and 4
abbrev pub sums : ℕ → ℕ → ℕ → ℕ → ℕ
sums a b c zero = 0
sums a b c (suc zero) = a
sums a b c (suc (suc zero)) = b
sums a b c (suc (suc (suc zero))) = added a b
sums a b c (suc (suc (suc (suc zero)))) = c
sums a b c (suc (suc (suc (suc (suc zero))))) = added a c
sums a b c (suc (suc (suc (suc (suc (suc zero)))))) = added b c
sums a b c (suc (suc (suc (suc (suc (suc (suc n))))))) = added a (added b c)

-- the rate of an action, if it is a GMB, is one of some rates
abbrev pub Rated : (ℕ → Type 0) → Action → Type 0
Rated S x = (m : ℕ) → x ≡ Gmb m → S m

-- one rate
abbrev pub At : ℕ → ℕ → Type 0
At k m = m ≡ k

-- the rates of one set and of another, and what one of each come to
abbrev pub Added : (ℕ → Type 0) → (ℕ → Type 0) → ℕ → Type 0
Added S T k = S k ⊎ (T k ⊎ ((m : ℕ) × ((n : ℕ) × (S m × (T n × (k ≡ added m n))))))

module _ (o : List ℕ) (r : RightCodes o) (adds : get_or o rate_cell 0 ≡ adding) where
  -- the rate that an action has as a GMB
  abbrev Is : Action → ℕ → Type 0
  Is a m = a ≡ Gmb m

  plain-made : (c : ℕ) (a b : Action) → c ≤ largest_code → Rated (Added (Is a) (Is b)) (coded c a b)
  unfolding coded
  plain-made c a b h =
      by-plain (λ c. Rated (Added (Is a) (Is b)) (coded c a b))
      (λ k e. let z : ◌≡◌ {A = ℕ} 0 3 = ap kind_of e in absurd (omega arith))
      (λ k e. let z : ◌≡◌ {A = ℕ} 1 3 = ap kind_of e in absurd (omega arith))
      (λ k e. let z : ◌≡◌ {A = ℕ} 2 3 = ap kind_of e in absurd (omega arith))
      (λ k e. inl e)
      (λ k e. inr (inl e))
      c h

  sum-made : (m n k : ℕ) → coded adding (Gmb m) (Gmb n) ≡ Gmb k → k ≡ added m n
  unfolding coded
  sum-made m n k e = sym (ap rate_of e)

  -- a GMB that is made is one of the two, or what they come to
  made : (a b : Action) → Rated (Added (Is a) (Is b)) (join o a b)
  made a b k e =
      by-care a
      (λ p. inr (inl (sym (identity o b).0 ∙ ap (λ (x : Action). join o x b) (sym p) ∙ e)))
      (λ na. by-care b
      (λ q. inl (sym (identity o a).1 ∙ ap (λ (x : Action). join o a x) (sym q) ∙ e))
      (λ nb.
      let d : coded (get_or o (cell a b) 0) a b ≡ Gmb k = sym (join-cell o a b na nb) ∙ e in
      by-cell o a b na nb r
      (λ h. plain-made (get_or o (cell a b) 0) a b h k d)
      (λ p q _ _. inr (inr (rate_of a, (rate_of b, (p, (q, both p q d))))))))
    where
      both : a ≡ Gmb (rate_of a) → b ≡ Gmb (rate_of b) → coded (get_or o (cell a b) 0) a b ≡ Gmb k → k ≡ added (rate_of a) (rate_of b)
      both p q d =
          let d' : coded (get_or o rate_cell 0) (Gmb (rate_of a)) (Gmb (rate_of b)) ≡ Gmb k = rw (p, q) at d in
          sum-made (rate_of a) (rate_of b) k (rw adds at d')

  module _ {S T : ℕ → Type 0} (u v : Action) (p : Rated S u) (q : Rated T v) where
    -- so its rate is one of theirs, or what one of each come to
    pub rated-join : Rated (Added S T) (join o u v)
    rated-join k e =
        ⊎_elim (λ x. inl (p k x))
        (λ y. ⊎_elim (λ x. inr (inl (q k x))) (λ (m, (n, (x, (z, w)))). inr (inr (m, (n, (p m x, (q n z, w)))))) y)
        (made u v k e)

    -- joining follows a change that adding follows at these rates
    pub adding-follows : (f : ℕ → ℕ) → ((m n : ℕ) → S m → T n → added (f m) (f n) ≡ f (added m n)) → Ninth o f u v
    unfolding coded
    adding-follows f h m n d e = rw adds (ap Gmb (h m n (p m d) (q n e)))

-- ADDING FOLLOWS THE SUMS at 1, 2 and 4 and at what they come to, as long as each is added once
module _ (a b c : ℕ) where
  abbrev Follows : ℕ → ℕ → Type 0
  Follows m n = added (sums a b c m) (sums a b c n) ≡ sums a b c (added m n)

  pub one-two : (m n : ℕ) → At 1 m → At 2 n → Follows m n
  one-two m n p q = rw (p, q) refl

  pub two-one : (m n : ℕ) → At 2 m → At 1 n → Follows m n
  two-one m n p q = rw (p, q) (omega arith)

  pub two-four : (m n : ℕ) → At 2 m → At 4 n → Follows m n
  two-four m n p q = rw (p, q) refl

  pub both-four : (m n : ℕ) → Added (At 1) (At 2) m → At 4 n → Follows m n
  both-four m n (inl p) q = rw (p, q) refl
  both-four m n (inr (inl p)) q = rw (p, q) refl
  both-four m n (inr (inr (x, (y, (p, (w, e)))))) q = rw (e, p, w, q) (omega arith)

  pub one-both : (m n : ℕ) → At 1 m → Added (At 2) (At 4) n → Follows m n
  one-both m n p (inl q) = rw (p, q) refl
  one-both m n p (inr (inl q)) = rw (p, q) refl
  one-both m n p (inr (inr (x, (y, (q, (w, e)))))) = rw (p, e, q, w) refl
