-- The first place that passes a test, if one does; and an idle atom does not decide in any row. Assumes nothing.
use Rattle.std.proofs.Common.{ℕ, zero, suc, ◌<◌, arith, ◌≡◌, refl, sym, ap, ◌∙◌, Bool, true, false, not, ◌&&◌, ◌||◌, List, [], ◌∷◌, length, get_or}
use Rattle.std.proofs.Common.{ltb, ltb-true, ◌⊎◌, inl, inr}
use mathlib.Core.Bool.{false≢true}
use Rattle.std.specs.List.{list_any}
use Rattle.logic.proofs.Tests.{by-test, by_le, and_left, and_right}
use Rattle.theory.specs.declared.Row.{Row}
use Rattle.theory.specs.Number.{FirstPlace, has}
use Rattle.theory.proofs.Where.{has-where}
use Rattle.flow.specs.declared.Match.{Match}
use Rattle.action.specs.declared.Action.{Action}
use Rattle.policy.specs.declared.Layout.{Layout}
use Rattle.idle.specs.Idle.{decides, idle_of}

-- some place is the first that passes, or none passes
abbrev pub FirstOrNone : (ℕ → Bool) → ℕ → Type 0
FirstOrNone test n = ((i : ℕ) × FirstPlace test n i) ⊎ ((i : ℕ) → i < n → test i ≡ false)

pub first-or-none : (test : ℕ → Bool) (n : ℕ) → FirstOrNone test n
first-or-none test zero = inr (λ i h. absurd (omega arith))
first-or-none test (suc n) = one-more (first-or-none test n)
  where
    one-more : FirstOrNone test n → FirstOrNone test (suc n)
    one-more (inl (i, first)) = inl (i, record { within = omega (arith, first.within); passes = first.passes; skips = first.skips })
    one-more (inr none) =
        by-test (test n)
        (λ t. inl (n, record { within = omega arith; passes = t; skips = none }))
        (λ t. inr (λ i h. by_le n i (λ g. let same : i ≡ n = omega arith in ap test same ∙ t) (λ g. none i g)))

-- what no member passes, the member at a place does not
pub none-at : {X : Type 0} (test : X → Bool) (d : X) (xs : List X) → list_any test xs ≡ false → (i : ℕ) → i < length xs → test (get_or xs i d) ≡ false
none-at test d [] e i h = absurd (omega arith)
none-at test d (x ∷ xs) e zero h =
    by-test (test x) (λ t. absurd (false≢true (sym e ∙ ap (λ (b : Bool). b || list_any test xs) t))) (λ t. t)
none-at test d (x ∷ xs) e (suc i) h =
    by-test (test x)
    (λ t. absurd (false≢true (sym e ∙ ap (λ (b : Bool). b || list_any test xs) t)))
    (λ t. none-at test d xs (sym (ap (λ (b : Bool). b || list_any test xs) t) ∙ e) i (omega arith))

-- a test that is not passed
not_true : (b : Bool) → not b ≡ true → b ≡ false
not_true true e = absurd (false≢true e)
not_true false e = refl

-- AN IDLE ATOM is one of the file's, and does not decide
module _ (f : List ℕ) (l : Layout) (rows : List (Row Match Action)) (j : ℕ) (idle : has j (idle_of f l rows) ≡ true) where
  idle-both : (ltb j l.atoms && not (decides f l rows j)) ≡ true
  idle-both = sym (has-where (λ k. not (decides f l rows k)) l.atoms j) ∙ idle

  pub idle-within : j < l.atoms
  idle-within = ltb-true j l.atoms (and_left (ltb j l.atoms) (not (decides f l rows j)) idle-both)

  pub idle-quiet : decides f l rows j ≡ false
  idle-quiet = not_true (decides f l rows j) (and_right (ltb j l.atoms) (not (decides f l rows j)) idle-both)
