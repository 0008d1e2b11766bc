-- Small numbers, by trying each.
use Rattle.std.proofs.Common.{ℕ, zero, suc, ◌<◌, ◌≡◌, Bool, true, false, sym, ap, ◌∙◌, arith}
use Rattle.std.specs.Prelude.{◌&&◌, ◌==◌}
use Rattle.std.proofs.lemmas.Bool.{eqb-true, eq-eqb}
use Rattle.logic.proofs.Tests.{by-test}
use Rattle.values.proofs.NumberLaw.{both}

-- a test that all numbers below one pass
abbrev pub all_below : (ℕ → Bool) → ℕ → Bool
all_below test zero = true
all_below test (suc n) = test n && all_below test n

-- so each passes it
pub below : (test : ℕ → Bool) (n : ℕ) → all_below test n ≡ true → (k : ℕ) → k < n → test k ≡ true
below test zero e k h = absurd (omega arith)
below test (suc n) e k h =
    let g = both (test n) (all_below test n) e in
    by-test (k == n) (λ same. ap test (eqb-true k n same) ∙ g.0)
    (λ apart. below test n g.1 k (omega (arith, (let m : ¬ (k ≡ n) = λ z. absurd (let y : true ≡ false = sym (eq-eqb k n z) ∙ apart in cc) in m))))
