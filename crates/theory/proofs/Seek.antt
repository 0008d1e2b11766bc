-- What the search for a place finds: where some place passes the test, the first that does; by induction over the places left.
use Rattle.std.proofs.Common.{ℕ, zero, suc, ◌+◌, ◌≤◌, ◌<◌, arith, ◌≡◌, Bool, true, false}
use Rattle.logic.proofs.Tests.{by-test, by_le}
use Rattle.theory.specs.Number.{FirstPlace, seek}

-- Place k passes the test, from `at` on and no later than w.
pub record Sought (test : ℕ → Bool) (at w k : ℕ) : Type 0 where
  pub passes : test k ≡ true
  pub from : at ≤ k
  pub up_to : k ≤ w

-- Where place w passes, the search stops at one that passes, no later than w.
pub seek_finds : (test : ℕ → Bool) (n at w : ℕ) → at ≤ w → w < at + n → test w ≡ true → Sought test at w (seek test n at)
seek_finds test zero at w h k e = absurd (omega arith)
seek_finds test (suc n) at w h k e =
    by-test (test at)
    (λ t. rw t (record { passes = t; from = omega arith; up_to = h }))
    (λ t.
    let later : at ≡ w → ⊥ = λ q. (let z : ◌≡◌ {A = ℕ} 0 1 = cc in omega arith) in
    let r : Sought test (suc at) w (seek test n (suc at)) = seek_finds test n (suc at) w (omega arith) (omega arith) e in
    rw t (record { passes = r.passes; from = omega arith; up_to = r.up_to }))

-- Every place that the search went past fails the test.
pub seek-skips : (test : ℕ → Bool) (n at j : ℕ) → at ≤ j → j < seek test n at → test j ≡ false
seek-skips test zero at j h k = absurd (omega arith)
seek-skips test (suc n) at j h k =
    by-test (test at)
    (λ t. let k' : j < at = rw t at k in absurd (omega arith))
    (λ t. let k' : j < seek test n (suc at) = rw t at k in
    by_le j at (λ l. let q : j ≡ at = omega arith in rw q t) (λ l. seek-skips test n (suc at) j l k'))

-- Some place below n passes the test.
pub record Passing (test : ℕ → Bool) (n : ℕ) : Type 0 where
  pub place : ℕ
  pub within : place < n
  pub passes : test place ≡ true

pub passing-more : {test : ℕ → Bool} {n : ℕ} → Passing test n → Passing test (suc n)
passing-more w = record { place = w.place; within = omega (arith, w.within); passes = w.passes }

-- The search finds the first place that passes, where some place does.
pub seek-first : (test : ℕ → Bool) (n : ℕ) → Passing test n → FirstPlace test n (seek test n 0)
seek-first test n w =
    let s : Sought test 0 w.place (seek test n 0) = seek_finds test n 0 w.place (omega arith) (omega (arith, w.within)) w.passes in
    record { within = omega (arith, s.up_to, w.within); passes = s.passes; skips = λ j h. seek-skips test n 0 j (omega arith) h }
