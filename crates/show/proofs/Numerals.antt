-- The digits of a number read back: the last digit is the remainder, those before it are the quotient's. Assumes nothing.
use Rattle.std.proofs.Common.{ℕ, zero, suc, ◌+◌, ◌-◌, ◌*◌, ◌/◌, ◌%◌, ◌≤◌, ◌<◌, arith, ◌≡◌, refl, ◌∙◌, List, [], ◌∷◌, ◌++◌, length, get_or, length-append}
use lib.ListN.{get_or-append}
use Rattle.std.proofs.lemmas.Fmt.{decimal_by_steps_wide}
use Rattle.logic.proofs.Tests.{by_le}
use Rattle.show.specs.Theorems.{reads_on, Decimal, DecimalReads}

-- one digit more
reads_more : (n : ℕ) (ds : List ℕ) (d : ℕ) → reads_on n (ds ++ ((48 + d) ∷ [])) ≡ reads_on n ds * 10 + d
reads_more n [] d = omega arith
reads_more n (c ∷ ds) d = reads_more (n * 10 + (c - 48)) ds d

-- digits with one behind them: the last, and those before it
last-at : (ds : List ℕ) (d i : ℕ) → i < length (ds ++ (d ∷ [])) → length ds ≤ i → get_or (ds ++ (d ∷ [])) i 0 ≡ d
last-at [] d zero h g = refl
last-at [] d (suc i) h g = absurd (omega arith)
last-at (c ∷ ds) d zero h g = absurd (omega arith)
last-at (c ∷ ds) d (suc i) h g = last-at ds d i (omega arith) (omega arith)

-- digits of a number, and the first of them is no zero unless the number is 0
abbrev Spelled : ℕ → List ℕ → Type 0
Spelled n ds = Decimal n ds × (0 < n → 48 < get_or ds 0 0)

one : (n : ℕ) → n < 10 → Spelled n ((48 + n) ∷ [])
one n h = (record { same = omega arith; every = only; first = λ g. absurd (omega arith); some = omega arith }, λ g. omega arith)
  where
    only : (i : ℕ) → i < 1 → (48 ≤ get_or ((48 + n) ∷ []) i 0) × (get_or ((48 + n) ∷ []) i 0 ≤ 57)
    only zero g = (omega arith, omega arith)
    only (suc i) g = absurd (omega arith)

more : (n : ℕ) (ds : List ℕ) → 10 ≤ n → Spelled (n / 10) ds → Spelled n (ds ++ ((48 + n % 10) ∷ []))
more n ds m (i, f) =
    let d : ℕ = 48 + n % 10 in
    let z : get_or (ds ++ (d ∷ [])) 0 0 ≡ get_or ds 0 0 = get_or-append ds (d ∷ []) 0 0 i.some in
    let k : 48 < get_or ds 0 0 = f (omega arith) in (
      record {
        same = reads_more 0 ds (n % 10) ∙ omega (arith, i.same);
        every = λ j g. by_le (suc j) (length ds)
            (λ l. rw (get_or-append ds (d ∷ []) 0 j l) (i.every j l))
            (λ l. rw (last-at ds d j g (omega arith)) (omega arith, omega arith));
        first = λ g. omega arith;
        some = omega (arith, length-append ds (d ∷ []));
      },
      λ g. omega arith,
    )

pub decimal-reads : DecimalReads
decimal-reads n h = (decimal_by_steps_wide Spelled one more n h).0
