-- The prefix test by bit counts: each sentence from the law on the first bit in which two numbers differ, or by
-- computation. Assumes nothing.
use Rattle.std.proofs.Common.{ℕ, suc, ◌-◌, ◌/◌, ◌^◌, ◌≤◌, ◌<◌, min, ◌≡◌, refl, sym, ap, ◌∙◌, true, ◌↔◌, arith, div-one, leb, bit_xor, eqb-true, eq-eqb}
use Rattle.std.proofs.Common.{leb-true, leb-false, le-leb}
use lib.Count.{count_leading_zeros}
use Rattle.std.proofs.lemmas.Nat.{leading_le}
use Rattle.logic.proofs.Tests.{by-test}
use Rattle.field.specs.Prefix.{leading, in_prefix}
use Rattle.field.proofs.Prefixes.{leading-fewer, zeros-test, in_both, meet-exactly, covers-exactly}
use Rattle.promises.specs.Prefixes.{FirstDifference, SamePromise, prefix_cases, PrefixTest}
use Rattle.promises.specs.Cases.{Hold}

-- the test is whether the first n bits agree
holds : (w p n x : ℕ) → (in_prefix w p n x ≡ true) ↔ (leading w n p ≡ leading w n x)
unfolding in_prefix
holds w p n x = (eqb-true _ _, eq-eqb _ _)

-- the zeros with which the difference begins end where the two differ first
first-counted : (w p x : ℕ) → p < 2 ^ w → x < 2 ^ w → FirstDifference w p x (count_leading_zeros w (bit_xor p x))
first-counted w p x hp hx = record {
  within = leading_le w (bit_xor p x);
  before = (holds w p k x).0 (sym (zeros-test w p k x hp hx) ∙ le-leb (min k w) k (omega arith));
  next = λ l e.
      let h : min (suc k) w ≤ k = leb-true _ _ (zeros-test w p (suc k) x hp hx ∙ (holds w p (suc k) x).1 e) in
      absurd (omega (arith, h, l));
}
  where
    k : ℕ
    k = count_leading_zeros w (bit_xor p x)

-- a test that asks for that bit fails, and one that does not passes
first-tells : (w p n x k : ℕ) → FirstDifference w p x k → (in_prefix w p n x ≡ true) ↔ (min n w ≤ k)
first-tells w p n x k d = (asks, passes)
  where
    asks : in_prefix w p n x ≡ true → min n w ≤ k
    asks e =
        by-test (leb (min n w) k) (λ t. leb-true _ _ t)
        (λ f. let h : k < min n w = leb-false _ _ f in
        absurd (d.next (omega (arith, h)) (leading-fewer w (suc k) n p x (omega (arith, h)) ((holds w p n x).0 e))))

    passes : min n w ≤ k → in_prefix w p n x ≡ true
    passes h = (holds w p n x).1 (leading-fewer w n k p x h d.before)

-- all its bits make the number
all-bits : (w a : ℕ) → leading w w a ≡ a
all-bits w a = let e : w - w ≡ 0 = omega arith in ap (λ (s : ℕ). a / 2 ^ s) e ∙ div-one a

same-promise : SamePromise
unfolding in_prefix
same-promise = record {
  holds = holds;
  star = λ w p x hp hx. sym (zeros-test w p 0 x hp hx) ∙ le-leb _ _ (omega arith);
  constant = λ w p x. (λ e. sym (all-bits w p) ∙ eqb-true _ _ e ∙ all-bits w x, λ e. eq-eqb _ _ (ap (leading w w) e));
  beyond = λ w p n x h. let e : w - n ≡ w - w = omega (arith, h) in rw e refl;
  both = in_both;
  meet = meet-exactly;
  cover = covers-exactly;
}

prefix-cases : Hold prefix_cases
unfolding in_prefix
prefix-cases = (refl, (refl, (refl, (refl, (refl, (refl, (refl, (refl, (refl, (refl, (refl, (refl, (refl, (refl, tt))))))))))))))

pub prefix_test : PrefixTest
prefix_test = record {
  first = record { tells = first-tells; counted = first-counted };
  same = same-promise;
  cases = prefix-cases;
}
