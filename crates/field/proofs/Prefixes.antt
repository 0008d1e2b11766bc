-- Laws of prefixes, over the width w: numbers that agree in n bits agree in any fewer, and all else follows. Assumes nothing.
use mathlib.Core.Path.{◌≡◌, refl, sym, ap, ◌∙◌, subst}
use mathlib.Core.Bool.{Bool, true, false, cond, ◌&&◌, and_comm}
use Prim.Native.Nat.{ℕ, zero, suc, ◌+◌, ◌-◌, ◌*◌, ◌/◌, ◌%◌, ◌^◌, ◌≤◌, ◌<◌, min}
use native.Mathlib.Omega.{arith}
use native.Mathlib.Nat.{le_of_lt, add-mul-div_right, div-eq_of_lt, div-lt_iff_lt-mul, lt_of_lt_of_le, lt_of_not-le, pow-suc}
use Rattle.std.proofs.Math.Nat.{min-eq_left, min-eq_right}
use lib.Dec.{eqb, leb}
use lib.Pow.{pow_mono, shr-shr, shr_lt, high, pow-add, pow_pos, pow-lt, mod-pow-add}
use lib.Arith.{digits_lt}
use lib.Count.{count_leading_zeros, leading_length, count_trailing_zeros, under}
use lib.Bits.{bit_xor, xor_lt, xor_shr, xor_self, xor_add_and, and_le_l, and_le_r}
use borrow.Author.Tests.{eqb-true, eq-eqb, leb-true, leb-false, le-leb, lt-ltb}
use Rattle.field.specs.Prefix.{leading, in_prefix, zero_beyond, right_prefix, prefixes_meet, covers, longer_address, longer_length}
use Rattle.field.specs.Theorems.{InBoth, SharedAddress, MeetExactly, Contains, CoversExactly}
use Rattle.logic.specs.Tests.{Joins, Keeps}
use Rattle.logic.proofs.Tests.{by-test, and_left, and_right, and_both, and-under, same_test}

-- numbers that agree in n bits agree in any fewer, and numbers that agree in all w bits agree in any number of them
pub leading-fewer : (w m n a b : ℕ) → min m w ≤ n → leading w n a ≡ leading w n b → leading w m a ≡ leading w m b
leading-fewer w m n a b h e =
    let d : ℕ = (w - m) - (w - n) in
    let s : (w - n) + d ≡ w - m = omega arith in
    let less : (x : ℕ) → leading w n x / 2 ^ d ≡ leading w m x = λ x. shr-shr x (w - n) d ∙ ap (λ (k : ℕ). x / 2 ^ k) s in
    sym (less a) ∙ ap (λ (k : ℕ). k / 2 ^ d) e ∙ less b

-- an address lies in its own prefix
pub in-own : (w p n : ℕ) → in_prefix w p n p ≡ true
unfolding in_prefix
in-own w p n = eq-eqb (leading w n p) (leading w n p) refl

-- where x lies in p, m, a prefix that is no longer holds x exactly when it holds p
in-moves : (w p m q n x : ℕ) → n ≤ m → in_prefix w p m x ≡ true → in_prefix w q n x ≡ in_prefix w q n p
unfolding in_prefix
in-moves w p m q n x h e =
    ap (λ (k : ℕ). eqb (leading w n q) k) (sym (leading-fewer w n m p x (omega arith) (eqb-true (leading w m p) (leading w m x) e)))

-- the bits in which two numbers differ are 0 from a place on exactly where the numbers agree from there on
xor-zero : (a b : ℕ) → bit_xor a b ≡ 0 → a ≡ b
xor-zero a b e = omega (arith, e, xor_add_and a b, and_le_l a b, and_le_r a b)

xor-test : (a b s : ℕ) → eqb (bit_xor a b / 2 ^ s) 0 ≡ eqb (a / 2 ^ s) (b / 2 ^ s)
xor-test a b s =
    rw (xor_shr a b s)
    (same_test (eqb (bit_xor (a / 2 ^ s) (b / 2 ^ s)) 0) (eqb (a / 2 ^ s) (b / 2 ^ s))
    (λ e. eq-eqb (a / 2 ^ s) (b / 2 ^ s) (xor-zero (a / 2 ^ s) (b / 2 ^ s) (eqb-true (bit_xor (a / 2 ^ s) (b / 2 ^ s)) 0 e)))
    (λ e. eq-eqb (bit_xor (a / 2 ^ s) (b / 2 ^ s)) 0 (rw (eqb-true (a / 2 ^ s) (b / 2 ^ s) e) (xor_self (b / 2 ^ s)))))

-- a number of w bits begins with n zeros, or with w where n is more, exactly where nothing is left of it by 2 ^ (w - n)
begins-in : (w n a : ℕ) → a < 2 ^ w → min n w ≤ count_leading_zeros w a → a / 2 ^ (w - n) ≡ 0
begins-in w n a h l = let t = leading_length w a h in div-eq_of_lt (lt_of_lt_of_le t.2 (pow_mono (omega (arith, t.1))))

nothing_left : (w n a : ℕ) → a < 2 ^ w → a / 2 ^ (w - n) ≡ 0 → min n w ≤ count_leading_zeros w a
nothing_left w n a h z =
    let t = leading_length w a h in
    let low : a < 1 * 2 ^ (w - n) = (div-lt_iff_lt-mul (pow_pos (w - n))).0 (omega arith) in
    let short : t.0 < suc (w - n) =
    lt_of_not-le (λ (g : suc (w - n) ≤ t.0).
    let more : 2 ^ suc (w - n) ≤ 2 ^ t.0 = pow_mono g in
    omega (arith, more, pow-suc 2 (w - n), t.3, low)) in
    omega (arith, t.1)

-- THE FIRST BIT IN WHICH TWO NUMBERS DIFFER: x lies in p, n exactly where the bits in which they differ begin with n
-- zeros, or with w where n is more
pub zeros-test : (w p n x : ℕ) → p < 2 ^ w → x < 2 ^ w → leb (min n w) (count_leading_zeros w (bit_xor p x)) ≡ in_prefix w p n x
unfolding in_prefix
zeros-test w p n x hp hx =
    let d : bit_xor p x < 2 ^ w = xor_lt w p x hp hx in
    same_test (leb (min n w) (count_leading_zeros w (bit_xor p x))) (eqb (bit_xor p x / 2 ^ (w - n)) 0)
    (λ e. eq-eqb _ _ (begins-in w n (bit_xor p x) d (leb-true _ _ e)))
    (λ e. le-leb _ _ (nothing_left w n (bit_xor p x) d (eqb-true _ _ e)))
    ∙ xor-test p x (w - n)

eqb_swap : (a b : ℕ) → eqb a b ≡ eqb b a
eqb_swap a b = same_test (eqb a b) (eqb b a) (λ e. eq-eqb b a (sym (eqb-true a b e))) (λ e. eq-eqb a b (sym (eqb-true b a e)))

-- at one length, which of two prefixes is held against the other's address does not matter
pub one-test : (w p m q n : ℕ) (t : Bool) → in_prefix w p (cond t m n) q ≡ cond t (in_prefix w p m q) (in_prefix w q n p)
unfolding in_prefix
one-test w p m q n true = refl
one-test w p m q n false = eqb_swap (leading w n p) (leading w n q)

-- the lesser of two lengths is the one that the test picks
pub min-picked : (m n : ℕ) → min m n ≡ cond (leb m n) m n
min-picked m n =
    by-test (leb m n)
    (λ e. let h : m ≤ n = leb-true m n e in rw e (min-eq_left h))
    (λ f. let h : n ≤ m = le_of_lt (leb-false m n f) in rw f (min-eq_right h))

-- AN ADDRESS LIES IN BOTH exactly when the prefixes meet and it lies in the longer
pub in_both : InBoth
unfolding prefixes_meet
in_both w p m q n x = go (leb m n) refl
  where
    go : (t : Bool) → leb m n ≡ t
        → (in_prefix w p m x && in_prefix w q n x) ≡ (cond t (in_prefix w p m q) (in_prefix w q n p) && in_prefix w (cond t q p) (cond t n m) x)
    go true e = and-under (in_prefix w p m x) (in_prefix w p m q) (in_prefix w q n x) (in-moves w q n p m x (leb-true m n e))
    go false e =
        and_comm (in_prefix w p m x) (in_prefix w q n x)
        ∙ and-under (in_prefix w q n x) (in_prefix w q n p) (in_prefix w p m x) (in-moves w p m q n x (le_of_lt (leb-false m n e)))

pub prefix-joins : (w p m q n x : ℕ)
    → Joins (in_prefix w p m x) (in_prefix w q n x) (prefixes_meet w p m q n) (in_prefix w (longer_address p m q n) (longer_length m n) x)
prefix-joins w p m q n x = record { eq = in_both w p m q n x }

-- the longer of two right prefixes is right
pub longer-right : (w p m q n : ℕ) → Keeps (right_prefix w p m) (right_prefix w q n) (right_prefix w (longer_address p m q n) (longer_length m n))
longer-right w p m q n = go (leb m n)
  where
    go : (t : Bool) → Keeps (right_prefix w p m) (right_prefix w q n) (right_prefix w (cond t q p) (cond t n m))
    go true = record { gives = λ h k. k }
    go false = record { gives = λ h k. h }

-- the longer address is one of the two
pub longer-within : (w p m q n : ℕ) → p < 2 ^ w → q < 2 ^ w → longer_address p m q n < 2 ^ w
longer-within w p m q n hp hq = go (leb m n)
  where
    go : (t : Bool) → cond t q p < 2 ^ w
    go true = hq
    go false = hp

-- TWO PREFIXES MEET exactly when some address of w bits lies in both: the longer one's address does
pub meet-exactly : MeetExactly
meet-exactly w p m q n hp hq = (shown, found)
  where
    shown : prefixes_meet w p m q n ≡ true → SharedAddress w p m q n
    shown e =
        let x : ℕ = longer_address p m q n in
        let both : (in_prefix w p m x && in_prefix w q n x) ≡ true = in_both w p m q n x ∙ and_both e (in-own w x (longer_length m n)) in record {
          address = x;
          within = longer-within w p m q n hp hq;
          left = and_left (in_prefix w p m x) (in_prefix w q n x) both;
          right = and_right (in_prefix w p m x) (in_prefix w q n x) both;
        }

    found : SharedAddress w p m q n → prefixes_meet w p m q n ≡ true
    found s =
        and_left (prefixes_meet w p m q n) (in_prefix w (longer_address p m q n) (longer_length m n) s.address)
        (sym (in_both w p m q n s.address) ∙ and_both s.left s.right)

-- an address of q, n with other bits beyond the length
in_block : (w q n r : ℕ) → r < 2 ^ (w - n) → in_prefix w q n (leading w n q * 2 ^ (w - n) + r) ≡ true
unfolding in_prefix
in_block w q n r h = eq-eqb _ _ (sym (high (leading w n q) (w - n) h))

block_within : (w q n r : ℕ) → n ≤ w → q < 2 ^ w → r < 2 ^ (w - n) → leading w n q * 2 ^ (w - n) + r < 2 ^ w
block_within w q n r l hq h =
    let s : n + (w - n) ≡ w = omega arith in
    subst (λ (k : ℕ). leading w n q * 2 ^ (w - n) + r < k) (sym (pow-add 2 n (w - n)) ∙ ap (λ (k : ℕ). 2 ^ k) s)
    (digits_lt (shr_lt n (w - n) (subst (λ (k : ℕ). q < 2 ^ k) (sym s) hq)) h)

-- a prefix holds what one that it covers holds, and covers what that covers
pub covers-in : (w p m q n x : ℕ) → covers w p m q n ≡ true → in_prefix w q n x ≡ true → in_prefix w p m x ≡ true
unfolding covers
covers-in w p m q n x e f =
    in-moves w q n p m x (leb-true m n (and_left (leb m n) (in_prefix w p m q) e)) f
    ∙ and_right (leb m n) (in_prefix w p m q) e

pub covers-trans : (w p m q n r k : ℕ) → covers w p m q n ≡ true → covers w q n r k ≡ true → covers w p m r k ≡ true
unfolding covers
covers-trans w p m q n r k e f =
    let h : m ≤ n = leb-true m n (and_left (leb m n) (in_prefix w p m q) e) in
    let l : n ≤ k = leb-true n k (and_left (leb n k) (in_prefix w q n r) f) in
    and_both (le-leb m k (omega arith)) (covers-in w p m q n r e (and_right (leb n k) (in_prefix w q n r) f))

-- A PREFIX COVERS ANOTHER exactly when it contains it: a longer one misses one of two neighbouring addresses
pub covers-exactly : CoversExactly
unfolding covers in_prefix
covers-exactly w p m q n hm hq = (contains, covered)
  where
    contains : covers w p m q n ≡ true → Contains w p m q n
    contains e x h f = covers-in w p m q n x e f

    base : ℕ
    base = leading w n q * 2 ^ (w - n)

    covered : Contains w p m q n → covers w p m q n ≡ true
    covered f = go (leb m n) refl
      where
        at_block : n < m → (r : ℕ) → r < 2 ^ (w - n) → leading w m p ≡ leading w m (base + r)
        at_block l r h = eqb-true _ _ (f (base + r) (block_within w q n r (omega arith) hq h) (in_block w q n r h))

        go : (t : Bool) → leb m n ≡ t → (t && in_prefix w p m q) ≡ true
        go true e = f q hq (in-own w q n)
        go false e =
            let l : n < m = leb-false m n e in
            let less : 2 ^ (w - m) < 2 ^ (w - n) = pow-lt (omega arith) in
            let one : base + 2 ^ (w - m) ≡ base + 0 + 1 * 2 ^ (w - m) = omega arith in
            let next : leading w m (base + 2 ^ (w - m)) ≡ leading w m (base + 0) + 1 =
            ap (λ (k : ℕ). k / 2 ^ (w - m)) one ∙ add-mul-div_right (base + 0) 1 (pow_pos (w - m)) in
            absurd (omega (arith, next, at_block l 0 (pow_pos (w - n)), at_block l (2 ^ (w - m)) less))

-- a number of k bits ends in j zeros exactly where nothing is left of it by 2 ^ j
half_step : (p j : ℕ) → p % 2 ^ suc j ≡ (p / 2 % 2 ^ j) * 2 + p % 2
half_step p j = let e : suc j ≡ j + 1 = omega arith in ap (λ (k : ℕ). p % 2 ^ k) e ∙ mod-pow-add p j 1

ends-in : (k p j : ℕ) → j ≤ k → j ≤ count_trailing_zeros k p → p % 2 ^ j ≡ 0
unfolding count_trailing_zeros
ends-in k p zero h e = omega arith
ends-in zero p (suc j) h e = absurd (omega arith)
ends-in (suc k) p (suc j) h e = go (p % 2) refl (ends-in k (p / 2) j (omega arith)) e
  where
    go : (d : ℕ) → p % 2 ≡ d → (j ≤ count_trailing_zeros k (p / 2) → p / 2 % 2 ^ j ≡ 0) → suc j ≤ under d (count_trailing_zeros k (p / 2)) → p % 2 ^ suc j ≡ 0
    go zero z ih f = let rest = ih (omega arith) in omega (arith, half_step p j, rest, z)
    go (suc d) z ih f = absurd (omega arith)

as_many : (k p j : ℕ) → j ≤ k → p % 2 ^ j ≡ 0 → j ≤ count_trailing_zeros k p
unfolding count_trailing_zeros
as_many k p zero h e = omega arith
as_many zero p (suc j) h e = absurd (omega arith)
as_many (suc k) p (suc j) h e = go (p % 2) refl (as_many k (p / 2) j (omega arith))
  where
    go : (d : ℕ) → p % 2 ≡ d → (p / 2 % 2 ^ j ≡ 0 → j ≤ count_trailing_zeros k (p / 2)) → suc j ≤ under d (count_trailing_zeros k (p / 2))
    go zero z ih = let rest = ih (omega (arith, half_step p j, e)) in omega arith
    go (suc d) z ih = absurd (omega (arith, half_step p j, e, z))

-- so its bits beyond a length are 0 exactly when it has no more bits than that up to its last 1
zero_test : (w p n : ℕ) → n ≤ w → leb (w - count_trailing_zeros w p) n ≡ eqb (p % 2 ^ (w - n)) 0
zero_test w p n h =
    same_test (leb (w - count_trailing_zeros w p) n) (eqb (p % 2 ^ (w - n)) 0)
    (λ e. let f = leb-true (w - count_trailing_zeros w p) n e in eq-eqb (p % 2 ^ (w - n)) 0 (ends-in w p (w - n) (omega arith) (omega (arith, f, h))))
    (λ e. let f = as_many w p (w - n) (omega arith) (eqb-true (p % 2 ^ (w - n)) 0 e) in le-leb (w - count_trailing_zeros w p) n (omega (arith, f, h)))

pub right-test : (w p n : ℕ) → p < 2 ^ w → (leb (w - count_trailing_zeros w p) n && leb n w) ≡ right_prefix w p n
unfolding right_prefix zero_beyond
right-test w p n h =
    and_comm (leb (w - count_trailing_zeros w p) n) (leb n w)
    ∙ by-test (leb n w)
    (λ e. rw (e, lt-ltb p (2 ^ w) h) (zero_test w p n (leb-true n w e)))
    (λ f. rw (f, lt-ltb p (2 ^ w) h))
