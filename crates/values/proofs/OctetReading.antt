-- What the loop over an octet reads is what stands before the first dot, and three of them make the front of an address.
use Rattle.std.proofs.Common.{◌≡◌, ℕ, ◌+◌, ◌-◌, ◌*◌, ◌/◌, ◌%◌, ◌^◌, ◌<◌, ◌≤◌, Bool, true, false, List, [], ◌∷◌, ◌++◌, length, Option, Some, None, Err, refl, sym, ap, ◌∙◌, append_assoc, arith}
use Rattle.std.specs.Prelude.{if◌then◌else◌, ◌==◌, nat_le}
use Rattle.std.specs.Fmt.{decimal}
use Rattle.std.proofs.lemmas.Bool.{eqb-true, leb-true, le-leb, lt-ltb}
use Rattle.std.proofs.lemmas.Fmt.{digits_value-decimal}
use Rattle.values.specs.Numbers.{is_digit, all_digits, value_from, leads_by_zero, number_of}
use Rattle.values.specs.Prefixes.{dot, slash, before, behind, holds, address_value, octet_of, address_of, length_of, prefix_from, prefix_of}
use Rattle.values.specs.Prefixes.{begins_octet, octet_from, octet_then, next, three_octets}
use Rattle.values.specs.declared.prefixes.NoPrefix.TheVariants.{NotOne}
use Rattle.values.proofs.Digits.{value-grows}
use Rattle.values.proofs.NumberLaw.{own, both, decimal-digits, decimal-long, decimal-no_lead, number-written}
use Rattle.values.proofs.AddressLaw.{spelled, holds-append, before-first, behind-first, octet-read, decimal-no_dot, decimal-no_slash, address-written}

-- ---- one octet

-- a digit is no dot
digit-no_dot : (b : ℕ) → is_digit b ≡ true → (b == dot) ≡ false
digit-no_dot b e =
    elim (b == dot) as (λ d. (b == dot) ≡ d → d ≡ false) [
      | true ↦ λ h. absurd (let k : is_digit b ≡ is_digit dot = ap is_digit (eqb-true b dot h) in let j : true ≡ false = sym e ∙ k in cc)
      | false ↦ λ h. refl
    ] refl

-- digits and a dot behind them are read
from-read : (n : ℕ) (u r : List ℕ) → all_digits u ≡ true → value_from n u ≤ 255 → octet_from n (u ++ (dot ∷ r)) ≡ Some (value_from n u, r)
unfolding octet_from
from-read n [] r e h = refl
from-read n (b ∷ u) r e h =
    let k = both (is_digit b) (all_digits u) e in
    let low : 10 * n + (b - 48) ≤ 255 = omega (arith, value-grows (10 * n + (b - 48)) u) in
    rw (digit-no_dot b k.0, k.0, le-leb (10 * n + (b - 48)) 255 low) (from-read (10 * n + (b - 48)) u r k.1 h)

-- digits without a zero before them, and a dot, begin by an octet
begins-read : (u r : List ℕ) → all_digits u ≡ true → 0 < length u → leads_by_zero u ≡ false → begins_octet (u ++ (dot ∷ r)) ≡ true
begins-read [] r e long plain = absurd (omega arith)
begins-read (b ∷ []) r e long plain =
    let k = both (is_digit b) true e in
    rw (digit-no_dot b k.0) (elim (b == 48) as (λ d. (if d then true else true) ≡ true) [ true ↦ refl | false ↦ refl ])
begins-read (b ∷ c ∷ u) r e long plain =
    let k = both (is_digit b) (all_digits (c ∷ u)) e in
    rw (digit-no_dot b k.0, plain) refl

-- an octet that is written is read
pub then-read : (n : ℕ) (r : List ℕ) → n < 256 → octet_then (decimal n ++ (dot ∷ r)) ≡ Some (n, r)
unfolding octet_then
then-read n r low =
    let value : value_from 0 (decimal n) ≡ n = digits_value-decimal own n (omega arith) in
    let first = begins-read (decimal n) r (decimal-digits n (omega arith)) (decimal-long n (omega arith)) (decimal-no_lead n (omega arith)) in
    let rest = from-read 0 (decimal n) r (decimal-digits n (omega arith)) (omega (arith, value)) in
    rw (first, rest, value) refl

-- digits up to a dot that are read
record From (n : ℕ) (w : List ℕ) (m : ℕ) (r : List ℕ) : Type 0 where
  digits : List ℕ
  text : w ≡ digits ++ (dot ∷ r)
  right : all_digits digits ≡ true
  value : value_from n digits ≡ m
  low : m ≤ 255

-- two values that are there are the same
some-is : (x y : ℕ × List ℕ) → Some x ≡ Some y → x ≡ y
some-is x y e = cc

-- and their parts
pair-is : (x y : ℕ × List ℕ) → Some x ≡ Some y → (x.0 ≡ y.0) × (x.1 ≡ y.1)
pair-is x y e = (ap (λ (p : ℕ × List ℕ). p.0) (some-is x y e), ap (λ (p : ℕ × List ℕ). p.1) (some-is x y e))

-- what is read up to a dot is written so
from-written : (n : ℕ) (w : List ℕ) (m : ℕ) (r : List ℕ) → n ≤ 255 → octet_from n w ≡ Some (m, r) → From n w m r
unfolding octet_from
from-written n [] m r low e = absurd cc
from-written n (b ∷ w) m r low e =
    elim (b == dot) as (λ d. (b == dot) ≡ d
    → (if d then Some (n, w) else (if is_digit b then (if nat_le (10 * n + (b - 48)) 255 then octet_from (10 * n + (b - 48)) w else None) else None))
    ≡ Some (m, r)
    → From n (b ∷ w) m r) [
      | true ↦ λ h g.
          let same = pair-is (n, w) (m, r) g in
          let value = same.0 in
          record {
            digits = [];
            text = ap (λ (x : ℕ). x ∷ w) (eqb-true b dot h) ∙ ap (λ (x : List ℕ). dot ∷ x) same.1;
            right = refl;
            value = value;
            low = omega (arith, value);
          }
      | false ↦ λ h. elim (is_digit b) as (λ d. is_digit b ≡ d
          → (if d then (if nat_le (10 * n + (b - 48)) 255 then octet_from (10 * n + (b - 48)) w else None) else None) ≡ Some (m, r) → From n (b ∷ w) m r) [
            | false ↦ λ k g. absurd cc
            | true ↦ λ k. elim (nat_le (10 * n + (b - 48)) 255) as (λ d. nat_le (10 * n + (b - 48)) 255 ≡ d
                → (if d then octet_from (10 * n + (b - 48)) w else None) ≡ Some (m, r) → From n (b ∷ w) m r) [
                  | false ↦ λ j g. absurd cc
                  | true ↦ λ j g.
                      let f = from-written (10 * n + (b - 48)) w m r (leb-true _ _ j) g in
                      record { digits = b ∷ f.digits; text = ap (λ (x : List ℕ). b ∷ x) f.text; right = rw (k, f.right) refl; value = f.value; low = f.low }
                ] refl
          ] refl
    ] refl e

-- a word that begins by an octet has digits without a zero before them
begins-written : (u r : List ℕ) → all_digits u ≡ true → begins_octet (u ++ (dot ∷ r)) ≡ true → (0 < length u) × (leads_by_zero u ≡ false)
begins-written [] [] e h = absurd cc
begins-written [] (c ∷ r) e h = absurd cc
begins-written (b ∷ []) r e h = (omega arith, refl)
begins-written (b ∷ c ∷ u) r e h =
    let k = both (is_digit b) (all_digits (c ∷ u)) e in
    let j = both (is_digit c) (all_digits u) k.1 in
    let g = rw (digit-no_dot b k.0, digit-no_dot c j.0) at h in
    (omega arith, elim (b == 48) as (λ d. (if d then false else true) ≡ true → d ≡ false) [ true ↦ λ q. absurd cc | false ↦ λ q. refl ] g)

-- the number of digits with no zero before them
by_parts : (u : List ℕ) → 0 < length u → all_digits u ≡ true → leads_by_zero u ≡ false → value_from 0 u < 2 ^ 32 → number_of u ≡ Some (value_from 0 u)
unfolding number_of
by_parts u long right plain low = rw (lt-ltb 0 (length u) long, right, plain, lt-ltb (value_from 0 u) (2 ^ 32) low) refl

-- what is read behind a test
tested : (b : Bool) (o : Option (ℕ × List ℕ)) (x : ℕ × List ℕ) → (if b then o else None) ≡ Some x → (b ≡ true) × (o ≡ Some x)
tested true o x e = (refl, e)
tested false o x e = absurd cc

-- an octet that is read is written
pub then-written : (w : List ℕ) (m : ℕ) (r : List ℕ) → octet_then w ≡ Some (m, r) → (m < 256) × (w ≡ decimal m ++ (dot ∷ r))
unfolding octet_then
then-written w m r e =
    let t = tested (begins_octet w) (octet_from 0 w) (m, r) e in
    let f = from-written 0 w m r (omega arith) t.1 in
    let g = begins-written f.digits r f.right (ap begins_octet (sym f.text) ∙ t.0) in
    let low = f.low in
    let value = f.value in
    let n = by_parts f.digits g.0 f.right g.1 (omega (arith, value, low)) ∙ ap (λ (k : ℕ). Some k) value in
    (omega (arith, low), f.text ∙ ap (λ (u : List ℕ). u ++ (dot ∷ r)) (number-written f.digits m n).1)

-- ---- three of them

-- a word that begins by three octets and their dots
record Three (w : List ℕ) (n : ℕ) (r : List ℕ) : Type 0 where
  a : ℕ
  b : ℕ
  c : ℕ
  fit : (a < 256) × (b < 256) × (c < 256)
  text : w ≡ decimal a ++ (dot ∷ (decimal b ++ (dot ∷ (decimal c ++ (dot ∷ r)))))
  value : 16777216 * a + 65536 * b + 256 * c ≡ n

-- two steps of a reading
record Next (o : Option (ℕ × List ℕ)) (f : ℕ → List ℕ → Option (ℕ × List ℕ)) (x : ℕ × List ℕ) : Type 0 where
  n : ℕ
  r : List ℕ
  is : o ≡ Some (n, r)
  rest : f n r ≡ Some x

-- a reading that succeeds is two steps that do
next-some : (o : Option (ℕ × List ℕ)) (f : ℕ → List ℕ → Option (ℕ × List ℕ)) (x : ℕ × List ℕ) → next o f ≡ Some x → Next o f x
next-some None f x e = absurd cc
next-some (Some y) f x e = record { n = y.0; r = y.1; is = refl; rest = e }

-- three octets that are read are written so
three-written : (w : List ℕ) (n : ℕ) (r : List ℕ) → three_octets w ≡ Some (n, r) → Three w n r
unfolding three_octets
three-written w n r e =
    let x = next-some (octet_then w)
    (λ a r. next (octet_then r) (λ b s. next (octet_then s) (λ c t. Some (16777216 * a + 65536 * b + 256 * c, t)))) (n, r) e in
    let y = next-some (octet_then x.r) (λ b s. next (octet_then s) (λ c t. Some (16777216 * x.n + 65536 * b + 256 * c, t))) (n, r) x.rest in
    let z = next-some (octet_then y.r) (λ c t. Some (16777216 * x.n + 65536 * y.n + 256 * c, t)) (n, r) y.rest in
    let same = pair-is (16777216 * x.n + 65536 * y.n + 256 * z.n, z.r) (n, r) z.rest in
    let a = then-written w x.n x.r x.is in
    let b = then-written x.r y.n y.r y.is in
    let c = then-written y.r z.n z.r z.is in
    record {
      a = x.n;
      b = y.n;
      c = z.n;
      fit = (a.0, b.0, c.0);
      text = a.1 ∙ ap (λ (t : List ℕ). decimal x.n ++ (dot ∷ t))
          (b.1 ∙ ap (λ (t : List ℕ). decimal y.n ++ (dot ∷ t)) (c.1 ∙ ap (λ (t : List ℕ). decimal z.n ++ (dot ∷ t)) same.1));
      value = same.0;
    }

-- three octets that are written are read
three-read : (a b c : ℕ) (r : List ℕ) → a < 256 → b < 256 → c < 256
    → three_octets (decimal a ++ (dot ∷ (decimal b ++ (dot ∷ (decimal c ++ (dot ∷ r)))))) ≡ Some (16777216 * a + 65536 * b + 256 * c, r)
unfolding three_octets
three-read a b c r ha hb hc =
    rw (then-read a (decimal b ++ (dot ∷ (decimal c ++ (dot ∷ r)))) ha, then-read b (decimal c ++ (dot ∷ r)) hb, then-read c r hc) refl

-- ---- the word of a prefix

-- a part without the byte, and then another
skip-before : (c : ℕ) (u v : List ℕ) → holds c u ≡ false → before c (u ++ v) ≡ u ++ before c v
skip-before c [] v h = refl
skip-before c (b ∷ u) v h =
    elim (b == c) as (λ d. (if d then true else holds c u) ≡ false → (if d then [] else (b ∷ before c (u ++ v))) ≡ (b ∷ (u ++ before c v))) [
      | true ↦ λ k. absurd cc
      | false ↦ λ k. ap (λ (t : List ℕ). b ∷ t) (skip-before c u v k)
    ] h

-- the same of what stands behind
skip-behind : (c : ℕ) (u v : List ℕ) → holds c u ≡ false → behind c (u ++ v) ≡ behind c v
skip-behind c [] v h = refl
skip-behind c (b ∷ u) v h =
    elim (b == c) as (λ d. (if d then true else holds c u) ≡ false → (if d then (u ++ v) else behind c (u ++ v)) ≡ behind c v) [
      | true ↦ λ k. absurd cc
      | false ↦ λ k. skip-behind c u v k
    ] h

-- the same of whether it stands there
skip-holds : (c : ℕ) (u v : List ℕ) → holds c u ≡ false → holds c (u ++ v) ≡ holds c v
skip-holds c [] v h = refl
skip-holds c (b ∷ u) v h =
    elim (b == c) as (λ d. (if d then true else holds c u) ≡ false → (if d then true else holds c (u ++ v)) ≡ holds c v) [
      | true ↦ λ k. absurd cc
      | false ↦ λ k. skip-holds c u v k
    ] h

-- the value of an address of which the first three octets are known
abbrev pub ended : ℕ → Option ℕ → Option ℕ
ended n None = None
ended n (Some d) = Some (n + d)

-- a word begins by what stands before a byte
begun : (c : ℕ) (w : List ℕ) → (s : List ℕ) × (w ≡ before c w ++ s)
begun c [] = ([], refl)
begun c (b ∷ w) =
    elim (b == c) as (λ d. (s : List ℕ) × ((b ∷ w) ≡ (if d then [] else (b ∷ before c w)) ++ s)) [
      | true ↦ (b ∷ w, refl)
      | false ↦ let h = begun c w in (h.0, ap (λ (t : List ℕ). b ∷ t) h.1)
    ]

-- brackets, where something stands behind the last octet
moved : (a b c d s : List ℕ) → (a ++ (dot ∷ (b ++ (dot ∷ (c ++ (dot ∷ d)))))) ++ s ≡ a ++ (dot ∷ (b ++ (dot ∷ (c ++ (dot ∷ (d ++ s))))))
moved a b c d s = simp append_assoc

-- where three octets are not read there is no address
no-address : (w : List ℕ) (n : ℕ) → three_octets w ≡ None → address_of (before slash w) ≡ Some n → ⊥
no-address w n none e =
    let x = n / 16777216 % 256 in
    let y = n / 65536 % 256 in
    let z = n / 256 % 256 in
    let t = n % 256 in
    let s = begun slash w in
    let text : w ≡ (decimal x ++ (dot ∷ (decimal y ++ (dot ∷ (decimal z ++ (dot ∷ decimal t)))))) ++ s.0 =
    s.1 ∙ ap (λ (v : List ℕ). v ++ s.0) ((address-written (before slash w) n e).1 ∙ sym (spelled (decimal x) (decimal y) (decimal z) (decimal t))) in
    let long : w ≡ decimal x ++ (dot ∷ (decimal y ++ (dot ∷ (decimal z ++ (dot ∷ (decimal t ++ s.0)))))) =
    text ∙ moved (decimal x) (decimal y) (decimal z) (decimal t) s.0 in
    let read = ap three_octets long ∙ three-read x y z (decimal t ++ s.0) (omega arith) (omega arith) (omega arith) in
    let clash = sym none ∙ read in
    cc

-- and no prefix
pub none-read : (w : List ℕ) → three_octets w ≡ None → Err NotOne ≡ prefix_of w
unfolding prefix_of
none-read w none =
    elim (address_of (before slash w)) as (λ o. address_of (before slash w) ≡ o → Err NotOne ≡ prefix_from o (length_of w)) [
      | None ↦ λ h. refl
      | Some n ↦ λ h. absurd (no-address w n none h)
    ] refl

-- three octets with their dots
abbrev front : ℕ → ℕ → ℕ → List ℕ
front a b c = decimal a ++ (dot ∷ (decimal b ++ (dot ∷ (decimal c ++ (dot ∷ [])))))

-- brackets, where something stands behind the third dot
regrouped : (a b c q : List ℕ) → (a ++ (dot ∷ (b ++ (dot ∷ (c ++ (dot ∷ [])))))) ++ q ≡ a ++ (dot ∷ (b ++ (dot ∷ (c ++ (dot ∷ q)))))
regrouped a b c q = simp append_assoc

-- they hold no slash
front-no_slash : (a b c : ℕ) → a < 256 → b < 256 → c < 256 → holds slash (front a b c) ≡ false
front-no_slash a b c ha hb hc =
    holds-append slash (decimal a) (dot ∷ (decimal b ++ (dot ∷ (decimal c ++ (dot ∷ []))))) (decimal-no_slash a (omega arith))
    (holds-append slash (decimal b) (dot ∷ (decimal c ++ (dot ∷ []))) (decimal-no_slash b (omega arith))
    (holds-append slash (decimal c) (dot ∷ []) (decimal-no_slash c (omega arith)) refl))

-- the address of four octets, the first three added up
summed : (a b c : ℕ) (o : Option ℕ) → address_value (Some a) (Some b) (Some c) o ≡ ended (16777216 * a + 65536 * b + 256 * c) o
summed a b c None = refl
summed a b c (Some d) = refl

-- three octets and what stands behind them
front-address : (a b c : ℕ) (q : List ℕ) → a < 256 → b < 256 → c < 256
    → address_of (front a b c ++ q) ≡ ended (16777216 * a + 65536 * b + 256 * c) (octet_of q)
unfolding address_of
front-address a b c q ha hb hc =
    let t3 = decimal c ++ (dot ∷ q) in
    let t2 = decimal b ++ (dot ∷ t3) in
    let t1 = decimal a ++ (dot ∷ t2) in
    let na = decimal-no_dot a (omega arith) in
    let nb = decimal-no_dot b (omega arith) in
    let nc = decimal-no_dot c (omega arith) in
    let go : address_of t1 ≡ address_value (Some a) (Some b) (Some c) (octet_of q) =
    rw (
      behind-first dot (decimal a) t2 na,
      behind-first dot (decimal b) t3 nb,
      behind-first dot (decimal c) q nc,
      before-first dot (decimal a) t2 na,
      before-first dot (decimal b) t3 nb,
      before-first dot (decimal c) q nc,
      octet-read a ha,
      octet-read b hb,
      octet-read c hc,
    ) refl in
    ap address_of (regrouped (decimal a) (decimal b) (decimal c) q) ∙ go ∙ summed a b c (octet_of q)

-- the last octet and the length behind the three octets make the prefix
pub some-read : (w : List ℕ) (n : ℕ) (r : List ℕ) (d l : Option ℕ) → three_octets w ≡ Some (n, r) → d ≡ octet_of (before slash r) → l ≡ length_of r
    → prefix_from (ended n d) l ≡ prefix_of w
unfolding prefix_of
some-read w n r d l e ed el =
    let h = three-written w n r e in
    let u = front h.a h.b h.c in
    let none = front-no_slash h.a h.b h.c h.fit.0 h.fit.1 h.fit.2 in
    let text : w ≡ u ++ r = h.text ∙ sym (regrouped (decimal h.a) (decimal h.b) (decimal h.c) r) in
    let first : before slash w ≡ u ++ before slash r = ap (before slash) text ∙ skip-before slash u r none in
    let address : address_of (before slash w) ≡ ended n d =
    ap address_of first ∙ front-address h.a h.b h.c (before slash r) h.fit.0 h.fit.1 h.fit.2 ∙ ap (λ (k : ℕ). ended k (octet_of (before slash r))) h.value
    ∙ ap (ended n) (sym ed) in
    let there : holds slash w ≡ holds slash r = ap (holds slash) text ∙ skip-holds slash u r none in
    let second : behind slash w ≡ behind slash r = ap (behind slash) text ∙ skip-behind slash u r none in
    let long : length_of w ≡ l = rw (there, second) (sym el) in
    rw (address, long) refl
