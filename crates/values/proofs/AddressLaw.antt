-- An address is read exactly where one is written.
use Rattle.std.proofs.Common.{◌≡◌, ℕ, ◌+◌, ◌*◌, ◌/◌, ◌%◌, ◌^◌, ◌<◌, ◌≤◌, true, false, List, [], ◌∷◌, ◌++◌, Option, Some, None, refl, sym, ap, subst, ◌∙◌, append_assoc, arith}
use Rattle.std.specs.Prelude.{if◌then◌else◌, ◌==◌, nat_le, codes}
use Rattle.std.specs.Fmt.{decimal}
use Rattle.std.specs.Net.Text.{dotted_text}
use Rattle.std.proofs.lemmas.Bool.{eq-eqb, eqb-true, leb-true, le-leb}
use Rattle.values.specs.Numbers.{is_digit, all_digits, number_of, up_to}
use Rattle.values.specs.Prefixes.{dot, slash, before, behind, holds, address_value, octet_of, address_of}
use Rattle.values.specs.Grammar.{address_text}
use Rattle.values.proofs.NumberLaw.{both, chosen, number-written, number-read, decimal-digits}

-- ---- what stands on both sides of a byte

-- where the byte stands, the two sides and it make the word
pub sides : (c : ℕ) (w : List ℕ) → holds c w ≡ true → w ≡ before c w ++ (c ∷ behind c w)
sides c [] h = absurd cc
sides c (b ∷ w) h =
    elim (b == c) as (λ d. (b == c) ≡ d → (if d then true else holds c w) ≡ true
    → (b ∷ w) ≡ (if d then [] else (b ∷ before c w)) ++ (c ∷ (if d then w else behind c w))) [
      | true ↦ λ e g. ap (λ (x : ℕ). x ∷ w) (eqb-true b c e)
      | false ↦ λ e g. ap (λ (t : List ℕ). b ∷ t) (sides c w g)
    ] refl h

-- where it does not, all stands before it
pub all-before : (c : ℕ) (w : List ℕ) → holds c w ≡ false → before c w ≡ w
all-before c [] h = refl
all-before c (b ∷ w) h =
    elim (b == c) as (λ d. (if d then true else holds c w) ≡ false → (if d then [] else (b ∷ before c w)) ≡ (b ∷ w)) [
      | true ↦ λ g. absurd cc
      | false ↦ λ g. ap (λ (t : List ℕ). b ∷ t) (all-before c w g)
    ] h

-- and nothing behind it
pub none-behind : (c : ℕ) (w : List ℕ) → holds c w ≡ false → behind c w ≡ []
none-behind c [] h = refl
none-behind c (b ∷ w) h =
    elim (b == c) as (λ d. (if d then true else holds c w) ≡ false → (if d then w else behind c w) ≡ []) [
      | true ↦ λ g. absurd cc
      | false ↦ λ g. none-behind c w g
    ] h

-- a byte that stands in no part stands not in the whole
pub holds-append : (c : ℕ) (u v : List ℕ) → holds c u ≡ false → holds c v ≡ false → holds c (u ++ v) ≡ false
holds-append c [] v h g = g
holds-append c (b ∷ u) v h g =
    elim (b == c) as (λ d. (if d then true else holds c u) ≡ false → (if d then true else holds c (u ++ v)) ≡ false) [
      | true ↦ λ k. k
      | false ↦ λ k. holds-append c u v k g
    ] h

-- the first of a byte behind a part that has none
pub before-first : (c : ℕ) (u v : List ℕ) → holds c u ≡ false → before c (u ++ (c ∷ v)) ≡ u
before-first c [] v h = rw (eq-eqb c c refl) refl
before-first c (b ∷ u) v h =
    elim (b == c) as (λ d. (if d then true else holds c u) ≡ false → (if d then [] else (b ∷ before c (u ++ (c ∷ v)))) ≡ (b ∷ u)) [
      | true ↦ λ k. absurd cc
      | false ↦ λ k. ap (λ (t : List ℕ). b ∷ t) (before-first c u v k)
    ] h

-- and what stands behind it
pub behind-first : (c : ℕ) (u v : List ℕ) → holds c u ≡ false → behind c (u ++ (c ∷ v)) ≡ v
behind-first c [] v h = rw (eq-eqb c c refl) refl
behind-first c (b ∷ u) v h =
    elim (b == c) as (λ d. (if d then true else holds c u) ≡ false → (if d then u ++ (c ∷ v) else behind c (u ++ (c ∷ v))) ≡ v) [
      | true ↦ λ k. absurd cc
      | false ↦ λ k. behind-first c u v k
    ] h

-- where a byte stands between two parts, it is held
pub holds-first : (c : ℕ) (u v : List ℕ) → holds c (u ++ (c ∷ v)) ≡ true
holds-first c [] v = rw (eq-eqb c c refl) refl
holds-first c (b ∷ u) v =
    elim (b == c) as (λ d. (if d then true else holds c (u ++ (c ∷ v))) ≡ true) [
      | true ↦ refl
      | false ↦ holds-first c u v
    ]

-- digits hold no other byte
pub digits-hold_none : (c : ℕ) (w : List ℕ) → is_digit c ≡ false → all_digits w ≡ true → holds c w ≡ false
digits-hold_none c [] other h = refl
digits-hold_none c (b ∷ w) other h =
    let parts = both (is_digit b) (all_digits w) h in
    elim (b == c) as (λ d. (b == c) ≡ d → (if d then true else holds c w) ≡ false) [
      | true ↦ λ e. absurd (let same : is_digit b ≡ is_digit c = ap is_digit (eqb-true b c e) in let k : true ≡ false = sym parts.0 ∙ same ∙ other in cc)
      | false ↦ λ e. digits-hold_none c w other parts.1
    ] refl

-- a number holds no dot
pub decimal-no_dot : (n : ℕ) → n < 2 ^ 32 → holds dot (decimal n) ≡ false
decimal-no_dot n low = digits-hold_none dot (decimal n) refl (decimal-digits n low)

-- a number holds no slash
pub decimal-no_slash : (n : ℕ) → n < 2 ^ 32 → holds slash (decimal n) ≡ false
decimal-no_slash n low = digits-hold_none slash (decimal n) refl (decimal-digits n low)

-- ---- octets

-- a number that is no more than a limit
pub limited : (limit : ℕ) (o : Option ℕ) (n : ℕ) → up_to limit o ≡ Some n → (n ≤ limit) × (o ≡ Some n)
limited limit None n e = absurd cc
limited limit (Some m) n e =
    let c = chosen (nat_le m limit) m n e in
    (let h : m ≤ limit = leb-true _ _ c.0 in omega (arith, c.1), ap (λ (k : ℕ). Some k) c.1)

-- a number within its limit stays
pub within : (limit n : ℕ) → n ≤ limit → up_to limit (Some n) ≡ Some n
within limit n h = rw (le-leb n limit h) refl

-- an octet that is read is written so
pub octet-written : (w : List ℕ) (n : ℕ) → octet_of w ≡ Some n → (n < 256) × (w ≡ decimal n)
octet-written w n e =
    let l = limited 255 (number_of w) n e in
    (omega (arith, l.0), (number-written w n l.1).1)

-- an octet that is written is read
pub octet-read : (n : ℕ) → n < 256 → octet_of (decimal n) ≡ Some n
octet-read n low = rw (number-read n (omega arith)) (within 255 n (omega arith))

-- the empty word is no octet
no-octet : octet_of [] ≡ None
unfolding number_of
no-octet = refl

-- where an octet is read before the dot and one behind it, the dot stands there
dot-stands : (w : List ℕ) (n : ℕ) (e : octet_of (before dot (behind dot w)) ≡ Some n) → holds dot w ≡ true
dot-stands w n e =
    elim (holds dot w) as (λ d. holds dot w ≡ d → d ≡ true) [
      | true ↦ λ h. refl
      | false ↦ λ h. absurd (let j = sym no-octet ∙ subst (λ (v : List ℕ). octet_of (before dot v) ≡ Some n) (none-behind dot w h) e in cc)
    ] refl

-- the same where the octet is all that stands behind the dot
last-dot : (w : List ℕ) (n : ℕ) (e : octet_of (behind dot w) ≡ Some n) → holds dot w ≡ true
last-dot w n e =
    elim (holds dot w) as (λ d. holds dot w ≡ d → d ≡ true) [
      | true ↦ λ h. refl
      | false ↦ λ h. absurd (let j = sym no-octet ∙ subst (λ (v : List ℕ). octet_of v ≡ Some n) (none-behind dot w h) e in cc)
    ] refl

-- the four octets of an address that is read
record Octets (o p q r : Option ℕ) (n : ℕ) : Type 0 where
  a : ℕ
  b : ℕ
  c : ℕ
  d : ℕ
  first : o ≡ Some a
  second : p ≡ Some b
  third : q ≡ Some c
  fourth : r ≡ Some d
  value : 16777216 * a + 65536 * b + 256 * c + d ≡ n

-- an address that is read has four octets
octets : (o p q r : Option ℕ) (n : ℕ) → address_value o p q r ≡ Some n → Octets o p q r n
octets (Some a) (Some b) (Some c) (Some d) n e = record { a = a; b = b; c = c; d = d; first = refl; second = refl; third = refl; fourth = refl; value = cc }
octets None p q r n e = absurd cc
octets (Some a) None q r n e = absurd cc
octets (Some a) (Some b) None r n e = absurd cc
octets (Some a) (Some b) (Some c) None n e = absurd cc

-- the octets of a number
high : (a b c d : ℕ) → a < 256 → b < 256 → c < 256 → d < 256 → (16777216 * a + 65536 * b + 256 * c + d) / 16777216 % 256 ≡ a
high a b c d ha hb hc hd = omega arith

-- the second octet
middle : (a b c d : ℕ) → a < 256 → b < 256 → c < 256 → d < 256 → (16777216 * a + 65536 * b + 256 * c + d) / 65536 % 256 ≡ b
middle a b c d ha hb hc hd = omega arith

-- the third octet
low : (a b c d : ℕ) → a < 256 → b < 256 → c < 256 → d < 256 → (16777216 * a + 65536 * b + 256 * c + d) / 256 % 256 ≡ c
low a b c d ha hb hc hd = omega arith

-- the fourth octet
lowest : (a b c d : ℕ) → a < 256 → b < 256 → c < 256 → d < 256 → (16777216 * a + 65536 * b + 256 * c + d) % 256 ≡ d
lowest a b c d ha hb hc hd = omega arith

-- a number is made of its octets
together : (n : ℕ) → n < 2 ^ 32 → 16777216 * (n / 16777216 % 256) + 65536 * (n / 65536 % 256) + 256 * (n / 256 % 256) + n % 256 ≡ n
together n h = omega arith

-- the text of four octets
pub spelled : (a b c d : List ℕ) → a ++ (dot ∷ (b ++ (dot ∷ (c ++ (dot ∷ d))))) ≡ a ++ codes "." ++ b ++ codes "." ++ c ++ codes "." ++ d
spelled a b c d = simp append_assoc

-- an address that is read is written so
pub address-written : (w : List ℕ) (n : ℕ) → address_of w ≡ Some n → (n < 2 ^ 32) × (w ≡ address_text n)
unfolding address_of
address-written w n e =
    let v = behind dot w in
    let u = behind dot v in
    let o = octets (octet_of (before dot w)) (octet_of (before dot v)) (octet_of (before dot u)) (octet_of (behind dot u)) n e in
    let a = octet-written (before dot w) o.a o.first in
    let b = octet-written (before dot v) o.b o.second in
    let c = octet-written (before dot u) o.c o.third in
    let d = octet-written (behind dot u) o.d o.fourth in
    let s1 = sides dot w (dot-stands w o.b o.second) in
    let s2 = sides dot v (dot-stands v o.c o.third) in
    let s3 = sides dot u (last-dot u o.d o.fourth) in
    let t3 : u ≡ decimal o.c ++ (dot ∷ decimal o.d) =
    s3 ∙ ap (λ (x : List ℕ). x ++ (dot ∷ behind dot u)) c.1 ∙ ap (λ (x : List ℕ). decimal o.c ++ (dot ∷ x)) d.1 in
    let t2 : v ≡ decimal o.b ++ (dot ∷ (decimal o.c ++ (dot ∷ decimal o.d))) =
    s2 ∙ ap (λ (x : List ℕ). x ++ (dot ∷ u)) b.1 ∙ ap (λ (x : List ℕ). decimal o.b ++ (dot ∷ x)) t3 in
    let t1 : w ≡ decimal o.a ++ (dot ∷ (decimal o.b ++ (dot ∷ (decimal o.c ++ (dot ∷ decimal o.d))))) =
    s1 ∙ ap (λ (x : List ℕ). x ++ (dot ∷ v)) a.1 ∙ ap (λ (x : List ℕ). decimal o.a ++ (dot ∷ x)) t2 in
    let text : w ≡ dotted_text o.a o.b o.c o.d = t1 ∙ spelled (decimal o.a) (decimal o.b) (decimal o.c) (decimal o.d) in
    let m = 16777216 * o.a + 65536 * o.b + 256 * o.c + o.d in
    let same : address_text m ≡ dotted_text o.a o.b o.c o.d =
    rw (
      high o.a o.b o.c o.d a.0 b.0 c.0 d.0,
      middle o.a o.b o.c o.d a.0 b.0 c.0 d.0,
      low o.a o.b o.c o.d a.0 b.0 c.0 d.0,
      lowest o.a o.b o.c o.d a.0 b.0 c.0 d.0,
    ) refl in
    (omega (arith, o.value, a.0, b.0, c.0, d.0), text ∙ sym same ∙ ap address_text o.value)

-- an address that is written is read
dotted-read : (a b c d : ℕ) → a < 256 → b < 256 → c < 256 → d < 256 → address_of (dotted_text a b c d) ≡ Some (16777216 * a + 65536 * b + 256 * c + d)
unfolding address_of
dotted-read a b c d ha hb hc hd =
    let t3 = decimal c ++ (dot ∷ decimal d) in
    let t2 = decimal b ++ (dot ∷ t3) in
    let t1 = decimal a ++ (dot ∷ t2) in
    let na = decimal-no_dot a (omega arith) in
    let nb = decimal-no_dot b (omega arith) in
    let nc = decimal-no_dot c (omega arith) in
    let go : address_of t1 ≡ Some (16777216 * a + 65536 * b + 256 * c + d) =
    rw (
      behind-first dot (decimal a) t2 na,
      behind-first dot (decimal b) t3 nb,
      behind-first dot (decimal c) (decimal d) nc,
      before-first dot (decimal a) t2 na,
      before-first dot (decimal b) t3 nb,
      before-first dot (decimal c) (decimal d) nc,
      octet-read a ha,
      octet-read b hb,
      octet-read c hc,
      octet-read d hd,
    ) refl in
    ap address_of (sym (spelled (decimal a) (decimal b) (decimal c) (decimal d))) ∙ go

-- an address that is written is read
pub address-read : (n : ℕ) → n < 2 ^ 32 → address_of (address_text n) ≡ Some n
address-read n h =
    dotted-read (n / 16777216 % 256) (n / 65536 % 256) (n / 256 % 256) (n % 256) (omega arith) (omega arith) (omega arith) (omega arith)
    ∙ ap (λ (k : ℕ). Some k) (together n h)

-- what four parts with dots between them hold
four-hold_none : (a b c d : List ℕ) → holds slash a ≡ false → holds slash b ≡ false → holds slash c ≡ false → holds slash d ≡ false
    → holds slash (a ++ codes "." ++ b ++ codes "." ++ c ++ codes "." ++ d) ≡ false
four-hold_none a b c d ha hb hc hd =
    let ad = holds-append slash a (codes ".") ha refl in
    let ab = holds-append slash (a ++ codes ".") b ad hb in
    let bd = holds-append slash (a ++ codes "." ++ b) (codes ".") ab refl in
    let bc = holds-append slash (a ++ codes "." ++ b ++ codes ".") c bd hc in
    let cd = holds-append slash (a ++ codes "." ++ b ++ codes "." ++ c) (codes ".") bc refl in
    holds-append slash (a ++ codes "." ++ b ++ codes "." ++ c ++ codes ".") d cd hd

-- the text of an address holds no slash
pub address-no_slash : (n : ℕ) → holds slash (address_text n) ≡ false
address-no_slash n =
    four-hold_none (decimal (n / 16777216 % 256)) (decimal (n / 65536 % 256)) (decimal (n / 256 % 256)) (decimal (n % 256))
    (decimal-no_slash (n / 16777216 % 256) (omega arith)) (decimal-no_slash (n / 65536 % 256) (omega arith)) (decimal-no_slash (n / 256 % 256) (omega arith))
    (decimal-no_slash (n % 256) (omega arith))
