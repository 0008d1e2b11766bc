-- What a reader takes stands for what it gives, and what stands for it is read again: the records in which the laws of
-- readers say so, and the laws of the smallest readers.
--
--   Takes n ts rest Is      some words were taken for which Is holds
--   Gets X n read x more    the reader gives x, and the words more are left
use Rattle.std.proofs.Common.{◌≡◌, ℕ, ◌<◌, ◌≤◌, true, false, List, [], ◌∷◌, Option, Some, None, Ok, length, refl, ap, subst, ◌∙◌, arith}
use Rattle.std.specs.Prelude.{bytes_eq}
use Rattle.std.proofs.lemmas.Slice.Eq.{bytes_eq-Decides}
use Rattle.tokens.specs.Tokens.{Token, word, next, is}
use Rattle.tokens.specs.Theorems.{OneEnd}
use Rattle.values.specs.Numbers.{number_of, up_to}
use Rattle.values.specs.Grammar.{IsNumber}
use Rattle.values.proofs.NumberLaw.{number-exactly}
use Rattle.values.proofs.AddressLaw.{limited, within}
use Rattle.notation.specs.declared.fault.Wanted.{Wanted}
use Rattle.notation.specs.Reads.{Read, some_or, taken}
use Rattle.notation.proofs.Bind.{passed, some-given, given, same-read}
use Rattle.notation.proofs.Took.{Took, took-one, took-word, Left, first, left-first, left-next}

-- some words were taken for which Is holds, and rest is left, with its end at n
pub record Takes (n : ℕ) (ts rest : List Token) (Is : List (List ℕ) → Type 0) : Type 0 where
  pub words : List (List ℕ)
  pub took : Took n ts rest words
  pub is : Is words

-- a reader gives x, and the words more are left, with one end, at n
pub record Gets (X : Type 0) (n : ℕ) (read : Read X) (x : X) (more : List (List ℕ)) : Type 0 where
  pub rest : List Token
  pub gives : read ≡ Ok (x, rest)
  pub left : Left n rest more

-- ---- one word

-- a word that has a value is not empty, where the empty one has none
pub some-long : {X : Type 0} (f : List ℕ → Option X) (w : List ℕ) (x : X) → f [] ≡ None → f w ≡ Some x → 0 < length w
some-long f [] x none e = absurd cc
some-long f (b ∷ w) x none e = omega arith

-- a word that was asked for
pub taken-takes : (n : ℕ) (w : List ℕ) (wanted : Wanted) (ts rest : List Token) → 0 < length w → OneEnd n ts → taken w wanted ts ≡ Ok rest
    → Took n ts rest (w ∷ [])
unfolding taken
taken-takes n w wanted ts rest long e g =
    let p = passed (is w ts) (Ok (next ts)) _ rest g in
    let q = p.1 in
    let s : next ts ≡ rest = cc in
    subst (λ (x : List Token). Took n ts x (w ∷ [])) s (took-word n w ts e long p.0)

-- the first word is the one that is asked for
pub left-is : (n : ℕ) (ts : List Token) (w : List ℕ) (more : List (List ℕ)) → Left n ts (w ∷ more) → is w ts ≡ true
left-is n ts w more l = (bytes_eq-Decides (word ts) w).1 (left-first n ts (w ∷ more) l)

-- it is read again
pub taken-again : (n : ℕ) (w : List ℕ) (wanted : Wanted) (ts : List Token) (more : List (List ℕ)) → 0 < length w → Left n ts (w ∷ more)
    → (taken w wanted ts ≡ Ok (next ts)) × Left n (next ts) more
unfolding taken
taken-again n w wanted ts more long l = (rw (left-is n ts w more l) refl, left-next n ts w more l long)

-- a value of a word
pub some-takes : {X : Type 0} (n : ℕ) (f : List ℕ → Option X) (wanted : Wanted) (ts rest : List Token) (x : X) → f [] ≡ None → OneEnd n ts
    → some_or wanted (f (word ts)) ts ≡ Ok (x, rest) → (f (word ts) ≡ Some x) × Took n ts rest (word ts ∷ [])
some-takes n f wanted ts rest x none e g =
    let s = some-given wanted (f (word ts)) ts x rest g in
    (s.0, subst (λ (r : List Token). Took n ts r (word ts ∷ [])) s.1 (took-one n ts e (some-long f (word ts) x none s.0)))

-- it is read again
pub some-again : {X : Type 0} (n : ℕ) (f : List ℕ → Option X) (wanted : Wanted) (ts : List Token) (w : List ℕ) (more : List (List ℕ)) (x : X)
    → f [] ≡ None → f w ≡ Some x → Left n ts (w ∷ more) → (f (word ts) ≡ Some x) × Left n (next ts) more
some-again n f wanted ts w more x none s l =
    (ap f (left-first n ts (w ∷ more) l) ∙ s, left-next n ts w more l (some-long f w x none s))

-- ---- numbers

-- the empty word is no number
pub no-number : number_of [] ≡ None
unfolding number_of
no-number = refl

-- a number up to a limit
pub limited-written : (limit : ℕ) (w : List ℕ) (n : ℕ) → up_to limit (number_of w) ≡ Some n → IsNumber w n × (n ≤ limit)
limited-written limit w n e = let l = limited limit (number_of w) n e in ((number-exactly w n).0 l.1, l.0)

-- it is read again
pub limited-read : (limit : ℕ) (w : List ℕ) (n : ℕ) → IsNumber w n → n ≤ limit → up_to limit (number_of w) ≡ Some n
limited-read limit w n i h = ap (up_to limit) ((number-exactly w n).1 i) ∙ within limit n h

-- ---- the same of other names

-- what was taken stands for what was given
pub takes-same : {X : Type 0} (Is : List (List ℕ) → X → Type 0) (n : ℕ) (ts us rest : List Token) (x y : X)
    → Takes n ts us (λ ws. Is ws y) → given y us ≡ given x rest → Takes n ts rest (λ ws. Is ws x)
takes-same {X} Is n ts us rest x y t e =
    let s = same-read y x us rest e in
    subst (λ (r : List Token). Takes n ts r (λ ws. Is ws x)) s.1 (subst (λ (z : X). Takes n ts us (λ ws. Is ws z)) s.0 t)

-- one word stands for it
pub word-takes : {X : Type 0} (Is : List (List ℕ) → X → Type 0) (n : ℕ) (w : List ℕ) (ts rest : List Token) (x y : X)
    → Is (w ∷ []) y → 0 < length w → OneEnd n ts → is w ts ≡ true → given y (next ts) ≡ given x rest → Takes n ts rest (λ ws. Is ws x)
word-takes Is n w ts rest x y i long e h g =
    takes-same Is n ts (next ts) rest x y (record { words = w ∷ []; took = took-word n w ts e long h; is = i }) g

-- ---- words that differ

-- two words of which something else is known differ
pub differ : {Y : Type 0} (f : List ℕ → Y) (w k : List ℕ) → ¬ (f w ≡ f k) → bytes_eq w k ≡ false
differ f w k h =
    elim (bytes_eq w k) as (λ d. bytes_eq w k ≡ d → d ≡ false) [
      | true ↦ λ e. absurd (h (ap f ((bytes_eq-Decides w k).0 e)))
      | false ↦ λ e. refl
    ] refl

-- the words more don't start by k
abbrev pub Other : List ℕ → List (List ℕ) → Type 0
Other k more = bytes_eq (first more) k ≡ false

-- so the first word is another
pub left-other : (n : ℕ) (ts : List Token) (k : List ℕ) (more : List (List ℕ)) → Left n ts more → Other k more → is k ts ≡ false
left-other n ts k more l o = ap (λ (w : List ℕ). bytes_eq w k) (left-first n ts more l) ∙ o

-- a reader gives what is x without its places, and the words more are left, with one end, at n
pub record GetsBare (X : Type 0) (bare : X → X) (n : ℕ) (read : Read X) (x : X) (more : List (List ℕ)) : Type 0 where
  pub value : X
  pub rest : List Token
  pub gives : read ≡ Ok (value, rest)
  pub same : bare value ≡ x
  pub left : Left n rest more
