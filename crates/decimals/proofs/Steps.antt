-- Reading on: what is read behind some numbers.
use Rattle.std.proofs.Common.{◌≡◌, ℕ, ◌<◌, true, false, List, [], ◌∷◌, ◌++◌, length, refl, ap, ◌∙◌, append_assoc, append-nil, arith}
use Rattle.std.specs.Prelude.{Some, None, Result, Ok, Err, if◌then◌else◌}
use Rattle.tokens.specs.Tokens.{Token, word, at, next, ended}
use Rattle.tokens.specs.Left.{left}
use Rattle.tokens.specs.declared.Tokens.{Tokens}
use Rattle.tokens.proofs.Going.{not_ended-shorter}
use Rattle.values.specs.Numbers.{number_of}
use Rattle.decimals.specs.Read.{behind, numbers_of}

-- some numbers, and what is read behind them
abbrev pub after : List ℕ → Result (List ℕ) ℕ → Result (List ℕ) ℕ
after xs (Ok ns) = Ok (xs ++ ns)
after xs (Err place) = Err place

-- behind none all is read
pub after-none : (r : Result (List ℕ) ℕ) → after [] r ≡ r
after-none (Ok ns) = refl
after-none (Err place) = refl

-- at the end nothing is left to be read
pub none-read : (ts : List Token) → ended ts ≡ true → numbers_of ts ≡ Ok []
none-read [] e = refl
none-read (t ∷ ts) e = rw e refl

pub after-end : (xs : List ℕ) (ts : List Token) → ended ts ≡ true → after xs (numbers_of ts) ≡ Ok xs
after-end xs ts e = rw (none-read ts e) (ap (λ (ns : List ℕ). Ok ns) (append-nil xs))

-- a reader that is not at the end has words behind the first
two-left : (ts : List Token) → length (next ts) < length ts → numbers_of ts
    ≡ (if ended ts then Ok [] else behind (number_of (word ts)) (at ts) (numbers_of (next ts)))
two-left [] h = absurd (omega (arith, h))
two-left (t ∷ []) h = absurd (omega (arith, h))
two-left (t ∷ u ∷ ts) h = refl

-- a word that is not the end
one-read : (t : Tokens) → ended (left t) ≡ false → numbers_of (left t) ≡ behind (number_of (word (left t))) (at (left t)) (numbers_of (next (left t)))
one-read t e = two-left (left t) (not_ended-shorter t e) ∙ rw e refl

-- is no number
pub fault-read : (t : Tokens) (xs : List ℕ) → ended (left t) ≡ false → number_of (word (left t)) ≡ None → after xs (numbers_of (left t)) ≡ Err (at (left t))
fault-read t xs e n = rw (one-read t e, n) refl

-- or is one before others
before-others : (xs : List ℕ) (n place : ℕ) (r : Result (List ℕ) ℕ) → after (xs ++ n ∷ []) r ≡ after xs (behind (Some n) place r)
before-others xs n place (Ok ns) = ap (λ (ms : List ℕ). Ok ms) (append_assoc xs (n ∷ []) ns)
before-others xs n place (Err other) = refl

pub number-read : (t : Tokens) (xs : List ℕ) (n : ℕ) → ended (left t) ≡ false → number_of (word (left t)) ≡ Some n
    → after (xs ++ n ∷ []) (numbers_of (next (left t))) ≡ after xs (numbers_of (left t))
number-read t xs n e s = rw (one-read t e, s) (before-others xs n (at (left t)) (numbers_of (next (left t))))
