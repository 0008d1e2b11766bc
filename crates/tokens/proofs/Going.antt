-- For a reader that goes on from word to word: what all words have stays, and fewer words are left.
use Rattle.std.proofs.Common.{◌≡◌, ℕ, zero, suc, ◌<◌, ◌≤◌, true, false, eqb, List, [], ◌∷◌, length, sym, ap, ◌∙◌, arith}
use Rattle.std.proofs.lemmas.List.{nil_from_length}
use Rattle.std.proofs.lemmas.Bool.{ne_eqb}
use Rattle.std.proofs.lemmas.Slice.Eq.{bytes_eq-Decides}
use Rattle.logic.specs.Lists.{All}
use Rattle.tokens.specs.Tokens.{Token, tokens_from, word, at, next, is, ended}
use Rattle.tokens.specs.Left.{left}
use Rattle.tokens.specs.declared.Tokens.{Tokens}

-- what all words have the first has, and the others
pub closed : (P : Token → Type 0) (ts : List Token) → 0 < length ts → All P ts → All P (next ts) × P (record { at = at ts; word = word ts })
closed P [] h a = absurd (omega arith)
closed P (t ∷ []) h a = (a, a.0)
closed P (t ∷ u ∷ ts) h a = (a.1, a.0)

-- there are never more of them
pub next-within : (ts : List Token) → length (next ts) ≤ length ts
next-within [] = omega arith
next-within (t ∷ []) = omega arith
next-within (t ∷ u ∷ ts) = omega arith

-- some word is found, be it the end
from-some : (k n : ℕ) (bs : List ℕ) → 0 < length (tokens_from k n bs)
from-some zero n bs = omega arith
from-some (suc k) n bs = omega arith

-- a reader has a first word, be it the end
pub left-some : (t : Tokens) → 0 < length (left t)
unfolding left
left-some t = omega arith

-- behind a first word the others are left
next-shorter_by : (t : Token) (ts : List Token) → 0 < length ts → length (next (t ∷ ts)) < length (t ∷ ts)
next-shorter_by t [] h = absurd (omega arith)
next-shorter_by t (u ∷ ts) h = omega arith

-- a reader that goes on behind a word has fewer words left
pub next-shorter : (t : Tokens) → (word (left t) ≡ [] → ⊥) → length (next (left t)) < length (left t)
unfolding left
next-shorter t h =
    let w = t.word.now in
    let e : eqb (length w) 0 ≡ false = ne_eqb (length w) 0 (λ z. h (nil_from_length w z)) in
    let ts = tokens_from (length t.rest.now) t.end t.rest.now in
    rw e (next-shorter_by _ ts (from-some (length t.rest.now) t.end t.rest.now))

-- the first word is the one that is asked for
pub is-word : (w : List ℕ) (ts : List Token) → is w ts ≡ true → word ts ≡ w
is-word w ts e = (bytes_eq-Decides (word ts) w).0 e

-- so it is shorter behind a word that was asked for
pub is-shorter : (w : List ℕ) (t : Tokens) → 0 < length w → is w (left t) ≡ true → length (next (left t)) < length (left t)
is-shorter w t h e = next-shorter t (λ z. omega (arith, ap length (sym (is-word w (left t) e) ∙ z)))

-- and wherever the end is not reached
pub not_ended-shorter : (t : Tokens) → ended (left t) ≡ false → length (next (left t)) < length (left t)
not_ended-shorter t e = next-shorter t (λ w. let f : ended (left t) ≡ true = (bytes_eq-Decides (word (left t)) []).1 w in cc)

-- that a reader which goes on has fewer words left, for the attribute of a loop: using(tokens::proofs::Going::goes_on)
pub ruleset goes_on = (not_ended-shorter, is-shorter)
