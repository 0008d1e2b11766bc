-- What a reader takes: the words at the front of those that are left, none of which is the end.
--
--   texts ts          the words without their places
--   Took n ts rest ws   ts begin by the words ws, behind which rest is left, with its end at n
--   Left n ts ws      the words ts are ws, with one end, at n
use Rattle.std.proofs.Common.{◌≡◌, ℕ, ◌<◌, true, List, [], ◌∷◌, ◌++◌, length, refl, sym, ap, subst, ◌∙◌, append_assoc, arith}
use Rattle.std.specs.Prelude.{map}
use Rattle.tokens.specs.Tokens.{Token, word, next, is}
use Rattle.tokens.specs.Theorems.{OneEnd}
use Rattle.tokens.proofs.Going.{is-word}

-- the words without their places
abbrev pub texts : List Token → List (List ℕ)
texts [] = []
texts (t ∷ ts) = t.word ∷ texts ts

-- they are those of a map
pub texts-map : (ts : List Token) → texts ts ≡ map (λ t. t.word) ts
texts-map [] = refl
texts-map (t ∷ ts) = ap (λ (ws : List (List ℕ)). t.word ∷ ws) (texts-map ts)

-- those of two parts are both
pub texts-append : (ts us : List Token) → texts (ts ++ us) ≡ texts ts ++ texts us
texts-append [] us = refl
texts-append (t ∷ ts) us = ap (λ (ws : List (List ℕ)). t.word ∷ ws) (texts-append ts us)

-- the words ws were taken from the front of ts, and rest is left, with its end at n
pub record Took (n : ℕ) (ts rest : List Token) (ws : List (List ℕ)) : Type 0 where
  pub front : List Token
  pub split : ts ≡ front ++ rest
  pub spells : texts front ≡ ws
  pub ends : OneEnd n rest

-- nothing was taken
pub took-none : (n : ℕ) (ts : List Token) → OneEnd n ts → Took n ts ts []
took-none n ts e = record { front = []; split = refl; spells = refl; ends = e }

-- a word that is not empty was taken
pub took-one : (n : ℕ) (ts : List Token) → OneEnd n ts → 0 < length (word ts) → Took n ts (next ts) (word ts ∷ [])
took-one n [] e h = absurd e
took-one n (t ∷ []) e h = absurd (omega (arith, ap length e.1))
took-one n (t ∷ u ∷ ts) e h = record { front = t ∷ []; split = refl; spells = refl; ends = e.1 }

-- the word that was asked for was taken
pub took-word : (n : ℕ) (w : List ℕ) (ts : List Token) → OneEnd n ts → 0 < length w → is w ts ≡ true → Took n ts (next ts) (w ∷ [])
took-word n w ts e h i =
    let s = is-word w ts i in
    subst (λ (x : List ℕ). Took n ts (next ts) (x ∷ [])) s (took-one n ts e (rw s h))

-- some words and others behind them were taken
pub took-then : (n : ℕ) (a b c : List Token) (us vs : List (List ℕ)) → Took n a b us → Took n b c vs → Took n a c (us ++ vs)
took-then n a b c us vs t u = record {
  front = t.front ++ u.front;
  split = t.split ∙ ap (λ (x : List Token). t.front ++ x) u.split ∙ sym (append_assoc t.front u.front c);
  spells = texts-append t.front u.front ∙ ap (λ (x : List (List ℕ)). x ++ texts u.front) t.spells ∙ ap (λ (x : List (List ℕ)). us ++ x) u.spells;
  ends = u.ends;
}

-- the words that were there are those that were taken and those that are left
pub took-texts : (n : ℕ) (ts rest : List Token) (ws : List (List ℕ)) → Took n ts rest ws → texts ts ≡ ws ++ texts rest
took-texts n ts rest ws t = ap texts t.split ∙ texts-append t.front rest ∙ ap (λ (x : List (List ℕ)). x ++ texts rest) t.spells

-- the words ts are ws, with one end, at n
pub record Left (n : ℕ) (ts : List Token) (ws : List (List ℕ)) : Type 0 where
  pub ends : OneEnd n ts
  pub spells : texts ts ≡ ws

-- the first word of some
abbrev pub first : List (List ℕ) → List ℕ
first [] = []
first (w ∷ ws) = w

-- what is left has the first of its words first
pub left-first : (n : ℕ) (ts : List Token) (ws : List (List ℕ)) → Left n ts ws → word ts ≡ first ws
left-first n [] ws l = ap first l.spells
left-first n (t ∷ ts) ws l = ap first l.spells

-- behind a word that is not empty the others are left
pub left-next : (n : ℕ) (ts : List Token) (w : List ℕ) (ws : List (List ℕ)) → Left n ts (w ∷ ws) → 0 < length w → Left n (next ts) ws
left-next n [] w ws l h = absurd l.ends
left-next n (t ∷ []) w ws l h = absurd (omega (arith, ap length (sym (l.ends).1 ∙ ap first l.spells)))
left-next n (t ∷ u ∷ ts) w ws l h = record { ends = (l.ends).1; spells = cc }
