-- Where the words of a text lie, and that one end stands behind them.
use Rattle.std.proofs.Common.{◌≡◌, ℕ, zero, suc, ◌+◌, ◌-◌, ◌<◌, ◌≤◌, Bool, true, false, not, eqb, List, [], ◌∷◌, ◌++◌, length, take, drop, refl, sym, ap, ◌∙◌, append_assoc, arith}
use Rattle.std.proofs.lemmas.List.{length-append, take-append-drop, length-take, length-drop, nil_from_length}
use Rattle.std.proofs.lemmas.Bool.{eqb-true}
use Rattle.std.proofs.Math.Seq.{drop-append_seam}
use Rattle.logic.specs.Lists.{All}
use Rattle.tokens.specs.Tokens.{newline, hash, is_blank, Token, behind_gap, front, token_at, tokens_from, word, next}
use Rattle.tokens.specs.Theorems.{TokensWithin, TokensLie, OneEnd, WordsNonempty}
use Rattle.tokens.proofs.Words.{pick, behind-within, front-within, found-word, rest-shorter, above_zero}

-- ---- where words lie

-- the words in the last bytes of n end before the end
from-within : (k n : ℕ) (bs : List ℕ) → length bs ≤ n → All (λ t. t.at + length t.word ≤ n) (tokens_from k n bs)
from-within zero n bs h = (omega arith, tt)
from-within (suc k) n bs h =
    let found = behind_gap false bs in
    let b = behind-within bs false in
    let f = front-within found in (
      omega (arith, length-take (front found) found),
      pick (All (λ t. t.at + length t.word ≤ n)) (eqb (length found) 0) _ _ (λ _. tt)
          (λ _. from-within k n (drop (front found) found) (omega (arith, length-drop (front found) found))),
    )

-- the words of a text end before its end
pub tokens-within : TokensWithin
tokens-within text = from-within (length text) (length text) text (omega arith)

-- a gap and what stands behind it are the bytes
behind-parts : (bs : List ℕ) (inside : Bool) → (g : List ℕ) × (bs ≡ g ++ behind_gap inside bs)
behind-parts [] true = ([], refl)
behind-parts [] false = ([], refl)
behind-parts (b ∷ bs) true = let r = behind-parts bs (not (eqb b newline)) in (b ∷ r.0, ap (λ x. b ∷ x) r.1)
behind-parts (b ∷ bs) false =
    pick (λ x. (g : List ℕ) × (b ∷ bs ≡ g ++ x)) (eqb b hash) _ _
    (λ _. let r = behind-parts bs true in (b ∷ r.0, ap (λ x. b ∷ x) r.1))
    (λ _. pick (λ x. (g : List ℕ) × (b ∷ bs ≡ g ++ x)) (is_blank b) _ _
    (λ _. let r = behind-parts bs false in (b ∷ r.0, ap (λ x. b ∷ x) r.1)) (λ _. ([], refl)))

-- the first bytes of the last ones lie where those start
front-lies : (text q found : List ℕ) (m : ℕ) → text ≡ q ++ found → m ≤ length found
    → take m found ≡ take (length (take m found)) (drop (length text - length found) text)
front-lies text q found m e h =
    let start : length text - length found ≡ length q = omega (arith, ap length e, length-append q found) in
    let rest : drop (length text - length found) text ≡ found = ap (λ n. drop n text) start ∙ ap (drop (length q)) e ∙ drop-append_seam q found in
    let len : length (take m found) ≡ m = omega (arith, length-take m found) in
    ap (λ n. take n found) (sym len) ∙ ap (take (length (take m found))) (sym rest)

-- the words in the last bytes of a text lie where they start
from-lie : (k : ℕ) (text q bs : List ℕ) → text ≡ q ++ bs → All (λ t. t.word ≡ take (length t.word) (drop t.at text)) (tokens_from k (length text) bs)
from-lie zero text q bs e = (refl, tt)
from-lie (suc k) text q bs e =
    let found = behind_gap false bs in
    let g = behind-parts bs false in
    let m = front found in
    let e1 : text ≡ (q ++ g.0) ++ found = e ∙ ap (λ x. q ++ x) g.1 ∙ sym (append_assoc q g.0 found) in
    let e2 : text ≡ ((q ++ g.0) ++ take m found) ++ drop m found =
    e1 ∙ ap (λ x. (q ++ g.0) ++ x) (sym (take-append-drop m found)) ∙ sym (append_assoc (q ++ g.0) (take m found) (drop m found)) in (
      front-lies text (q ++ g.0) found m e1 (front-within found),
      pick (All (λ t. t.word ≡ take (length t.word) (drop t.at text))) (eqb (length found) 0) _ _ (λ _. tt)
          (λ _. from-lie k text ((q ++ g.0) ++ take m found) (drop m found) e2),
    )

-- the words of a text lie where they start
pub tokens-lie : TokensLie
tokens-lie text = from-lie (length text) text [] text refl

-- ---- one end stands behind the words

-- a word before others that end
one-more : (n : ℕ) (t : Token) (ts : List Token) → 0 < length t.word → OneEnd n ts → OneEnd n (t ∷ ts)
one-more n t [] h e = absurd e
one-more n t (u ∷ ts) h e = (h, e)

-- the words in some bytes end
from-end : (k n : ℕ) (bs : List ℕ) → length bs ≤ k → OneEnd n (tokens_from k n bs)
from-end zero n bs h = (omega arith, refl)
from-end (suc k) n bs h =
    let found = behind_gap false bs in
    let f = front-within found in
    pick (λ ts. OneEnd n (token_at n found ∷ ts)) (eqb (length found) 0) _ _
    (λ e. let z = eqb-true (length found) 0 e in
    (omega arith, nil_from_length (take (front found) found) (omega (arith, length-take (front found) found))))
    (λ e. let some = above_zero (length found) e in
    let w = found-word bs false some in
    let r = rest-shorter bs some in
    one-more n (token_at n found) (tokens_from k n (drop (front found) found)) (omega (arith, length-take (front found) found))
    (from-end k n (drop (front found) found) (omega arith)))

-- the words of a text end with its end
pub words-nonempty : WordsNonempty
words-nonempty text = from-end (length text) (length text) text (omega arith)

-- those behind the first end as well
pub next-ends : (n : ℕ) (ts : List Token) → OneEnd n ts → OneEnd n (next ts)
next-ends n [] e = e
next-ends n (t ∷ []) e = e
next-ends n (t ∷ u ∷ ts) e = e.1

-- there are fewer behind a word
pub ends-shorter : (n : ℕ) (ts : List Token) → OneEnd n ts → (word ts ≡ [] → ⊥) → length (next ts) < length ts
ends-shorter n [] e h = absurd (h refl)
ends-shorter n (t ∷ []) e h = absurd (h e.1)
ends-shorter n (t ∷ u ∷ ts) e h = omega arith
