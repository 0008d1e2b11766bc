-- The word that a message shows is the text's own at this place.
use Rattle.std.proofs.Common.{◌≡◌, ℕ, zero, suc, ◌-◌, Bool, true, false, not, eqb, List, [], ◌∷◌, ◌++◌, length, take, drop, refl, sym, ap, ◌∙◌, append_assoc, arith}
use Rattle.std.proofs.lemmas.List.{length-append, take-append-drop, length-drop, nil_from_length}
use Rattle.std.proofs.Math.Seq.{drop-append_seam}
use Rattle.logic.specs.Lists.{All}
use Rattle.tokens.specs.Tokens.{newline, hash, is_blank, behind_gap, front, tokens_from, tokens_of, word}
use Rattle.tokens.proofs.Words.{pick}
use Rattle.faults.specs.Cures.{tokens_at, word_at}
use Rattle.faults.specs.Theorems.{WordFound}

-- behind a gap there is none
no-gap : (bs : List ℕ) (inside : Bool) → behind_gap false (behind_gap inside bs) ≡ behind_gap inside bs
no-gap [] true = refl
no-gap [] false = refl
no-gap (b ∷ bs) true = no-gap bs (not (eqb b newline))
no-gap (b ∷ bs) false =
    pick (λ x. behind_gap false x ≡ x) (eqb b hash) _ _ (λ _. no-gap bs true)
    (λ e. pick (λ x. behind_gap false x ≡ x) (is_blank b) _ _ (λ _. no-gap bs false) (λ f. rw e (rw f refl)))

-- a gap and what stands behind it are the bytes
gap-parts : (bs : List ℕ) (inside : Bool) → (g : List ℕ) × (bs ≡ g ++ behind_gap inside bs)
gap-parts [] true = ([], refl)
gap-parts [] false = ([], refl)
gap-parts (b ∷ bs) true = let r = gap-parts bs (not (eqb b newline)) in (b ∷ r.0, ap (λ x. b ∷ x) r.1)
gap-parts (b ∷ bs) false =
    pick (λ x. (g : List ℕ) × (b ∷ bs ≡ g ++ x)) (eqb b hash) _ _
    (λ _. let r = gap-parts bs true in (b ∷ r.0, ap (λ x. b ∷ x) r.1))
    (λ _. pick (λ x. (g : List ℕ) × (b ∷ bs ≡ g ++ x)) (is_blank b) _ _
    (λ _. let r = gap-parts bs false in (b ∷ r.0, ap (λ x. b ∷ x) r.1)) (λ _. ([], refl)))

-- the first word of some bytes
first-word : (bs : List ℕ) → word (tokens_of bs) ≡ take (front (behind_gap false bs)) (behind_gap false bs)
first-word [] = refl
first-word (b ∷ bs) = refl

-- the word at the front of the last bytes of a text, before which there is no gap
found-here : (text q found : List ℕ) → text ≡ q ++ found → behind_gap false found ≡ found
    → word_at text (length text - length found) ≡ take (front found) found
unfolding tokens_at
found-here text q found e h =
    let start : length text - length found ≡ length q = omega (arith, ap length e, length-append q found) in
    let rest : drop (length text - length found) text ≡ found = ap (λ n. drop n text) start ∙ ap (drop (length q)) e ∙ drop-append_seam q found in
    ap (λ x. word (tokens_of x)) rest ∙ first-word found ∙ ap (λ x. take (front x) x) h

-- behind the last byte there is none
end-found : (text : List ℕ) → word_at text (length text - 0) ≡ []
unfolding tokens_at
end-found text =
    ap (λ x. word (tokens_of x)) (nil_from_length (drop (length text - 0) text) (omega (arith, length-drop (length text - 0) text)))

-- the words in the last bytes of a text are found at their places
from-found : (k : ℕ) (text q bs : List ℕ) → text ≡ q ++ bs
    → All (λ t. word_at text t.at ≡ t.word) (tokens_from k (length text) bs)
from-found zero text q bs e = (end-found text, tt)
from-found (suc k) text q bs e =
    let found = behind_gap false bs in
    let g = gap-parts bs false in
    let m = front found in
    let e1 : text ≡ (q ++ g.0) ++ found = e ∙ ap (λ x. q ++ x) g.1 ∙ sym (append_assoc q g.0 found) in
    let e2 : text ≡ ((q ++ g.0) ++ take m found) ++ drop m found =
    e1 ∙ ap (λ x. (q ++ g.0) ++ x) (sym (take-append-drop m found)) ∙ sym (append_assoc (q ++ g.0) (take m found) (drop m found)) in (
      found-here text (q ++ g.0) found e1 (no-gap bs false),
      pick (All (λ t. word_at text t.at ≡ t.word)) (eqb (length found) 0) _ _ (λ _. tt)
          (λ _. from-found k text ((q ++ g.0) ++ take m found) (drop m found) e2),
    )

pub word-found : WordFound
word-found text = from-found (length text) text [] text refl
