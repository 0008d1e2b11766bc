-- A text is made of exactly the words that are found.
use Rattle.std.proofs.Common.{◌≡◌, ℕ, zero, suc, ◌<◌, ◌≤◌, Bool, true, false, not, ◌&&◌, ◌||◌, cond, eqb, List, [], ◌∷◌, ◌++◌, length, map, take, drop, refl, sym, ap, ◌∙◌, subst, inl, inr, ◌⊎◌, append_assoc, arith}
use Rattle.std.proofs.lemmas.List.{length-append, append-nil, append_cancel_right, take-append-drop, length-take}
use Rattle.std.proofs.lemmas.Bool.{eqb-true, eqb-false, ne_eqb}
use Rattle.std.proofs.Math.Seq.{take-append_seam, drop-append_seam}
use Rattle.logic.specs.Lists.{All}
use Rattle.logic.proofs.Lists.{all_append}
use Rattle.tokens.specs.Tokens.{newline, hash, is_blank, is_mark, in_word, behind_gap, run, front, tokens_from}
use Rattle.tokens.specs.Cut.{IsLine, Gap, LastGap, IsWord, Apart, Cut}
use Rattle.tokens.specs.Theorems.{CutExactly}
use Rattle.tokens.proofs.Words.{by_outcome, pick, Starts, behind-starts, front-within, word_byte, rest-shorter}

-- ---- bytes

-- of three tests one holds
one_of : (x y z : Bool) → (x || y || z) ≡ true → (x ≡ true) ⊎ ((y ≡ true) ⊎ (z ≡ true))
one_of true y z e = inl refl
one_of false true z e = inr (inl refl)
one_of false false true e = inr (inr refl)
one_of false false false e = absurd cc

-- of three tests none holds
none_of : (x y z : Bool) → (not x && not y && not z) ≡ true → (x ≡ false) × (y ≡ false) × (z ≡ false)
none_of false false false e = (refl, refl, refl)
none_of true y z e = absurd cc
none_of false true z e = absurd cc
none_of false false true e = absurd cc

-- what holds of the three marks holds of every mark
mark_has : (P : ℕ → Type 0) → P 58 → P 123 → P 125 → (b : ℕ) → is_mark b ≡ true → P b
mark_has P p q r b m = elim (one_of (eqb b 58) (eqb b 123) (eqb b 125) m) [
  | inl e ↦ subst P (sym (eqb-true b 58 e)) p
  | inr (inl e) ↦ subst P (sym (eqb-true b 123 e)) q
  | inr (inr e) ↦ subst P (sym (eqb-true b 125 e)) r
]

-- a blank starts no comment
blank-no_hash : (b : ℕ) → is_blank b ≡ true → eqb b hash ≡ false
blank-no_hash b k = ne_eqb b hash (λ e. let f : is_blank hash ≡ true = subst (λ n. is_blank n ≡ true) e k in cc)

-- a mark is of no gap
mark-starts : (b : ℕ) → is_mark b ≡ true → (eqb b hash ≡ false) × (is_blank b ≡ false)
mark-starts = mark_has (λ b. (eqb b hash ≡ false) × (is_blank b ≡ false)) (refl, refl) (refl, refl) (refl, refl)

-- a byte of words is neither a blank nor a mark nor the start of a comment
in_word-is : (b : ℕ) → in_word b ≡ true → (is_blank b ≡ false) × (is_mark b ≡ false) × (eqb b hash ≡ false)
in_word-is b e = none_of (is_blank b) (is_mark b) (eqb b hash) e

-- ---- what is made of gaps and words is found so

-- what stands behind the line that a comment is in
behind-line : (c bs : List ℕ) → IsLine c → behind_gap true (c ++ newline ∷ bs) ≡ behind_gap false bs
behind-line [] bs l = refl
behind-line (b ∷ c) bs l = ap (λ x. behind_gap (not x) (c ++ newline ∷ bs)) (ne_eqb b newline l.0) ∙ behind-line c bs l.1

-- nothing stands behind a comment that ends with the text
behind-last : (c : List ℕ) → IsLine c → behind_gap true c ≡ []
behind-last [] l = refl
behind-last (b ∷ c) l = ap (λ x. behind_gap (not x) c) (ne_eqb b newline l.0) ∙ behind-last c l.1

-- a gap is passed over
gap-behind : {g : List ℕ} → Gap g → (bs : List ℕ) → behind_gap false (g ++ bs) ≡ behind_gap false bs
gap-behind Gap.none bs = refl
gap-behind (Gap.blank {b} {g} k h) bs = let e = blank-no_hash b k in rw (e, k) (gap-behind h bs)
gap-behind (Gap.comment c {g} l h) bs = rw (append_assoc c (newline ∷ g) bs) (behind-line c (g ++ bs) l ∙ gap-behind h bs)

-- so is one at the end
last-behind : {g : List ℕ} → LastGap g → behind_gap false g ≡ []
last-behind (LastGap.gap {g} h) = subst (λ (x : List ℕ). behind_gap false x ≡ []) (append-nil g) (gap-behind h [])
last-behind (LastGap.comment c {g} h l) = gap-behind h (hash ∷ c) ∙ behind-last c l

-- no gap is passed over where none starts
starts-behind : (bs : List ℕ) → Starts bs → behind_gap false bs ≡ bs
starts-behind [] s = refl
starts-behind (b ∷ bs) s = let e = s.0 in let k = s.1 in rw (e, k) refl

-- a word is not empty
word-some : (w : List ℕ) → IsWord w → 0 < length w
word-some w (inl m) = omega (arith, ap length m.2)
word-some w (inr h) = h.0

-- bytes that start with no byte of words
abbrev Stops : List ℕ → Type 0
Stops [] = Unit {0}
Stops (c ∷ bs) = in_word c ≡ false

-- no gap starts where a word does
word-starts : (w bs : List ℕ) → IsWord w → Starts (w ++ bs)
word-starts w bs (inl m) = subst (λ (x : List ℕ). Starts (x ++ bs)) (sym m.2) (mark-starts m.0 m.1)
word-starts [] bs (inr h) = absurd (omega (arith, h.0))
word-starts (b ∷ w) bs (inr h) = let i = in_word-is b h.1.0 in (i.2, i.0)

-- a run goes as far as the bytes of words
run-over : (w bs : List ℕ) → All (λ b. in_word b ≡ true) w → Stops bs → run (w ++ bs) ≡ length w
run-over [] [] h s = refl
run-over [] (c ∷ bs) h s = rw s refl
run-over (b ∷ w) bs h s = let i = h.0 in rw i (ap suc (run-over w bs h.1 s))

-- behind bytes of words a word stops where what follows stands apart
apart-stops : (b : ℕ) (w bs : List ℕ) → is_mark b ≡ false → Apart (b ∷ w) bs → Stops bs
apart-stops b w [] m a = tt
apart-stops b w (c ∷ bs) m (inl e) = absurd cc
apart-stops b w (c ∷ bs) m (inr e) = e

-- a word is found whole
word-front : (w bs : List ℕ) → IsWord w → Apart w bs → front (w ++ bs) ≡ length w
word-front w bs (inl m) a =
    let k = m.1 in subst (λ (x : List ℕ). front (x ++ bs) ≡ length x) (sym m.2) (rw k refl)
word-front [] bs (inr h) a = absurd (omega (arith, h.0))
word-front (b ∷ w) bs (inr h) a =
    let i = in_word-is b h.1.0 in
    let m = i.1 in
    ap (λ x. cond x 1 (run ((b ∷ w) ++ bs))) m ∙ run-over (b ∷ w) bs h.1 (apart-stops b w bs m a)

-- the words from some bytes on
abbrev words_from : ℕ → ℕ → List ℕ → List (List ℕ)
words_from k n bs = map (λ t. t.word) (tokens_from k n bs)

-- behind one step the first word is found, and the others are those of the bytes behind it
one-step : (k n : ℕ) (text found w rest : List ℕ) → behind_gap false text ≡ found → found ≡ w ++ rest → front found ≡ length w → 0 < length w
    → words_from (suc k) n text ≡ w ∷ words_from k n rest
one-step k n text found w rest b e f some =
    let g : front (w ++ rest) ≡ length w = ap front (sym e) ∙ f in
    let len : eqb (length (w ++ rest)) 0 ≡ false = ne_eqb (length (w ++ rest)) 0 (λ z. omega (arith, length-append w rest)) in
    rw (b, e, g, take-append_seam w rest, drop-append_seam w rest, len) refl

-- what is made of words has these words and the end
cut-words : {text : List ℕ} {ws : List (List ℕ)} → Cut text ws → (k n : ℕ) → length text ≤ k → words_from k n text ≡ ws ++ [] ∷ []
cut-words (Cut.end l) zero n h = refl
cut-words (Cut.end l) (suc k) n h = let e = last-behind l in rw e refl
cut-words (Cut.word {g} {w} {rest} {ws} gap is apart c) zero n h =
    absurd (omega (arith, word-some w is, length-append g (w ++ rest), length-append w rest))
cut-words (Cut.word {g} {w} {rest} {ws} gap is apart c) (suc k) n h =
    let some = word-some w is in
    let behind : behind_gap false (g ++ (w ++ rest)) ≡ w ++ rest = gap-behind gap (w ++ rest) ∙ starts-behind (w ++ rest) (word-starts w rest is) in
    let enough : length rest ≤ k = omega (arith, length-append g (w ++ rest), length-append w rest) in
    one-step k n (g ++ (w ++ rest)) (w ++ rest) w rest behind refl (word-front w rest is apart) some ∙ ap (λ x. w ∷ x) (cut-words c k n enough)

-- ---- what is found makes up the text

-- a blank before the last gap is part of it
last-blank : (b : ℕ) {bs : List ℕ} → is_blank b ≡ true → LastGap bs → LastGap (b ∷ bs)
last-blank b k (LastGap.gap h) = LastGap.gap (Gap.blank k h)
last-blank b k (LastGap.comment c h l) = LastGap.comment c (Gap.blank k h) l

-- so is a comment
last-comment : (c : List ℕ) {bs : List ℕ} → IsLine c → LastGap bs → LastGap (hash ∷ (c ++ newline ∷ bs))
last-comment c l (LastGap.gap h) = LastGap.gap (Gap.comment c l h)
last-comment c l (LastGap.comment d {g} h m) =
    subst (λ x. LastGap (hash ∷ x)) (append_assoc c (newline ∷ g) (hash ∷ d)) (LastGap.comment d (Gap.comment c l h) m)

-- bytes in which nothing is found are a last gap; others are a gap and what is found
abbrev Found : List ℕ → List ℕ → Type 0
Found bs found = ((found ≡ []) × LastGap bs) ⊎ ((g : List ℕ) × Gap g × (bs ≡ g ++ found) × (0 < length found))

-- a blank before them changes nothing
found-blank : (b : ℕ) (bs found : List ℕ) → is_blank b ≡ true → Found bs found → Found (b ∷ bs) found
found-blank b bs found k (inl l) = inl (l.0, last-blank b k l.1)
found-blank b bs found k (inr r) = inr (b ∷ r.0, Gap.blank k r.1, ap (λ x. b ∷ x) r.2, r.3)

-- nor does a comment
found-comment : (c bs found : List ℕ) → IsLine c → Found bs found → Found (hash ∷ (c ++ newline ∷ bs)) found
found-comment c bs found l (inl r) = inl (r.0, last-comment c l r.1)
found-comment c bs found l (inr r) =
    let whole : c ++ newline ∷ bs ≡ (c ++ newline ∷ r.0) ++ found = ap (λ x. c ++ newline ∷ x) r.2 ∙ sym (append_assoc c (newline ∷ r.0) found) in
    inr (hash ∷ (c ++ newline ∷ r.0), Gap.comment c l r.1, ap (λ x. hash ∷ x) whole, r.3)

-- what is to be shown of some bytes, inside a comment of which the line c was passed, or not
abbrev Parts : Bool → List ℕ → Type 0
Parts true bs = (c : List ℕ) → IsLine c → Found (hash ∷ (c ++ bs)) (behind_gap true bs)
Parts false bs = Found bs (behind_gap false bs)

-- the parts of some bytes
parts : (bs : List ℕ) (inside : Bool) → Parts inside bs
parts [] true = λ c l. inl (refl, subst (λ x. LastGap (hash ∷ x)) (sym (append-nil c)) (LastGap.comment c Gap.none l))
parts [] false = inl (refl, LastGap.gap Gap.none)
parts (b ∷ bs) true = λ c l.
    by_outcome (λ x. Found (hash ∷ (c ++ b ∷ bs)) (behind_gap (not x) bs)) (eqb b newline)
    (λ e. subst (λ n. Found (hash ∷ (c ++ n ∷ bs)) (behind_gap false bs)) (sym (eqb-true b newline e)) (found-comment c bs _ l (parts bs false)))
    (λ e. subst (λ x. Found (hash ∷ x) (behind_gap true bs)) (append_assoc c (b ∷ []) bs)
    (parts bs true (c ++ b ∷ []) (all_append (λ n. ¬ (n ≡ newline)) c (b ∷ []) l (eqb-false b newline e, tt))))
parts (b ∷ bs) false =
    pick (λ x. Found (b ∷ bs) x) (eqb b hash) _ _
    (λ e. subst (λ n. Found (n ∷ bs) (behind_gap true bs)) (sym (eqb-true b hash e)) (parts bs true [] tt))
    (λ e. pick (λ x. Found (b ∷ bs) x) (is_blank b) _ _ (λ k. found-blank b bs _ k (parts bs false)) (λ k. inr ([], Gap.none, refl, omega arith)))

-- a run is of bytes of words
run-all : (bs : List ℕ) → All (λ b. in_word b ≡ true) (take (run bs) bs)
run-all [] = tt
run-all (b ∷ bs) = pick (λ n. All (λ b. in_word b ≡ true) (take n (b ∷ bs))) (in_word b) _ _ (λ e. (e, run-all bs)) (λ e. tt)

-- none follows it
run-stops : (bs : List ℕ) → Stops (drop (run bs) bs)
run-stops [] = tt
run-stops (b ∷ bs) = pick (λ n. Stops (drop n (b ∷ bs))) (in_word b) _ _ (λ e. run-stops bs) (λ e. e)

-- what stops stands apart
stops-apart : (w bs : List ℕ) → Stops bs → Apart w bs
stops-apart [] bs s = tt
stops-apart (b ∷ w) [] s = tt
stops-apart (b ∷ w) (c ∷ bs) s = inr s

-- so does what is behind a mark
mark-apart : (b : ℕ) (bs : List ℕ) → is_mark b ≡ true → Apart (b ∷ []) bs
mark-apart b [] m = tt
mark-apart b (c ∷ bs) m = inl m

-- what is found at the front is a word, and goes as far as it can
front-word : (bs : List ℕ) → Starts bs → 0 < length bs → IsWord (take (front bs) bs) × Apart (take (front bs) bs) (drop (front bs) bs)
front-word [] s h = absurd (omega arith)
front-word (b ∷ bs) s h =
    pick (λ n. IsWord (take n (b ∷ bs)) × Apart (take n (b ∷ bs)) (drop n (b ∷ bs))) (is_mark b) _ _
    (λ m. (inl (b, m, refl), mark-apart b bs m))
    (λ m. (inr (run-some b bs (word_byte b s.0 s.1 m), run-all (b ∷ bs)), stops-apart _ _ (run-stops (b ∷ bs)))) where
      run-some : (b : ℕ) (bs : List ℕ) → in_word b ≡ true → 0 < length (take (run (b ∷ bs)) (b ∷ bs))
      run-some b bs e = rw e (omega arith)

-- some words make up the text, and these are found
found-cut : (k n : ℕ) (text : List ℕ) → length text ≤ k → (ws : List (List ℕ)) × Cut text ws × (words_from k n text ≡ ws ++ [] ∷ [])
found-cut zero n [] h = ([], Cut.end (LastGap.gap Gap.none), refl)
found-cut zero n (b ∷ text) h = absurd (omega arith)
found-cut (suc k) n text h = elim (parts text false) [
  | inl l ↦ ([], Cut.end l.1, let e = l.0 in rw e refl)
  | inr r ↦
      let found = behind_gap false text in
      let starts = behind-starts text false in
      let w = take (front found) found in
      let rest = drop (front found) found in
      let word = front-word found starts r.3 in
      let whole : found ≡ w ++ rest = sym (take-append-drop (front found) found) in
      let f = front-within found in
      let len : front found ≡ length w = omega (arith, length-take (front found) found) in
      let others = found-cut k n rest (let s = rest-shorter text r.3 in omega arith) in
      let text-is : r.0 ++ (w ++ rest) ≡ text = ap (λ x. r.0 ++ x) (sym whole) ∙ sym r.2 in (
        w ∷ others.0,
        subst (λ x. Cut x (w ∷ others.0)) text-is (Cut.word r.1 word.0 word.1 others.1),
        one-step k n text found w rest refl whole len (word-some w word.0) ∙ ap (λ x. w ∷ x) others.2,
      )
]

-- the words of a text are exactly those that it is made of
pub cut-exactly : CutExactly
cut-exactly text ws = (
  λ c. cut-words c (length text) (length text) (omega arith),
  λ e. let f = found-cut (length text) (length text) text (omega arith) in
      subst (Cut text) (append_cancel_right f.0 ws ([] ∷ []) (sym f.2 ∙ e)) f.1,
)
