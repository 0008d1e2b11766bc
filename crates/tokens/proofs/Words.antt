-- Laws of how words are found: a word that is found is not empty, and as many steps as there are bytes are enough.
use Rattle.std.proofs.Common.{◌≡◌, ℕ, zero, suc, ◌+◌, ◌-◌, ◌<◌, ◌≤◌, Bool, true, false, not, cond, eqb, List, [], ◌∷◌, length, take, drop, refl, sym, ap, ◌∙◌, arith}
use Rattle.std.proofs.lemmas.List.{length-take, length-drop}
use Rattle.std.proofs.lemmas.Bool.{eq-eqb, ne_eqb}
use Rattle.tokens.specs.Tokens.{newline, hash, is_blank, is_mark, in_word, Token, behind_gap, run, front, token_at, tokens_from}

-- what both outcomes of a test have the test has
pub by_outcome : (P : Bool → Type 0) (b : Bool) → (b ≡ true → P true) → (b ≡ false → P false) → P b
by_outcome P true f g = f refl
by_outcome P false f g = g refl

-- a choice has what both of its sides have, each where it is taken
pub pick : {A : Type 0} (P : A → Type 0) (b : Bool) (x y : A) → (b ≡ true → P x) → (b ≡ false → P y) → P (cond b x y)
pick P b x y f g = by_outcome (λ c. P (cond c x y)) b f g

-- ---- a word and the gap before it

-- a run lies within the bytes
pub run-within : (bs : List ℕ) → run bs ≤ length bs
run-within [] = omega arith
run-within (b ∷ bs) = let h = run-within bs in pick (λ n. n ≤ suc (length bs)) (in_word b) _ _ (λ _. omega arith) (λ _. omega arith)

-- so does a word
pub front-within : (bs : List ℕ) → front bs ≤ length bs
front-within [] = omega arith
front-within (b ∷ bs) = let h = run-within (b ∷ bs) in pick (λ n. n ≤ suc (length bs)) (is_mark b) _ _ (λ _. omega arith) (λ _. h)

-- what stands behind a gap is no longer than what there was
pub behind-within : (bs : List ℕ) (inside : Bool) → length (behind_gap inside bs) ≤ length bs
behind-within [] true = omega arith
behind-within [] false = omega arith
behind-within (b ∷ bs) true = let h = behind-within bs (not (eqb b newline)) in omega arith
behind-within (b ∷ bs) false =
    let h = behind-within bs true in
    let g = behind-within bs false in
    pick (λ r. length r ≤ suc (length bs)) (eqb b hash) _ _ (λ _. omega arith)
    (λ _. pick (λ r. length r ≤ suc (length bs)) (is_blank b) _ _ (λ _. omega arith) (λ _. omega arith))

-- a byte that is neither of a gap nor a mark is of a word
pub word_byte : (b : ℕ) → eqb b hash ≡ false → is_blank b ≡ false → is_mark b ≡ false → in_word b ≡ true
word_byte b h k m = rw (h, k, m) refl

-- a word that starts with a byte that is of no gap is not empty
pub front-some : (b : ℕ) (bs : List ℕ) → eqb b hash ≡ false → is_blank b ≡ false → 0 < front (b ∷ bs)
front-some b bs h k =
    pick (λ n. 0 < n) (is_mark b) _ _ (λ _. omega arith)
    (λ m. pick (λ n. 0 < n) (in_word b) _ _ (λ _. omega arith) (λ w. absurd (let e = word_byte b h k m in cc)))

-- bytes that start with no gap
abbrev pub Starts : List ℕ → Type 0
Starts [] = Unit {0}
Starts (b ∷ bs) = (eqb b hash ≡ false) × (is_blank b ≡ false)

-- behind a gap there is none
pub behind-starts : (bs : List ℕ) (inside : Bool) → Starts (behind_gap inside bs)
behind-starts [] true = tt
behind-starts [] false = tt
behind-starts (b ∷ bs) true = behind-starts bs _
behind-starts (b ∷ bs) false =
    pick Starts (eqb b hash) _ _ (λ _. behind-starts bs true)
    (λ e. pick Starts (is_blank b) _ _ (λ _. behind-starts bs false) (λ k. (e, k)))

-- a word stands at the front of bytes that start with no gap
pub starts-word : (bs : List ℕ) → Starts bs → 0 < length bs → 0 < front bs
starts-word [] s h = h
starts-word (b ∷ bs) s h = front-some b bs s.0 s.1

-- behind a gap a word stands, unless there is nothing
pub found-word : (bs : List ℕ) (inside : Bool) → 0 < length (behind_gap inside bs) → 0 < front (behind_gap inside bs)
found-word bs inside = starts-word (behind_gap inside bs) (behind-starts bs inside)

-- ---- how many steps are enough

-- what is left behind a word is shorter
pub rest-shorter : (bs : List ℕ) → 0 < length (behind_gap false bs)
    → length (drop (front (behind_gap false bs)) (behind_gap false bs)) < length bs
rest-shorter bs h =
    let found = behind_gap false bs in
    let some = found-word bs false h in
    let w = behind-within bs false in
    let f = front-within found in
    omega (arith, length-drop (front found) found)

-- choices between the same and what is the same where it is taken
pick_same : {A : Type 0} (c : Bool) (x y z : A) → (c ≡ false → y ≡ z) → cond c x y ≡ cond c x z
pick_same c x y z f = by_outcome (λ b. cond b x y ≡ cond b x z) c (λ _. refl) f

-- a number that is not found to be 0 is above it
pub above_zero : (n : ℕ) → eqb n 0 ≡ false → 0 < n
above_zero zero e = absurd cc
above_zero (suc n) e = omega arith

-- two numbers of steps that are both enough find the same
pub steps-enough : (k j n : ℕ) (bs : List ℕ) → length bs ≤ k → length bs ≤ j → tokens_from k n bs ≡ tokens_from j n bs
steps-enough zero zero n bs h g = refl
steps-enough zero (suc j) n [] h g = refl
steps-enough zero (suc j) n (b ∷ bs) h g = absurd (omega arith)
steps-enough (suc k) zero n [] h g = refl
steps-enough (suc k) zero n (b ∷ bs) h g = absurd (omega arith)
steps-enough (suc k) (suc j) n bs h g =
    let found = behind_gap false bs in
    let rest = drop (front found) found in
    ap (λ (r : List Token). token_at n found ∷ r) (pick_same (eqb (length found) 0) [] (tokens_from k n rest) (tokens_from j n rest)
    (λ e. let s = rest-shorter bs (above_zero (length found) e) in steps-enough k j n rest (omega arith) (omega arith)))

-- two numbers are both 0 or neither
pub same_zero : (a b : ℕ) → a ≤ b → (0 < b → 0 < a) → eqb a 0 ≡ eqb b 0
same_zero a zero h f = eq-eqb a 0 (omega arith)
same_zero a (suc b) h f = let g = f (omega arith) in ne_eqb a 0 (omega arith) ∙ sym (ne_eqb (suc b) 0 (omega arith))

-- what is left once the first word is found
pub first-is : (n : ℕ) (bs : List ℕ) → let found : List ℕ = behind_gap false bs in let w : List ℕ = take (front found) found in
    let r : List ℕ = drop (front found) found in
    record { at = n - (length w + length r); word = w } ∷ cond (eqb (length w) 0) [] (tokens_from (length r) n r) ≡ tokens_from (length bs) n bs
first-is n [] = refl
first-is n (b ∷ bs) =
    let found = behind_gap false (b ∷ bs) in
    let w = take (front found) found in
    let r = drop (front found) found in
    let f = front-within found in
    let wl : length w ≡ front found = omega (arith, length-take (front found) found) in
    let len : length w + length r ≡ length found = omega (arith, length-drop (front found) found) in
    let some : 0 < length found → 0 < front found = found-word (b ∷ bs) false in
    let zeros : eqb (length w) 0 ≡ eqb (length found) 0 = same_zero (length w) (length found) (omega arith) (λ h. let g = some h in omega arith) in
    let others : cond (eqb (length found) 0) [] (tokens_from (length r) n r) ≡ cond (eqb (length found) 0) [] (tokens_from (length bs) n r) =
    pick_same (eqb (length found) 0) [] _ _ (λ e. let s = rest-shorter (b ∷ bs) (above_zero (length found) e) in
    steps-enough (length r) (length bs) n r (omega arith) (omega arith)) in
    rw (len, zeros) (ap (λ (t : List Token). token_at n found ∷ t) others)
