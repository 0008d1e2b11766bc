-- Words in lines of so many: the first of them, and the others.
use Rattle.std.proofs.Common.{◌≡◌, ℕ, zero, suc, ◌<◌, ◌≤◌, List, [], ◌∷◌, ◌++◌, length, take, drop, refl, sym, ap, ◌∙◌, arith, length-drop}
use Rattle.std.specs.Prelude.{min}
use Rattle.std.proofs.lemmas.List.{nil_from_length, take_min, drop_min}
use Rattle.std.proofs.Math.Seq.{take-append_seam, drop-append_seam}
use Rattle.decimals.specs.Text.{line_text, lines_from, lines_text}

-- that more lines are allowed than there are words changes nothing
enough : (k n size : ℕ) (ws : List ℕ) → 0 < size → length ws ≤ k → length ws ≤ n → lines_from k size ws ≡ lines_from n size ws
enough zero zero size ws pos h g = refl
enough zero (suc n) size [] pos h g = refl
enough zero (suc n) size (w ∷ ws) pos h g = absurd (omega (arith, h))
enough (suc k) zero size [] pos h g = refl
enough (suc k) zero size (w ∷ ws) pos h g = absurd (omega (arith, g))
enough (suc k) (suc n) size [] pos h g = refl
enough (suc k) (suc n) size (w ∷ ws) pos h g =
    let d = length-drop size (w ∷ ws) in
    ap (λ (t : List ℕ). line_text (take size (w ∷ ws)) ++ t)
    (enough k n size (drop size (w ∷ ws)) pos (omega (arith, d, h, pos)) (omega (arith, d, g, pos)))

-- no words make no lines
pub no-lines : (size : ℕ) (ws : List ℕ) → length ws ≡ 0 → lines_text size ws ≡ []
unfolding lines_text
no-lines size ws e = ap (λ (vs : List ℕ). lines_from (length vs) size vs) (nil_from_length ws e)

-- the first line
first : (size : ℕ) (ws : List ℕ) → 0 < size → 0 < length ws → lines_text size ws ≡ line_text (take size ws) ++ lines_text size (drop size ws)
unfolding lines_text
first size [] pos h = absurd (omega (arith, h))
first size (w ∷ ws) pos h =
    let d = length-drop size (w ∷ ws) in
    ap (λ (t : List ℕ). line_text (take size (w ∷ ws)) ++ t)
    (enough (length ws) (length (drop size (w ∷ ws))) size (drop size (w ∷ ws)) pos (omega (arith, d, pos)) (omega arith))

-- a turn of a loop over chunks
pub next-line : (size k : ℕ) (ws x r : List ℕ) → 0 < size → k ≡ size → ws ≡ x ++ r → length x ≡ min k (length ws) → 0 < length ws
    → lines_text size ws ≡ line_text x ++ lines_text size r
next-line size k ws x r pos same e m h =
    let n : length x ≡ min size (length ws) = m ∙ ap (λ (i : ℕ). min i (length ws)) same in
    let t : take size ws ≡ x = sym (take_min size ws) ∙ ap (λ (i : ℕ). take i ws) (sym n) ∙ ap (take (length x)) e ∙ take-append_seam x r in
    let d : drop size ws ≡ r = sym (drop_min size ws) ∙ ap (λ (i : ℕ). drop i ws) (sym n) ∙ ap (drop (length x)) e ∙ drop-append_seam x r in
    first size ws pos h
    ∙ ap (λ (vs : List ℕ). line_text vs ++ lines_text size (drop size ws)) t
    ∙ ap (λ (vs : List ℕ). line_text x ++ lines_text size vs) d
