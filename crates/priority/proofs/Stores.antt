-- Words stored one behind the other over a buffer: one word more, from the front or before what is laid. Assumes nothing.
use Prim.Native.Nat.{ℕ, zero, suc, ◌+◌, ◌<◌}
use native.Mathlib.Omega.{arith}
use native.Mathlib.Numerals.{add-one}
use mathlib.Core.Path.{◌≡◌, refl, sym, ap, ◌∙◌}
use mathlib.Core.List.{List, [], ◌∷◌, ◌++◌, map}
use lib.ListN.{length, get_or, take, drop, set, length-append, length-map, length-set}
use lib.Seq.{drop-cons, set_at, set_split, append_snoc, length-take-le, get_or_at, drop_at}
use Rattle.words.specs.Words.{laid}
use Rattle.words.proofs.Laid.{laid-front}

-- a word stored behind the first i
pub store-next : (F l : List ℕ) (i v : ℕ) → length F ≡ i → i < length l → set (F ++ drop i l) i v ≡ (F ++ (v ∷ [])) ++ drop (i + 1) l
store-next F l i v e h =
    rw (add-one i)
    (ap (λ r. set (F ++ r) i v) (drop-cons l i 0 h) ∙ set_at F (get_or l i 0) (drop (suc i) l) v i e ∙ sym (append_snoc F v (drop (suc i) l)))

-- one word more of a list that goes through a function
map-suc : (f : ℕ → ℕ) (l : List ℕ) (i : ℕ) → i < length l → map f (take (suc i) l) ≡ map f (take i l) ++ (f (get_or l i 0) ∷ [])
map-suc f [] i h = absurd (omega arith)
map-suc f (x ∷ l) zero h = refl
map-suc f (x ∷ l) (suc i) h = ap (λ r. f x ∷ r) (map-suc f l i (omega arith))

-- the loop that sends each word of a buffer through a function: the word that comes next, and a turn
module _ (f : ℕ → ℕ) (l₀ l : List ℕ) (i : ℕ) (inv : l ≡ map f (take i l₀) ++ drop i l₀) (same : length l ≡ length l₀) where
  module _ (h : i < length l) where
    done : length (map f (take i l₀)) ≡ i
    done = length-map (take i l₀) f ∙ length-take-le i l₀ (omega arith)

    pub word_next : get_or l i 0 ≡ get_or l₀ i 0
    word_next = rw (inv, drop-cons l₀ i 0 (omega arith)) (get_or_at (map f (take i l₀)) (get_or l₀ i 0) (drop (suc i) l₀) 0 i done)

    pub word-turn : (l' : List ℕ) (w : ℕ) → w ≡ get_or l i 0 → l' ≡ set l i (f w) → l' ≡ map f (take (i + 1) l₀) ++ drop (i + 1) l₀
    word-turn l' w d e =
        e
        ∙ ap (λ x. set l i (f x)) (d ∙ word_next)
        ∙ ap (λ x. set x i (f (get_or l₀ i 0))) inv
        ∙ store-next (map f (take i l₀)) l₀ i (f (get_or l₀ i 0)) done (omega arith)
        ∙ ap (λ x. x ++ drop (i + 1) l₀) (sym (map-suc f l₀ i (omega arith)) ∙ ap (λ k. map f (take k l₀)) (sym (add-one i)))

-- the last of some words may be stored before the others
pub laid-last : (F l : List ℕ) (n v : ℕ) → length F ≡ n → n < length l → laid 0 F (set l n v) ≡ laid 0 (F ++ (v ∷ [])) l
laid-last F l n v e h =
    let m : length (set l n v) ≡ length l = length-set l n v in
    let k : length (F ++ (v ∷ [])) ≡ suc n = length-append F (v ∷ []) ∙ omega arith in
    let d : drop n (set l n v) ≡ v ∷ drop (suc n) l =
    ap (drop n) (set_split l n v h) ∙ drop_at (take n l) (v ∷ drop (suc n) l) n (length-take-le n l (omega arith)) in
    laid-front F (set l n v) n e (omega arith)
    ∙ rw d (sym (append_snoc F v (drop (suc n) l)))
    ∙ sym (laid-front (F ++ (v ∷ [])) l (suc n) k h)
