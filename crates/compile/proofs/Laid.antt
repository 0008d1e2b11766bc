-- Laws of words laid over a buffer, part after part: laid one behind the other, read back, and hidden by what is laid over them. Assumes nothing.
use Rattle.std.proofs.Common.{ℕ, ◌+◌, ◌-◌, ◌≤◌, arith, ◌≡◌, refl, sym, ap, ◌∙◌, List, ◌++◌, append_assoc, length, take, drop, length-append, length-drop}
use Rattle.std.proofs.Common.{take-append-drop, length-take-le, take_at, drop_at, drop-drop}
use Rattle.words.specs.Words.{laid}
use Rattle.words.proofs.Laid.{laid_then, laid-is, length-laid}

-- the words before it stay
laid-before : (a : ℕ) (F l : List ℕ) → a + length F ≤ length l → take a (laid a F l) ≡ take a l
laid-before a F l h = rw (laid-is a F l h) (take_at (take a l) (F ++ drop (a + length F) l) a (length-take-le a l (omega arith)))

-- and so do those behind it
laid-behind : (a n : ℕ) (F l : List ℕ) → a + length F ≤ length l → a + length F ≤ n → drop n (laid a F l) ≡ drop n l
laid-behind a n F l h g =
    let q : n ≡ a + length F + (n - (a + length F)) = omega arith in
    rw (laid-is a F l h, q)
    (sym (drop-drop (n - (a + length F)) (a + length F) (take a l ++ (F ++ drop (a + length F) l)))
    ∙ ap (drop (n - (a + length F)))
    (ap (drop (a + length F)) (sym (append_assoc (take a l) F (drop (a + length F) l)))
    ∙ drop_at (take a l ++ F) (drop (a + length F) l) (a + length F)
    (length-append (take a l) F ∙ ap (λ k. k + length F) (length-take-le a l (omega arith))))
    ∙ drop-drop (n - (a + length F)) (a + length F) l)

-- a longer part over a shorter one hides it
pub laid-over : (a : ℕ) (F G l : List ℕ) → a + length F ≤ length l → length G ≤ length F → laid a F (laid a G l) ≡ laid a F l
laid-over a F G l h g =
    let k : a + length F ≤ length (laid a G l) = rw length-laid h in
    laid-is a F (laid a G l) k
    ∙ ap (λ t. t ++ (F ++ drop (a + length F) (laid a G l))) (laid-before a G l (omega arith))
    ∙ ap (λ d. take a l ++ (F ++ d)) (laid-behind a (a + length F) G l (omega arith) (omega arith))
    ∙ sym (laid-is a F l h)

-- laying what is there changes nothing
pub laid_same : (a n : ℕ) (l : List ℕ) → a + n ≤ length l → laid a (take n (drop a l)) l ≡ l
laid_same a n l h =
    let e : length (take n (drop a l)) ≡ n = length-take-le n (drop a l) (rw length-drop (omega arith)) in
    laid-is a (take n (drop a l)) l (rw e h)
    ∙ ap (λ m. take a l ++ (take n (drop a l) ++ drop (a + m) l)) e
    ∙ ap (λ d. take a l ++ (take n (drop a l) ++ d)) (sym (drop-drop n a l))
    ∙ ap (λ d. take a l ++ d) (take-append-drop n (drop a l))
    ∙ take-append-drop a l

-- from its place on, the words laid and then those behind them
pub laid-front : (a : ℕ) (F l : List ℕ) → a + length F ≤ length l → drop a (laid a F l) ≡ F ++ drop (a + length F) l
laid-front a F l h = rw (laid-is a F l h) (drop_at (take a l) (F ++ drop (a + length F) l) a (length-take-le a l (omega arith)))

-- what is laid is read back
pub laid-part : (a : ℕ) (F l : List ℕ) → a + length F ≤ length l → take (length F) (drop a (laid a F l)) ≡ F
laid-part a F l h = rw (laid-front a F l h) (take_at F (drop (a + length F) l) (length F) refl)

-- of two parts, the first is read back
pub laid-first : (a : ℕ) (F G l : List ℕ) → a + length F + length G ≤ length l → take (length F) (drop a (laid a (F ++ G) l)) ≡ F
laid-first a F G l h =
    let e : length (F ++ G) ≡ length F + length G = length-append F G in
    rw (laid-front a (F ++ G) l (omega arith), append_assoc F G (drop (a + length (F ++ G)) l))
    (take_at F (G ++ drop (a + length (F ++ G)) l) (length F) refl)

-- and so is the second
pub laid-second : (a : ℕ) (F G l : List ℕ) → a + length F + length G ≤ length l
    → take (length G) (drop (a + length F) (laid a (F ++ G) l)) ≡ G
laid-second a F G l h =
    ap (λ x. take (length G) (drop (a + length F) x)) (sym (laid_then a F G l))
    ∙ laid-part (a + length F) G (laid a F l) (rw length-laid h)
