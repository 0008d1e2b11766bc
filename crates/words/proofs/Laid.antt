-- Laws of words laid over a buffer: part after part, what is laid, what stays, what a written part is, and the turns of a loop that stores. Assumes nothing.
use Prim.Native.Nat.{ℕ, suc, ◌+◌, ◌-◌, ◌≤◌, ◌<◌}
use native.Mathlib.Omega.{arith}
use native.Mathlib.Numerals.{add-one}
use native.Mathlib.Nat.{add-zero}
use mathlib.Core.Path.{◌≡◌, refl, sym, ap, ◌∙◌}
use mathlib.Core.List.{List, [], ◌∷◌, ◌++◌, append_assoc, append-nil}
use borrow.Rule.Slice.PartMut.{put_mid}
use lib.ListN.{length, get_or, take, drop, set, replicate, drop_of_length-le, get_or-append, length-drop}
use lib.Seq.{sets, length-sets, sets-eq, set_out, drop-cons, drop-drop, take_all, take_at, drop_at, length-take-le}
use borrow.Author.Tests.{le-leb, lt-leb}
use Rattle.words.specs.Words.{laid, copied, cleared}
use Rattle.logic.proofs.Tests.{by_le}

-- no words change nothing
pub laid_none : (a : ℕ) (l : List ℕ) → laid a [] l ≡ l
unfolding laid
laid_none a l = refl

-- one word laid is one word stored
pub laid_one : (a v : ℕ) (l : List ℕ) → laid a (v ∷ []) l ≡ set l a v
unfolding laid
laid_one a v l = refl

-- one word, then the rest
pub laid_cons : (a v : ℕ) (F l : List ℕ) → laid a (v ∷ F) l ≡ laid (suc a) F (set l a v)
unfolding laid
laid_cons a v F l = refl

pub length-laid : (a : ℕ) (F l : List ℕ) → length (laid a F l) ≡ length l
unfolding laid
length-laid a F l = length-sets l a F

-- one part, then the next behind it
pub laid_then : (a : ℕ) (F G l : List ℕ) → laid (a + length F) G (laid a F l) ≡ laid a (F ++ G) l
unfolding laid
laid_then a [] G l = ap (λ k. sets l k G) (add-zero a)
laid_then a (v ∷ F) G l =
    let q : a + suc (length F) ≡ suc a + length F = omega arith in
    ap (λ k. sets (sets (set l a v) (suc a) F) k G) q ∙ laid_then (suc a) F G (set l a v)

-- from the buffer's end on nothing is laid
pub laid_out : (a : ℕ) (F l : List ℕ) → length l ≤ a → laid a F l ≡ l
unfolding laid
laid_out a [] l h = refl
laid_out a (v ∷ F) l h = rw (set_out l a v h) (laid_out (suc a) F l (omega arith))

-- what the words are, where they fit
pub laid-is : (a : ℕ) (F l : List ℕ) → a + length F ≤ length l → laid a F l ≡ take a l ++ (F ++ drop (a + length F) l)
unfolding laid
laid-is a F l h = sets-eq F l a h ∙ append_assoc (take a l) F (drop (a + length F) l)

-- words laid at the start of a buffer that holds them: its first words, and the others, which stay
module _ (F l : List ℕ) (n : ℕ) (e : length F ≡ n) (h : n ≤ length l) where
  pub laid-front : laid 0 F l ≡ F ++ drop n l
  laid-front =
      let k : 0 + length F ≡ n = omega arith in
      laid-is 0 F l (omega arith) ∙ ap (λ x. F ++ drop x l) k

  pub take-laid : take n (laid 0 F l) ≡ F
  take-laid = ap (take n) laid-front ∙ take_at F (drop n l) n e

  pub drop-laid : drop n (laid 0 F l) ≡ drop n l
  drop-laid = ap (drop n) laid-front ∙ drop_at F (drop n l) n e

  pub get_or-laid : (i : ℕ) → i < n → get_or (laid 0 F l) i 0 ≡ get_or F i 0
  get_or-laid i g = ap (λ x. get_or x i 0) laid-front ∙ get_or-append F (drop n l) 0 i (omega arith)

-- words that fit are laid, others change nothing
pub copied-fits : (a : ℕ) (F l : List ℕ) → a + length F ≤ length l → copied a F l ≡ laid a F l
unfolding copied
copied-fits a F l h = rw (le-leb _ _ h)

pub copied-not : (a : ℕ) (F l : List ℕ) → length l < a + length F → copied a F l ≡ l
unfolding copied
copied-not a F l h = rw (lt-leb _ _ h)

pub length-copied : (a : ℕ) (F l : List ℕ) → length (copied a F l) ≡ length l
length-copied a F l =
    by_le (a + length F) (length l)
    (λ h. rw (copied-fits a F l h) (length-laid a F l))
    (λ h. rw (copied-not a F l h))

-- a part of a buffer, written over by words as long as it, is those words laid
pub put-laid : (a k : ℕ) (F l part : List ℕ) → part ≡ F → k ≡ length F → a + length F ≤ length l → put_mid a k l part ≡ laid a F l
put-laid a k F l part e q h =
    rw (e, q) (ap (λ d. take a l ++ (F ++ d)) (drop-drop (length F) a l) ∙ sym (laid-is a F l h))

-- zeros written over all from a place on are the buffer cleared from there
pub put-cleared : (a : ℕ) (l part : List ℕ) → a ≤ length l → part ≡ replicate (length (take (length l - a) (drop a l))) 0
    → put_mid a (length l - a) l part ≡ cleared a l
unfolding cleared
put-cleared a l part h e =
    let n : length (drop a l) ≡ length l - a = length-drop a l in
    let m : length (take (length l - a) (drop a l)) ≡ length l - a = length-take-le (length l - a) (drop a l) (omega arith) in
    let d : drop (length l - a) (drop a l) ≡ [] = drop_of_length-le (drop a l) (omega arith) in
    rw (e, m, d) (ap (λ x. take a l ++ x) (append-nil (replicate (length l - a) 0)))

-- a buffer cleared from its end on is as it was
pub cleared-none : (a : ℕ) (l : List ℕ) → length l < a → cleared a l ≡ l
unfolding cleared
cleared-none a l h =
    let q : length l - a ≡ 0 = omega arith in
    rw (q, take_all a l (omega arith)) (append-nil l)

-- the loops that store words one by one, the next at the place p: a turn, and its end
pub store-turn : (p : ℕ) (F l whole : List ℕ) (i v : ℕ) → laid p (drop i F) l ≡ whole → i < length F → v ≡ get_or F i 0
    → laid (p + 1) (drop (i + 1) F) (set l p v) ≡ whole
store-turn p F l whole i v e h d =
    rw (add-one p, add-one i, d)
    (sym (laid_cons p (get_or F i 0) (drop (suc i) F) l) ∙ ap (λ G. laid p G l) (sym (drop-cons F i 0 h)) ∙ e)

pub store-end : (p : ℕ) (F l whole : List ℕ) (i : ℕ) → laid p (drop i F) l ≡ whole → length F ≤ i → l ≡ whole
store-end p F l whole i e h = sym (laid_none p l) ∙ ap (λ G. laid p G l) (sym (drop_of_length-le F h)) ∙ e
