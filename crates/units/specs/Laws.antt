-- What makes words and bytes units: how many a word is, and the words of a part of a buffer.
use Rattle.std.specs.Prelude.{ℕ, zero, suc, ◌+◌, ◌*◌, ◌≤◌, ◌≡◌, refl, List, [], ◌∷◌, ◌++◌, length, take, drop}
use Rattle.std.proofs.Common.{ap, ap₂, sym, ◌∙◌, arith}
use lib.ListN.{length-append, length-drop}
use lib.Seq.{take-append-le, drop-append-le}
use Rattle.std.proofs.lemmas.List.{nil_from_length}
use Rattle.words.specs.Bytes.{word_bytes, word_of, words_in}
use Rattle.words.proofs.RecordLaws.{rows_more, rows_none, rows_take}
use Rattle.words.proofs.Bytes.{length-words}

-- a word is one unit where words are lent
pub words-fit : (n : ℕ) (l : List ℕ) → n ≤ length l → n * 1 ≤ length l
words-fit n l h = omega arith

pub words-first : (n : ℕ) (l : List ℕ) → n * 1 ≤ length l → take (n * 1) l ≡ take n l
words-first n l h = let e : n * 1 ≡ n = omega arith in ap (λ k. take k l) e

pub words-joined : (n : ℕ) (l m : List ℕ) → length l ≡ n * 1 → l ++ m ≡ l ++ m
words-joined n l m h = refl

-- and four where bytes are
pub bytes-fit : (n : ℕ) (b : List ℕ) → n ≤ length (words_in b) → n * word_bytes ≤ length b
bytes-fit n b h = omega (arith, length-words b)

pub bytes-first : (n : ℕ) (b : List ℕ) → n * word_bytes ≤ length b
    → words_in (take (n * word_bytes) b) ≡ take n (words_in b)
bytes-first n b h = rows_take word_bytes word_of (omega arith) n b h

pub bytes-joined : (n : ℕ) (b c : List ℕ) → length b ≡ n * word_bytes → words_in (b ++ c) ≡ words_in b ++ words_in c
bytes-joined zero b c h =
    let e : b ≡ [] = nil_from_length b (omega arith) in
    rw e (ap (λ (ws : List ℕ). ws ++ words_in c) (sym (rows_none word_bytes word_of (omega arith) [] (omega arith))))
bytes-joined (suc n) b c h =
    let q : suc n * word_bytes ≡ word_bytes + n * word_bytes = omega arith in
    let m : word_bytes ≤ length (b ++ c) = omega (arith, length-append b c) in
    let d : drop word_bytes (b ++ c) ≡ drop word_bytes b ++ c = drop-append-le word_bytes b c (omega arith) in
    let t : take word_bytes (b ++ c) ≡ take word_bytes b = take-append-le word_bytes b c (omega arith) in
    rows_more word_bytes word_of (omega arith) (b ++ c) m
    ∙ ap₂ (λ (x y : List ℕ). word_of x ∷ words_in y) t d
    ∙ ap (λ (ws : List ℕ). word_of (take word_bytes b) ∷ ws)
    (bytes-joined n (drop word_bytes b) c (omega (arith, length-drop word_bytes b)))
    ∙ ap (λ (ws : List ℕ). ws ++ words_in c) (sym (rows_more word_bytes word_of (omega arith) b (omega arith)))
