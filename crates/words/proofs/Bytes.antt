-- Words laid from bytes, and bytes from words: the turns of the two loops, and that each reads back as the other. Assumes nothing.
use Prim.Native.Nat.{ℕ, zero, suc, ◌+◌, ◌-◌, ◌*◌, ◌/◌, ◌%◌, ◌^◌, ◌≤◌, ◌<◌}
use native.Mathlib.Omega.{arith}
use native.Mathlib.Numerals.{add-one}
use mathlib.Core.Path.{◌≡◌, refl, sym, ap, ap₂, ◌∙◌}
use mathlib.Core.List.{List, [], ◌∷◌, ◌++◌, map}
use borrow.Rule.Slice.PartMut.{put_mid}
use Rattle.std.specs.Int.{w32, to_le_bytes, from_le_bytes}
use Rattle.std.specs.Simd.{first_chunks}
use lib.ListN.{length, get_or, take, drop, drop_of_length-le, length-map}
use lib.Seq.{drop-cons}
use Rattle.words.specs.Words.{laid}
use Rattle.words.specs.Records.{records, rows_of, flat}
use Rattle.words.specs.Bytes.{word_bytes, word_of, words_in, bytes_of}
use Rattle.words.specs.Theorems.{WordsRead, BytesRead}
use Rattle.words.proofs.Laid.{laid_none, laid_then, put-laid}
use Rattle.words.proofs.RecordLaws.{rows_more, rows-flat, length-records}

-- the first chunks of some words are their records
pub chunks-records : (n k : ℕ) (xs : List ℕ) → first_chunks k n xs ≡ records n k xs
chunks-records zero k xs = refl
chunks-records (suc n) k xs = ap (λ rs. take k xs ∷ rs) (chunks-records n k (drop k xs))

-- a chunk is read as its word
word-at : (rs : List (List ℕ)) (i : ℕ) → get_or (map word_of rs) i 0 ≡ word_of (get_or rs i [])
word-at [] i = refl
word-at (r ∷ rs) zero = refl
word-at (r ∷ rs) (suc i) = word-at rs i

pub word-read : (bytes : List ℕ) (fours : List (List ℕ)) (i v : ℕ) → fours ≡ first_chunks word_bytes (length bytes / word_bytes) bytes
    → v ≡ from_le_bytes w32 (get_or fours i []) → v ≡ get_or (words_in bytes) i 0
unfolding rows_of
word-read bytes fours i v e d =
    let w : v ≡ word_of (get_or fours i []) = omega (arith, d) in
    w
    ∙ ap (λ (rs : List (List ℕ)). word_of (get_or rs i [])) (e ∙ chunks-records (length bytes / word_bytes) word_bytes bytes)
    ∙ sym (word-at (records (length bytes / word_bytes) word_bytes bytes) i)

-- the four bytes of a word, as they are written
pub bytes-written : (w : ℕ) → w < 2 ^ 32 → to_le_bytes w32 w ≡ bytes_of w
bytes-written w h =
    let top : w / 16777216 % 256 ≡ w / 16777216 = omega arith in
    ap (λ (x : ℕ). w % 256 ∷ w / 256 % 256 ∷ w / 65536 % 256 ∷ x ∷ []) top

-- the bytes of the words from a place on are still to be laid over l, and then it is the whole
abbrev pub bytes_ahead : List ℕ → ℕ → List ℕ → List ℕ
bytes_ahead words i l = laid (i * word_bytes) (flat bytes_of (drop i words)) l

pub bytes-turn : (words l part whole : List ℕ) (i : ℕ) → bytes_ahead words i l ≡ whole → part ≡ to_le_bytes w32 (get_or words i 0) → get_or words i 0 < 2 ^ 32
    → i < length words → i * word_bytes + word_bytes ≤ length l
    → bytes_ahead words (i + 1) (put_mid (i * word_bytes) (i * word_bytes + word_bytes - i * word_bytes) l part) ≡ whole
bytes-turn words l part whole i e d w h fits =
    let a : (i + 1) * word_bytes ≡ i * word_bytes + word_bytes = omega arith in
    let k : i * word_bytes + word_bytes - i * word_bytes ≡ word_bytes = omega arith in
    let p : put_mid (i * word_bytes) (i * word_bytes + word_bytes - i * word_bytes) l part ≡ laid (i * word_bytes) (bytes_of (get_or words i 0)) l =
    put-laid (i * word_bytes) _ (bytes_of (get_or words i 0)) l part (d ∙ bytes-written (get_or words i 0) w) k fits in
    rw (p, a, add-one i)
    (laid_then (i * word_bytes) (bytes_of (get_or words i 0)) (flat bytes_of (drop (suc i) words)) l
    ∙ ap (λ x. laid (i * word_bytes) (flat bytes_of x) l) (sym (drop-cons words i 0 h))
    ∙ e)

pub bytes-end : (words l whole : List ℕ) (i : ℕ) → bytes_ahead words i l ≡ whole → length words ≤ i → l ≡ whole
bytes-end words l whole i e h =
    sym (laid_none (i * word_bytes) l) ∙ ap (λ x. laid (i * word_bytes) (flat bytes_of x) l) (sym (drop_of_length-le words h)) ∙ e

-- there are as many words as whole words, and four bytes for each word
pub length-words : (bytes : List ℕ) → length (words_in bytes) ≡ length bytes / word_bytes
unfolding rows_of
length-words bytes = length-map (records (length bytes / word_bytes) word_bytes bytes) word_of ∙ length-records (length bytes / word_bytes) word_bytes bytes

pub length-bytes : (words : List ℕ) → length (flat bytes_of words) ≡ word_bytes * length words
length-bytes [] = omega arith
length-bytes (w ∷ ws) =
    let e : length (flat bytes_of ws) ≡ word_bytes * length ws = length-bytes ws in
    omega arith

-- each reads back as the other
pub words-read : WordsRead
words-read = rows-flat word_bytes word_of (omega arith) bytes_of (λ w. refl) (λ w. omega arith)

-- the bytes of the word that four bytes are
pub bytes-of : (p q r s w : ℕ) → p < 256 → q < 256 → r < 256 → s < 256 → w ≡ word_of (p ∷ q ∷ r ∷ s ∷ []) → bytes_of w ≡ p ∷ q ∷ r ∷ s ∷ []
bytes-of p q r s w hp hq hr hs e =
    let a : w % 256 ≡ p = omega arith in
    let b' : w / 256 ≡ q + 256 * r + 65536 * s = omega arith in
    let b : w / 256 % 256 ≡ q = rw b' (omega arith) in
    let c' : w / 65536 ≡ r + 256 * s = omega arith in
    let c : w / 65536 % 256 ≡ r = rw c' (omega arith) in
    let d : w / 16777216 ≡ s = omega arith in
    rw (a, b, c, d)

pub bytes_read : BytesRead
unfolding rows_of
bytes_read [] h e = refl
bytes_read (p ∷ []) h e = absurd (omega arith)
bytes_read (p ∷ q ∷ []) h e = absurd (omega arith)
bytes_read (p ∷ q ∷ r ∷ []) h e = absurd (omega arith)
bytes_read (p ∷ q ∷ r ∷ s ∷ b) h e =
    ap (flat bytes_of) (rows_more word_bytes word_of (omega arith) (p ∷ q ∷ r ∷ s ∷ b) (omega arith))
    ∙ ap₂ ◌++◌ (bytes-of p q r s (word_of (p ∷ q ∷ r ∷ s ∷ [])) h.0 h.1.0 h.1.1.0 h.1.1.1.0 refl) (bytes_read b h.1.1.1.1 (omega arith))
