-- The rows of the words that bytes are stand in the bytes, one in each 44; and a word of them, stored. Assumes nothing.
use Prim.Native.Nat.{ℕ, zero, suc, ◌+◌, ◌-◌, ◌*◌, ◌/◌, ◌^◌, ◌≤◌, ◌<◌}
use native.Mathlib.Omega.{arith}
use mathlib.Core.Path.{◌≡◌, refl, sym, ap, ap₂, ◌∙◌}
use mathlib.Core.List.{List, [], ◌∷◌, ◌++◌, append-nil, map}
use borrow.Rule.Slice.PartMut.{put_mid}
use lib.ListN.{length, take, drop, set, length-drop, drop_of_length-le}
use lib.Seq.{length-take-le, set_split}
use Rattle.std.proofs.lemmas.List.{set_past}
use Rattle.std.specs.Int.{w32, to_le_bytes}
use Rattle.std.specs.Simd.{first_chunks}
use Rattle.words.specs.Words.{copied, laid}
use Rattle.words.specs.Records.{records, rows_of}
use Rattle.words.specs.Bytes.{word_bytes, word_of, words_in, bytes_of}
use Rattle.words.proofs.RecordLaws.{rows_take, rows_drop}
use Rattle.words.proofs.Bytes.{chunks-records, length-words, words-read, bytes-written}
use Rattle.words.proofs.Laid.{copied-fits, laid-front, put-laid, laid-is}
use Rattle.row.specs.Row.{row_length}
use Rattle.units.specs.Laws.{bytes-first, bytes-joined}

-- how many bytes a row has
abbrev row_bytes : ℕ
row_bytes = word_bytes * row_length

-- record by record
records_words : (n : ℕ) (t : List ℕ) → n * row_bytes ≤ length t → map words_in (records n row_bytes t) ≡ records n row_length (words_in t)
records_words zero t h = refl
records_words (suc n) t h =
    let a : words_in (take row_bytes t) ≡ take row_length (words_in t) = rows_take word_bytes word_of (omega arith) row_length t (omega arith) in
    let b : words_in (drop row_bytes t) ≡ drop row_length (words_in t) = rows_drop word_bytes word_of (omega arith) row_length t (omega arith) in
    ap₂ (λ (x : List ℕ) (y : List (List ℕ)). x ∷ y) a
    (records_words n (drop row_bytes t) (omega (arith, length-drop row_bytes t)) ∙ ap (records n row_length) b)

rows-many : (t : List ℕ) → length (words_in t) / row_length ≡ length t / row_bytes
rows-many t = omega (arith, length-words t)

pub byte-rows : (t : List ℕ) (rows : List (List ℕ)) → rows ≡ first_chunks row_bytes (length t / row_bytes) t
    → map words_in rows ≡ records (length (words_in t) / row_length) row_length (words_in t)
byte-rows t rows e =
    ap (map words_in) (e ∙ chunks-records (length t / row_bytes) row_bytes t)
    ∙ records_words (length t / row_bytes) t (omega arith)
    ∙ ap (λ n. records n row_length (words_in t)) (sym (rows-many t))

pub byte-words : (b : List ℕ) (fours : List (List ℕ)) → fours ≡ first_chunks word_bytes (length b / word_bytes) b → map word_of fours ≡ words_in b
unfolding rows_of
byte-words b fours e = ap (map word_of) (e ∙ chunks-records (length b / word_bytes) word_bytes b)

-- bytes that fill a row
pub fills : (F out : List ℕ) → length F ≡ length out → copied 0 F out ≡ F
fills F out n =
    copied-fits 0 F out (omega (arith, n))
    ∙ laid-front F out (length out) n (omega arith)
    ∙ ap (λ x. F ++ x) (drop_of_length-le out (omega arith))
    ∙ append-nil F

-- a word stored among bytes: its four bytes take the place of those that were there
store-byte : (b : List ℕ) (at w : ℕ) → at < length b / word_bytes → words_in (laid (at * word_bytes) (bytes_of w) b) ≡ set (words_in b) at w
store-byte b at w h =
    let a : ℕ = at * word_bytes in
    let behind : List ℕ = drop (a + word_bytes) b in
    let q : a + word_bytes ≡ suc at * word_bytes = omega arith in
    let rest : words_in behind ≡ drop (suc at) (words_in b) =
    ap (λ n. words_in (drop n b)) q ∙ rows_drop word_bytes word_of (omega arith) (suc at) b (omega arith) in
    ap words_in (laid-is a (bytes_of w) b (omega arith))
    ∙ bytes-joined at (take a b) (bytes_of w ++ behind) (length-take-le a b (omega arith))
    ∙ ap₂ ◌++◌ (bytes-first at b (omega arith)) (bytes-joined 1 (bytes_of w) behind refl ∙ ap₂ ◌++◌ (words-read (w ∷ [])) rest)
    ∙ sym (set_split (words_in b) at w (omega (arith, length-words b)))

pub byte-put : (b part : List ℕ) (at w : ℕ) → part ≡ to_le_bytes w32 w → at < length b / word_bytes → w < 2 ^ 32
    → words_in (put_mid (at * word_bytes) (at * word_bytes + word_bytes - at * word_bytes) b part) ≡ set (words_in b) at w
byte-put b part at w e h f =
    let k : at * word_bytes + word_bytes - at * word_bytes ≡ word_bytes = omega arith in
    ap words_in (put-laid (at * word_bytes) _ (bytes_of w) b part (e ∙ bytes-written w f) k (omega arith)) ∙ store-byte b at w h

pub byte-out : (b : List ℕ) (at w : ℕ) → length b / word_bytes ≤ at → words_in b ≡ set (words_in b) at w
byte-out b at w h = sym (set_past (words_in b) at w (omega (arith, length-words b)))
