-- Words that are put into a sink in parts, one behind the other, and their bytes in a buffer. Assumes nothing.
use Rattle.std.proofs.Common.{◌≡◌, sym, ap, ◌∙◌, append-nil, List, [], ◌∷◌, ◌++◌, ℕ, ◌+◌, ◌*◌, ◌<◌, ◌≤◌, length, get_or, take, arith, add-one}
use Rattle.std.proofs.Math.Seq.{take-suc}
use Rattle.std.proofs.lemmas.List.{replicate-append-replicate}
use Rattle.words.specs.Words.{zeros, copied}
use Rattle.words.specs.Records.{flat}
use Rattle.words.specs.Bytes.{word_bytes, words_in, bytes_of}
use Rattle.words.proofs.Laid.{copied-fits, take-laid}
use Rattle.words.proofs.Bytes.{length-bytes, length-words}
use Rattle.words.proofs.RecordLaws.{flat_append}

-- words that are given in two parts, by a sink's law of bytes behind others
pub words_then : {S : Type 0} (gives : S → List ℕ → S → Type 0)
    → ((a b c : S) (xs ys : List ℕ) → gives a xs b → gives b ys c → gives a (xs ++ ys) c)
    → (a b c : S) (ws vs : List ℕ) → gives a (flat bytes_of ws) b → gives b (flat bytes_of vs) c
    → gives a (flat bytes_of (ws ++ vs)) c
words_then gives then a b c ws vs p q = rw (flat_append bytes_of ws vs) (then a b c (flat bytes_of ws) (flat bytes_of vs) p q)

-- zeros behind zeros
pub zeros_then : (m n : ℕ) → zeros (m + n) ≡ zeros m ++ zeros n
zeros_then m n = sym (replicate-append-replicate m n 0)

-- the words of a list with one more of its entries
pub flat_more : {X : Type 0} (words : X → List ℕ) (l : List X) (i : ℕ) (d : X) → i < length l
    → flat words (take (i + 1) l) ≡ flat words (take i l) ++ words (get_or l i d)
flat_more words l i d h =
    rw (add-one i)
    (ap (flat words) (take-suc l i d h) ∙ flat_append words (take i l) (get_or l i d ∷ [])
    ∙ ap (λ r. flat words (take i l) ++ r) (append-nil (words (get_or l i d))))

-- the bytes of words, at the start of a buffer
pub bytes_stored : (words l m : List ℕ) → m ≡ copied 0 (flat bytes_of words) l → word_bytes * length words ≤ length l
    → take (word_bytes * length words) m ≡ flat bytes_of words
bytes_stored words l m e h =
    let n : length (flat bytes_of words) ≡ word_bytes * length words = length-bytes words in
    ap (take (word_bytes * length words)) (e ∙ copied-fits 0 (flat bytes_of words) l (omega arith))
    ∙ take-laid (flat bytes_of words) l (word_bytes * length words) n h

-- the words of bytes, at the start of a buffer
pub words_stored : (bytes l m : List ℕ) (n : ℕ) → m ≡ copied 0 (words_in bytes) l → length bytes ≡ word_bytes * n → n ≤ length l
    → take n m ≡ words_in bytes
words_stored bytes l m n e k h =
    let size : length (words_in bytes) ≡ n = omega (arith, length-words bytes) in
    ap (take n) (e ∙ copied-fits 0 (words_in bytes) l (omega arith)) ∙ take-laid (words_in bytes) l n size h

-- a text in a reply: a word for its length, the text, and zeros behind it
pub text_then : {S : Type 0} (gives : S → List ℕ → S → Type 0)
    → ((a b c : S) (xs ys : List ℕ) → gives a xs b → gives b ys c → gives a (xs ++ ys) c)
    → (a b c d : S) (n : ℕ) (text pad : List ℕ) → gives a (flat bytes_of (n ∷ [])) b → gives b text c → gives c pad d
    → gives a (bytes_of n ++ (text ++ pad)) d
text_then gives then a b c d n text pad p q r = then a b d (bytes_of n) (text ++ pad) p (then b c d text pad q r)
