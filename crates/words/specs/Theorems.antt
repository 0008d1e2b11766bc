-- What is proved of words and bytes. Each statement is proved in proofs/Bytes.antt under the name given behind it.
use Rattle.std.specs.Prelude.{ℕ, ◌%◌, ◌<◌, ◌≡◌, List, [], ◌∷◌, length, ⊤}
use Rattle.words.specs.Records.{flat}
use Rattle.words.specs.Bytes.{word_bytes, words_in, bytes_of}

-- the bytes of words read back as those words (words-read)
abbrev pub WordsRead : Type 0
WordsRead = (words : List ℕ) → words_in (flat bytes_of words) ≡ words

-- each is a byte
abbrev pub EveryByte : List ℕ → Type 0
EveryByte [] = ⊤
EveryByte (b ∷ bytes) = (b < 256) × EveryByte bytes

-- whole words of bytes are the bytes of those words, so no two inputs are one file (bytes_read)
abbrev pub BytesRead : Type 0
BytesRead = (bytes : List ℕ) → EveryByte bytes → length bytes % word_bytes ≡ 0 → flat bytes_of (words_in bytes) ≡ bytes
