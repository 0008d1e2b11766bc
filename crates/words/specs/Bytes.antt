-- Words against bytes, the lowest byte of a word first.
--
--   word_of b     the word of four bytes
--   words_in b    the words of some bytes; bytes behind the last whole word are left out
--   bytes_of w    the bytes of a word
use Rattle.std.specs.Prelude.{ℕ, ◌+◌, ◌*◌, ◌/◌, ◌%◌, List, [], ◌∷◌, slice_index}
use Rattle.words.specs.Records.{rows_of}

-- how many bytes a word has
abbrev pub word_bytes : ℕ
word_bytes = 4

-- the word of four bytes
abbrev pub word_of : List ℕ → ℕ
word_of b = slice_index b 0 + 256 * slice_index b 1 + 65536 * slice_index b 2 + 16777216 * slice_index b 3

-- the words of some bytes
abbrev pub words_in : List ℕ → List ℕ
words_in b = rows_of word_bytes word_of b

-- the bytes of a word
abbrev pub bytes_of : ℕ → List ℕ
bytes_of w = w % 256 ∷ w / 256 % 256 ∷ w / 65536 % 256 ∷ w / 16777216 ∷ []
