-- How slices of words and texts stand in a stream of bytes.
--
--   most_words        the longest slice that is taken
--   most_bytes        the longest text that is taken
--   most_lent         the longest buffer of bytes that an agent's call may bring
--   slice_bytes ws    a slice of words: its length, then its words
--   padding n         how many bytes stand behind so many, up to a whole word
--   counted n b pad   bytes: a word for how many there are, then they, then so much padding
--   TextSent b s      the bytes s are the text b: any padding is right that is as long as it has to be
use Rattle.std.specs.Prelude.{ℕ, ◌≡◌, ◌-◌, ◌%◌, List, ◌++◌, length}
use Rattle.words.specs.Records.{flat}
use Rattle.words.specs.Bytes.{word_bytes, bytes_of}

-- the longest slice that is taken, in words
abbrev pub most_words : ℕ
most_words = 45100

-- the longest text that is taken, in bytes
abbrev pub most_bytes : ℕ
most_bytes = 52000

-- the longest buffer of bytes that an agent's call may bring
abbrev pub most_lent : ℕ
most_lent = 180300

-- a slice of words: its length, then its words
abbrev pub slice_bytes : List ℕ → List ℕ
slice_bytes ws = bytes_of (length ws) ++ flat bytes_of ws

-- how many bytes stand behind so many, up to a whole word
abbrev pub padding : ℕ → ℕ
padding n = (word_bytes - n % word_bytes) % word_bytes

-- bytes: a word for how many there are, then they, then so much padding
abbrev pub counted : ℕ → List ℕ → List ℕ → List ℕ
counted n b pad = bytes_of n ++ (b ++ pad)

-- the bytes s are the text b: any padding is right that is as long as it has to be
abbrev pub TextSent : List ℕ → List ℕ → Type 0
TextSent b s = (pad : List ℕ) × (length pad ≡ padding (length b)) × (s ≡ counted (length b) b pad)
