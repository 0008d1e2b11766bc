-- The words of a text, each with the byte where it starts. See docs/NOTATION.md, "Words".
--
--   newline, hash          the bytes that end a line and start a comment
--   is_blank, is_mark      a byte that parts words, and one that is a word of its own
--   in_word                a byte that words are made of
--   Token                  a word and where it starts; the end of a text is an empty word
--   behind_gap             what stands behind blanks and comments
--   run, front             how many bytes the run of bytes has, and the word, that stands at the front
--   tokens_from, tokens_of the words from some bytes on, and of a text
--   word, at, next         the first word of some that are left, its place, and the others; the end stays
--   is w ts                the first word is w
--   ended                  none but the end is left
use Rattle.std.specs.Prelude.{ℕ, zero, suc, ◌-◌, Bool, true, false, not, ◌&&◌, ◌||◌, List, [], ◌∷◌, length, take, drop, if◌then◌else◌, ◌==◌, bytes_eq}

-- the byte that ends a line
abbrev pub newline : ℕ
newline = 10

-- the byte that starts a comment
abbrev pub hash : ℕ
hash = 35

-- a blank, a tab, a line feed, a carriage return
abbrev pub is_blank : ℕ → Bool
is_blank b = b == 32 || b == 9 || b == newline || b == 13

-- the marks: a colon and the two braces
abbrev pub colon : ℕ
colon = 58

abbrev pub open_brace : ℕ
open_brace = 123

abbrev pub close_brace : ℕ
close_brace = 125

abbrev pub is_mark : ℕ → Bool
is_mark b = b == colon || b == open_brace || b == close_brace

-- any other byte is part of a word
abbrev pub in_word : ℕ → Bool
in_word b = not (is_blank b) && not (is_mark b) && not (b == hash)

-- a word and the byte of the text where it starts
pub record Token : Type 0 where
  pub at : ℕ
  pub word : List ℕ

-- what stands behind blanks and comments, from inside a comment or not; a comment ends with its line
abbrev pub behind_gap : Bool → List ℕ → List ℕ
behind_gap inside [] = []
behind_gap true (b ∷ bs) = behind_gap (not (b == newline)) bs
behind_gap false (b ∷ bs) =
    if b == hash then behind_gap true bs else (if is_blank b then behind_gap false bs else b ∷ bs)

-- how many bytes of words stand at the front
abbrev pub run : List ℕ → ℕ
run [] = 0
run (b ∷ bs) = if in_word b then suc (run bs) else 0

-- how many bytes the word at the front has: a mark one, any other word as many as the run
abbrev pub front : List ℕ → ℕ
front [] = 0
front (b ∷ bs) = if is_mark b then 1 else run (b ∷ bs)

-- the word at the front of what is left of n bytes
abbrev pub token_at : ℕ → List ℕ → Token
token_at n left = record { at = n - length left; word = take (front left) left }

-- the words in what is left of n bytes, at most k and the end; the end stands behind the last byte
abbrev pub tokens_from : ℕ → ℕ → List ℕ → List Token
tokens_from zero n left = token_at n [] ∷ []
tokens_from (suc k) n left =
    let found : List ℕ = behind_gap false left in
    token_at n found ∷ (if length found == 0 then [] else tokens_from k n (drop (front found) found))

-- the words of a text, and the end
abbrev pub tokens_of : List ℕ → List Token
tokens_of text = tokens_from (length text) (length text) text

-- the first word of those that are left
abbrev pub word : List Token → List ℕ
word [] = []
word (t ∷ ts) = t.word

-- where it stands
abbrev pub at : List Token → ℕ
at [] = 0
at (t ∷ ts) = t.at

-- those behind it; the end stays
abbrev pub next : List Token → List Token
next [] = []
next (t ∷ []) = t ∷ []
next (t ∷ u ∷ ts) = u ∷ ts

-- the first word is w
abbrev pub is : List ℕ → List Token → Bool
is w ts = bytes_eq (word ts) w

-- only the end is left
abbrev pub ended : List Token → Bool
ended ts = is [] ts
