-- What the calls of an agent answer, and what they leave in the buffers of bytes that are lent to them. The words of a
-- buffer are words_in of its bytes, the lowest byte of each first. See docs/FORMAT.md, "The agent's calls".
--
--   answer_length                   how many bytes an answer has
--   whole_words b                   bytes that are whole words
--   answer_sized b                  a buffer as long as an answer
--   refused_words r                 the four words of an answer where the call is refused: the place and zeros
--   answer_of_scan, answer_of_numbering
--                                   those of an answer: the place, and then the values
--   scan_right t p a                the lengths of table, packet and answer are right
--   scan_number, scan_answer        the number that the scan gives, and the answer buffer afterwards
--   numbering_right t p c a         the lengths of table, priorities, chain and answer are right
--   numbering_number, numbering_answer
--                                   the number that the numbering gives, and the answer buffer afterwards
--   priorities_left, chain_left     the other two buffers afterwards
use Rattle.std.specs.Prelude.{ℕ, ◌*◌, ◌%◌, Bool, ◌&&◌, List, [], ◌∷◌, Result, Ok, Err, length, if◌then◌else◌, ◌==◌}
use Rattle.words.specs.Records.{flat}
use Rattle.words.specs.Bytes.{word_bytes, words_in, bytes_of}
use Rattle.action.specs.Action.{kind_of, rate_of}
use Rattle.refusal.specs.Refusals.{reason_number, answer_number}
use Rattle.refusal.specs.declared.Reason.TheVariants.{WrongBytes}
use Rattle.refusal.specs.declared.Refusal.{Refusal}
use Rattle.table.specs.declared.Found.{Found}
use Rattle.table.specs.Scan.{scan_of}
use Rattle.priority.specs.Numbering.{number_of, priorities_after, chain_after}

-- how many bytes an answer has: four words
abbrev pub answer_length : ℕ
answer_length = word_bytes * 4

-- bytes that are whole words
abbrev pub whole_words : List ℕ → Bool
whole_words b = length b % word_bytes == 0

-- a buffer as long as an answer
abbrev pub answer_sized : List ℕ → Bool
answer_sized a = length a == answer_length

-- the words of an answer that is a refusal: its place, and zeros
abbrev pub refused_words : Refusal → List ℕ
refused_words r = r.place ∷ 0 ∷ 0 ∷ 0 ∷ []

-- the words of a scan's answer: the place, the action's kind and rate, and how many rows were tried
abbrev pub answer_of_scan : Result Found Refusal → List ℕ
answer_of_scan (Ok s) = 0 ∷ kind_of s.action ∷ rate_of s.action ∷ s.tried ∷ []
answer_of_scan (Err r) = refused_words r

-- the words of a numbering's answer: the place, how many priorities there are, and two zeros
abbrev pub answer_of_numbering : Result ℕ Refusal → List ℕ
answer_of_numbering (Ok n) = 0 ∷ n ∷ 0 ∷ 0 ∷ []
answer_of_numbering (Err r) = refused_words r

module _ (t p a : List ℕ) where
  -- whole words, and room for exactly an answer
  abbrev pub scan_right : Bool
  scan_right = whole_words t && whole_words p && answer_sized a

  -- 21 first of all, else the number of the scan of the words, 0 where it is none
  unfoldable pub scan_number : ℕ
  scan_number = if scan_right then answer_number (scan_of (words_in t) (words_in p)) else reason_number WrongBytes

  -- the answer of the scan of the words; unchanged where a length is wrong
  unfoldable pub scan_answer : List ℕ
  scan_answer = if scan_right then flat bytes_of (answer_of_scan (scan_of (words_in t) (words_in p))) else a

module _ (t p c a : List ℕ) where
  -- whole words, and room for exactly an answer
  abbrev pub numbering_right : Bool
  numbering_right = whole_words t && whole_words p && whole_words c && answer_sized a

  -- the numbering of the words
  abbrev pub numbering : Result ℕ Refusal
  numbering = number_of (words_in t) (length (words_in p)) (length (words_in c))

  -- 21 first of all, else the number of the numbering of the words, 0 where it is none
  unfoldable pub numbering_number : ℕ
  numbering_number = if numbering_right then answer_number numbering else reason_number WrongBytes

  -- the answer of the numbering of the words; unchanged where a length is wrong
  unfoldable pub numbering_answer : List ℕ
  numbering_answer = if numbering_right then flat bytes_of (answer_of_numbering numbering) else a

  -- the priorities' buffer, as it is on words
  unfoldable pub priorities_left : List ℕ
  priorities_left =
      if numbering_right then flat bytes_of (priorities_after (words_in t) (words_in p) (words_in c)) else p

  -- the chain's buffer, as it is on words
  unfoldable pub chain_left : List ℕ
  chain_left = if numbering_right then flat bytes_of (chain_after (words_in t) (words_in p) (words_in c)) else c
