-- What is promised of files of words as texts, of all bytes and of all words.
--
--   Low ns          numbers below 2 ^ 32
--   ReadExactly     a text is read exactly where it is made of the decimal words of some numbers, as these numbers
--   WordsBack       the text of some words is read as these words
--   FirstFault      what is told where a text is not read: the place of a word in the text that is no number; those
--                   before it are numbers
--   FaultsTold      where a text is not read, that is told
--   NotationApart   a text that is a policy in the notation does not begin with a digit
--   DecimalsRead    all of these
--   DecimalCases    texts and words, in literals
use Rattle.std.specs.Prelude.{ℕ, codes, ◌+◌, ◌^◌, ◌<◌, ◌≤◌, ◌≡◌, ◌↔◌, true, false, List, [], ◌∷◌, ◌++◌, Ok, Err, None, length, map, is_some}
use Rattle.std.specs.Fmt.{decimal}
use Rattle.logic.specs.Lists.{All}
use Rattle.tokens.specs.Tokens.{Token, tokens_of}
use Rattle.tokens.specs.Cut.{Cut}
use Rattle.values.specs.Numbers.{number_of}
use Rattle.notation.specs.Policy.{Entries}
use Rattle.notation.specs.Nodes as notation
use Rattle.decimals.specs.Read.{read_of, begins_with_digit}
use Rattle.decimals.specs.Text.{words_text}

-- numbers below 2 ^ 32
abbrev pub Low : List ℕ → Type 0
Low ns = All (λ n. n < 2 ^ 32) ns

-- a text is read exactly where it is made of the decimal words of some numbers
abbrev pub ReadExactly : Type 0
ReadExactly = (text ns : List ℕ) → (read_of text ≡ Ok ns) ↔ (Cut text (map decimal ns) × Low ns)

-- the text of some words is read as these words
abbrev pub WordsBack : Type 0
WordsBack = (ws : List ℕ) → Low ws → read_of (words_text ws) ≡ Ok ws

-- a place of a text is that of a word that is no number, and those before it are numbers
pub record FirstFault (text : List ℕ) (place : ℕ) : Type 0 where
  pub before : List Token
  pub fault : Token
  pub behind : List Token
  pub words : tokens_of text ≡ before ++ fault ∷ behind
  pub numbers : All (λ t. is_some (number_of t.word) ≡ true) before
  pub none : number_of fault.word ≡ None
  pub at : fault.at ≡ place
  pub some : 0 < length fault.word
  pub within : place + length fault.word ≤ length text

-- where a text is not read, it is that place which is told
abbrev pub FaultsTold : Type 0
FaultsTold = (text : List ℕ) (place : ℕ) → read_of text ≡ Err place → FirstFault text place

-- no text is a policy in the notation and begins with a digit
abbrev pub NotationApart : Type 0
NotationApart = (text : List ℕ) (p : Entries) → notation.read_of text ≡ Ok p → begins_with_digit text ≡ false

-- all that is promised of files of words as texts
pub record DecimalsRead : Type 0 where
  pub exactly : ReadExactly
  pub back : WordsBack
  pub faults : FaultsTold
  pub apart : NotationApart

-- texts and words, in literals
pub record DecimalCases : Type 0 where
  pub sections :
      words_text (1 ∷ 1 ∷ 2 ∷ 4 ∷ 2 ∷ 2 ∷ 2 ∷ 3 ∷ 2 ∷ 5 ∷ 0 ∷ 1 ∷ 0 ∷ 0 ∷ 0 ∷ 1 ∷ 0 ∷ 7 ∷ 8 ∷ [])
      ≡ codes "1\n1 2 4 2 2 2 3 2 5\n\n0\n\n1\n0 0 0 1 0\n\n7 8\n"
  pub two_records :
      words_text (2 ∷ 1 ∷ 2 ∷ 4 ∷ 2 ∷ 2 ∷ 2 ∷ 3 ∷ 2 ∷ 5 ∷ 1 ∷ 2 ∷ []) ≡ codes "2\n1 2 4 2 2 2 3 2 5\n1 2\n"
  pub nothing : words_text [] ≡ []
  pub comment : read_of (codes "2 # two\n3") ≡ Ok (2 ∷ 3 ∷ [])
  pub highest : read_of (codes "4294967295") ≡ Ok (4294967295 ∷ [])
  pub above : read_of (codes "1 4294967296 x") ≡ Err 2
  pub zero_before : read_of (codes "1\n07") ≡ Err 2
  pub digit : begins_with_digit (codes "# 1\n 7") ≡ true
  pub letter : begins_with_digit (codes "node 1") ≡ false
