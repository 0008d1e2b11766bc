-- An atom or a row: 11 words, a match and then an action's kind and rate. See docs/FORMAT.md, "Actions" and "Rows".
--
--   row_length                          how many words it has
--   most_rows                           the most rows that a table may have
--   row_of, row_words                   the match and the action that some words are, and their words
--   rows_in, words_of                   the rows that some words hold, and the words of rows, one behind the other
--   table_rows n t                      the words of the first n rows of a table
--   right_row_match, right_row_action   the match is right, the action is right
--   right_row                           a right row: an atom with a right match and a right action, whose match is not
--                                       empty
--   RightRow                            the same of a match and an action
use Rattle.std.specs.Prelude.{ℕ, ◌+◌, ◌*◌, ◌≡◌, Bool, true, false, not, ◌&&◌, List, [], ◌∷◌, ◌++◌, take, slice_index}
use Rattle.words.specs.Records.{rows_of, flat}
use Rattle.theory.specs.declared.Row.{Row}
use Rattle.flow.specs.Match.{match_length, match_of, match_words, is_empty, right_match}
use Rattle.flow.specs.declared.Match.{Match}
use Rattle.action.specs.Action.{kind_of, rate_of, action_of, right_action, in_range}
use Rattle.action.specs.declared.Action.{Action}

-- how many words an atom or a row has
abbrev pub row_length : ℕ
row_length = match_length + 2

-- the most rows that a table may have
abbrev pub most_rows : ℕ
most_rows = 4096

-- where the action's kind stands
abbrev pub kind_place : ℕ
kind_place = match_length

-- where the action's rate stands
abbrev pub rate_place : ℕ
rate_place = match_length + 1

-- the action of some words
unfoldable pub row_action : List ℕ → Action
row_action ws = action_of (slice_index ws kind_place) (slice_index ws rate_place)

-- the match and the action that some words are
abbrev pub row_of : List ℕ → Row Match Action
row_of ws = record { matching = match_of ws; action = row_action ws }

-- the words of a match and an action
abbrev pub row_words : Row Match Action → List ℕ
row_words r = match_words r.matching ++ (kind_of r.action ∷ rate_of r.action ∷ [])

-- the rows that some words hold
abbrev pub rows_in : List ℕ → List (Row Match Action)
rows_in ws = rows_of row_length row_of ws

-- the words of rows, one behind the other
abbrev pub words_of : List (Row Match Action) → List ℕ
words_of N = flat row_words N

-- the words of the first n rows
abbrev pub table_rows : ℕ → List ℕ → List ℕ
table_rows n t = take (n * row_length) t

-- the match is right
unfoldable pub right_row_match : List ℕ → Bool
right_row_match ws = right_match (match_of ws)

-- the action is right
unfoldable pub right_row_action : List ℕ → Bool
right_row_action ws = right_action (slice_index ws kind_place) (slice_index ws rate_place)

-- a right row
unfoldable pub right_row : List ℕ → Bool
right_row ws = right_row_match ws && not (is_empty (match_of ws)) && right_row_action ws

-- a right row: a right match that is not empty, and an action in range
pub record RightRow (r : Row Match Action) : Type 0 where
  pub matching : right_match r.matching ≡ true
  pub not_empty : is_empty r.matching ≡ false
  pub action : in_range r.action ≡ true
