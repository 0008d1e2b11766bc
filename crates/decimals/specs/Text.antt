-- The text of the words of a policy file: a line for a count, and one for each record behind it, an empty line between
-- two sections. Words behind the last section stand in a line of their own.
--
--   behind_text, line_text   words, each behind a blank, and a line of words
--   lines_text size ws       words in lines of so many, the last one possibly shorter
--   records_length           how many of some words so many records are made of, if there are as many
--   parting ws               an empty line, if something stands behind it
--   section_text, section_rest   a count with its records of a size, and the words behind them
--   rest_text                the words behind all sections
--   words_text ws            the text
use Rattle.std.specs.Prelude.{ℕ, zero, suc, ◌*◌, List, [], ◌∷◌, ◌++◌, codes, length, take, drop, min, if◌then◌else◌, ◌==◌}
use Rattle.std.specs.Fmt.{decimal}
use Rattle.policy.specs.declared.TheConstants.{OPERATOR_WORDS, ATOM_WORDS, NODE_WORDS}

-- words, each behind a blank
abbrev pub behind_text : List ℕ → List ℕ
behind_text [] = []
behind_text (w ∷ ws) = codes " " ++ (decimal w ++ behind_text ws)

-- a line of words
abbrev pub line_text : List ℕ → List ℕ
line_text [] = codes "\n"
line_text (w ∷ ws) = decimal w ++ (behind_text ws ++ codes "\n")

-- at most k lines
abbrev pub lines_from : ℕ → ℕ → List ℕ → List ℕ
lines_from zero size ws = []
lines_from (suc k) size [] = []
lines_from (suc k) size (w ∷ ws) =
    line_text (take size (w ∷ ws)) ++ lines_from k size (drop size (w ∷ ws))

-- words in lines of so many
unfoldable pub lines_text : ℕ → List ℕ → List ℕ
lines_text size ws = lines_from (length ws) size ws

-- how many words so many records are made of, where there are some
abbrev pub records_length : ℕ → ℕ → ℕ → ℕ
records_length size count room = min (size * count) room

-- an empty line before words
abbrev pub parting : List ℕ → List ℕ
parting ws = if length ws == 0 then [] else codes "\n"

-- a count with its records, and an empty line
abbrev pub section_text : ℕ → List ℕ → List ℕ
section_text size [] = []
section_text size (n ∷ ws) =
    let k : ℕ = records_length size n (length ws) in
    line_text (n ∷ []) ++ (lines_text size (take k ws) ++ parting (drop k ws))

-- the words behind them
abbrev pub section_rest : ℕ → List ℕ → List ℕ
section_rest size [] = []
section_rest size (n ∷ ws) = drop (records_length size n (length ws)) ws

-- words behind all sections
abbrev pub rest_text : List ℕ → List ℕ
rest_text ws = if length ws == 0 then [] else line_text ws

-- the text of a file of words
unfoldable pub words_text : List ℕ → List ℕ
words_text ws =
    let atoms : List ℕ = section_rest OPERATOR_WORDS ws in
    let nodes : List ℕ = section_rest ATOM_WORDS atoms in
    section_text OPERATOR_WORDS ws
    ++ (section_text ATOM_WORDS atoms ++ (section_text NODE_WORDS nodes ++ rest_text (section_rest NODE_WORDS nodes)))
