-- The message of a fault. See docs/NOTATION.md, "Messages".
--
--   found_wanted, around, placed   the forms of what is said: a word and what was wanted, a word, a word and a place
--   unknown, unclosed              there is no operator of a name, and a node is open
--   sentence                       what is wrong
--   cleared                        a prefix without the bits behind its length
--   did_mean, did_mean_either      what may have been meant
--   no_name, say                   the word is no name; what to do
--   cure_text                      the cure, if there is one
--   line, message                  the line of what is wrong at a place, and that of a fault
use Rattle.std.specs.Prelude.{ℕ, ◌-◌, ◌%◌, ◌^◌, List, [], ◌++◌, codes, if◌then◌else◌}
use Rattle.field.specs.declared.Prefix.{Prefix}
use Rattle.tokens.specs.declared.place.Place.{Place}
use Rattle.tokens.specs.Place.{place_of}
use Rattle.values.specs.Grammar.{address_text, prefix_text}
use Rattle.values.specs.Words.{is_name}
use Rattle.notation.specs.declared.fault.Fault.{Fault}
use Rattle.notation.specs.declared.fault.Reason.{Reason}
use Rattle.notation.specs.declared.fault.Reason.TheVariants as reasons
use Rattle.faults.specs.declared.cure.Cure.{Cure}
use Rattle.faults.specs.declared.cure.Cure.TheVariants as cures
use Rattle.faults.specs.Shown.{shown, found, place_text}
use Rattle.faults.specs.Meant.{word_text}
use Rattle.faults.specs.Phrases.{wanted_text, advice_text}
use Rattle.faults.specs.Cures.{word_at, cure_of}

-- a word and what was wanted in its place
unfoldable pub found_wanted : List ℕ → List ℕ → List ℕ
found_wanted w y = codes "found " ++ found w ++ codes ", wanted " ++ y

-- a word between two phrases
unfoldable pub around : List ℕ → List ℕ → List ℕ → List ℕ
around a w b = a ++ found w ++ b

-- a word and a place between three phrases
unfoldable pub placed : List ℕ → List ℕ → List ℕ → Place → List ℕ → List ℕ
placed a w b p c = a ++ found w ++ b ++ place_text p ++ c

-- there is no operator of a name
abbrev pub unknown : List ℕ → List ℕ
unknown w =
    if is_name w then around (codes "there is no operator ") w [] else found_wanted w (codes "an operator's name")

-- a node is open, whose name stands at a place
abbrev pub unclosed : List ℕ → ℕ → List ℕ
unclosed text p =
    placed (codes "the text ends, and node ") (word_at text p) (codes " of ") (place_of text p) (codes " is still open")

-- what is wrong with the word w
abbrev pub sentence : List ℕ → List ℕ → Reason → List ℕ
sentence text w (reasons.Unexpected x) = found_wanted w (wanted_text x)
sentence text w (reasons.Twice p) =
    placed (codes "the name ") w (codes " is given already, at ") (place_of text p) []
sentence text w (reasons.Unknown p) = unknown w
sentence text w (reasons.HostBits p) = around [] w (codes " has bits behind its prefix length")
sentence text w reasons.WrongRate = codes "a rate is from 1 kbit/s to 100 Gbit/s"
sentence text w reasons.TooManyOperators = codes "more than 32 operators"
sentence text w reasons.TooManyRules = codes "more than 1,024 rules"
sentence text w reasons.TooManyNodes = codes "more than 256 nodes"
sentence text w reasons.TooDeep = around (codes "node ") w (codes " is more than 16 deep")
sentence text w (reasons.Unclosed p) = unclosed text p

-- a prefix without the bits behind its length
abbrev pub cleared : Prefix → Prefix
cleared p = record { address = p.address - p.address % 2 ^ (32 - p.length); length = p.length }

-- a question
unfoldable pub did_mean : List ℕ → List ℕ
did_mean y = codes "; did you mean " ++ y ++ codes "?"

-- a question with two answers
unfoldable pub did_mean_either : List ℕ → List ℕ → List ℕ
did_mean_either y z = codes "; did you mean " ++ y ++ codes " or " ++ z ++ codes "?"

-- a word of the notation
unfoldable pub no_name : List ℕ → List ℕ
no_name w = codes "; " ++ shown w ++ codes " is a word of the notation and no name"

-- what to do
unfoldable pub say : List ℕ → List ℕ
say a = codes "; " ++ a

-- the cure, if there is one, at the word w
abbrev pub cure_text : List ℕ → List ℕ → Cure → List ℕ
cure_text text w cures.Nothing = []
cure_text text w (cures.Mean x) = did_mean (word_text x)
cure_text text w (cures.MeanAt p) = did_mean (shown (word_at text p))
cure_text text w (cures.MeanAddress a) = did_mean (address_text a)
cure_text text w (cures.MeanPrefix p) = did_mean_either (prefix_text (cleared p)) (address_text p.address)
cure_text text w cures.OwnWord = no_name w
cure_text text w (cures.Say a) = say (advice_text a)

-- the line of what is wrong with the word w at a place
unfoldable pub line : Place → List ℕ → List ℕ → Reason → Cure → List ℕ
line p text w reason cure =
    place_text p ++ codes ": " ++ sentence text w reason ++ cure_text text w cure ++ codes "\n"

-- THE MESSAGE OF A FAULT
abbrev pub message : List ℕ → Fault → List ℕ
message text f = line (place_of text f.at) text (word_at text f.at) f.reason (cure_of text f)
