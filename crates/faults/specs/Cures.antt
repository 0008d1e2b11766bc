-- The likely cure of a fault: the first that applies, by the word that was found. See docs/NOTATION.md, "Messages".
--
--   begins_digit, begins_wrong   a digit stands first; a digit, - or _ does
--   made_of a b w                w is made of digits and the bytes a and b
--   digits, pointed, marked      digits alone; digits with points, with commas and low lines
--   behind_digits                what stands behind the digits at the front
--   is_prefix                    a prefix, also one with bits behind its length
--   too_long                     a length above 32 stands behind a slash
--   unit_meant                   the unit of a word that begins as one
--   marked_utf8                  a word begins with a byte order mark
--   name_cure ..                 the cure where a name is wanted, and so for each of the others
--   other_cure, wanted_cure      the cure where another word stands than one that is wanted
--   tokens_at, word_at           the words from a place on, and the word there
--   cure_of text f               the cure of a fault of a text
use Rattle.std.specs.Prelude.{ℕ, Bool, true, false, ◌&&◌, ◌||◌, List, [], ◌∷◌, Option, Some, None, Result, Ok, Err, codes, length, drop, is_some, unwrap_or, if◌then◌else◌, ◌==◌, nat_lt, bytes_eq}
use Rattle.field.specs.declared.Prefix.{Prefix}
use Rattle.tokens.specs.Tokens.{Token, tokens_of, word, next, is}
use Rattle.values.specs.Numbers.{is_digit, number_of, leads_by_zero}
use Rattle.values.specs.Prefixes.{slash, behind, prefix_of}
use Rattle.values.specs.Words.{is_name}
use Rattle.values.specs.declared.prefixes.NoPrefix.{NoPrefix}
use Rattle.values.specs.declared.prefixes.NoPrefix.TheVariants as no
use Rattle.notation.specs.declared.fault.Fault.{Fault}
use Rattle.notation.specs.declared.fault.Reason.{Reason}
use Rattle.notation.specs.declared.fault.Reason.TheVariants as reasons
use Rattle.notation.specs.declared.fault.Wanted.{Wanted}
use Rattle.notation.specs.declared.fault.Wanted.TheVariants as wanted
use Rattle.faults.specs.declared.word.Word.{Word}
use Rattle.faults.specs.declared.word.Word.TheVariants as words
use Rattle.faults.specs.declared.cure.Advice.TheVariants as advice
use Rattle.faults.specs.declared.cure.Cure.{Cure}
use Rattle.faults.specs.declared.cure.Cure.TheVariants as cures
use Rattle.faults.specs.Meant.{meant, any_word, candidates, own}

-- a digit stands first
abbrev pub begins_digit : List ℕ → Bool
begins_digit [] = false
begins_digit (b ∷ bs) = is_digit b

-- a digit, - or _ stands first
abbrev pub begins_wrong : List ℕ → Bool
begins_wrong [] = false
begins_wrong (b ∷ bs) = is_digit b || b == 45 || b == 95

-- digits and two other bytes
abbrev pub made_of : ℕ → ℕ → List ℕ → Bool
made_of a b [] = true
made_of a b (x ∷ xs) = (is_digit x || x == a || x == b) && made_of a b xs

-- digits alone
abbrev pub digits : List ℕ → Bool
digits w = begins_digit w && made_of 48 48 w

-- digits with points
abbrev pub pointed : List ℕ → Bool
pointed w = begins_digit w && made_of 46 46 w

-- digits with commas and low lines
abbrev pub marked : List ℕ → Bool
marked w = begins_digit w && made_of 44 95 w

-- digits with points and slashes
abbrev pub dotted : List ℕ → Bool
dotted w = begins_digit w && made_of 46 47 w

-- what stands behind the digits at the front
abbrev pub behind_digits : List ℕ → List ℕ
behind_digits [] = []
behind_digits (b ∷ bs) = if is_digit b then behind_digits bs else b ∷ bs

-- a prefix, also one with bits behind its length
abbrev pub read_as_prefix : Result Prefix NoPrefix → Bool
read_as_prefix (Ok p) = true
read_as_prefix (Err (no.HostBits p)) = true
read_as_prefix (Err no.NotOne) = false

abbrev pub is_prefix : List ℕ → Bool
is_prefix w = read_as_prefix (prefix_of w)

-- a length above 32 stands behind a slash
abbrev pub too_long : List ℕ → Bool
too_long w = nat_lt 32 (unwrap_or (number_of (behind slash w)) 0)

-- the unit of a first letter, small or capital
abbrev pub letter_unit : ℕ → Option Word
letter_unit b =
    if b == 107 || b == 75 then Some words.Kbit
    else (if b == 109 || b == 77 then Some words.Mbit
    else (if b == 103 || b == 71 then Some words.Gbit else None))

-- the unit of a word: its letter alone, or with a b behind it
abbrev pub unit_meant : List ℕ → Option Word
unit_meant [] = None
unit_meant (b ∷ []) = letter_unit b
unit_meant (b ∷ c ∷ bs) = if c == 98 || c == 66 then letter_unit b else None

-- a word begins with the bytes EF BB BF
abbrev pub marked_utf8 : List ℕ → Bool
marked_utf8 (a ∷ b ∷ c ∷ bs) = a == 239 && b == 187 && c == 191
marked_utf8 w = false

-- the end of the text, or a mark
abbrev pub no_word : List ℕ → Bool
no_word w = length w == 0 || bytes_eq w (codes ":") || bytes_eq w (codes "{") || bytes_eq w (codes "}")

-- a rule ends here: a node starts or ends, the text does, or another rule starts
abbrev pub ends_rule : List ℕ → Bool → Bool
ends_rule w colon = length w == 0 || bytes_eq w (codes "}") || any_word w (words.Node ∷ []) || colon

-- where a name is wanted
abbrev pub name_cure : List ℕ → Cure
name_cure w =
    if begins_wrong w then cures.Say advice.LetterFirst
    else (if any_word w own then cures.OwnWord
    else (if no_word w then cures.Nothing else cures.Say advice.NameBytes))

-- where a text begins
abbrev pub start_cure : List ℕ → Cure
start_cure w =
    if bytes_eq w (codes "{") then cures.Say advice.OwnCells
    else (if digits w then cures.Say advice.Words else cures.Nothing)

-- where a name stands behind a name
abbrev pub blank_cure : List ℕ → Cure
blank_cure w = if is_name w then cures.Say advice.NoBlanks else cures.Nothing

-- where a cell is wanted
abbrev pub cell_cure : List ℕ → Cure
cell_cure w =
    if any_word w (words.Larger ∷ words.Smaller ∷ words.Sum ∷ []) then cures.Say advice.LastCell else cures.Nothing

-- where a node's operators or its brace are wanted
abbrev pub block_cure : List ℕ → Cure
block_cure w =
    if any_word w (words.Inside ∷ words.Between ∷ words.Below ∷ []) then cures.Say advice.ClauseOrder else blank_cure w

-- the words of actions, and of the parts of a match
abbrev pub actions : List Word
actions = words.Allow ∷ words.Deny ∷ words.Reserve ∷ words.None ∷ []

abbrev pub parts : List Word
parts =
    words.In ∷ words.Protocol ∷ words.Tcp ∷ words.Udp ∷ words.Icmp ∷ words.From ∷ words.To ∷ words.Port ∷ []

-- where a rule is wanted, and no colon stands behind the word
abbrev pub rule_cure : List ℕ → Cure
rule_cure w =
    if is_name w then cures.Say advice.Colon
    else (if any_word w actions then cures.Say advice.Label
    else (if any_word w parts then cures.Say advice.PartOrder
    else (if any_word w (words.Operator ∷ []) then cures.Say advice.OperatorsFirst
    else (if is_prefix w then cures.Say advice.OnePrefix
    else (if digits w then cures.Say advice.PortBefore else cures.Nothing)))))

-- where a rule is wanted
abbrev pub line_cure : List ℕ → Bool → Cure
line_cure w colon = if colon then name_cure w else rule_cure w

-- behind a node's end
abbrev pub child_cure : List ℕ → Cure
child_cure w =
    if is_name w then cures.Say advice.RulesFirst
    else (if any_word w (words.Operator ∷ []) then cures.Say advice.OperatorsFirst else cures.Nothing)

-- where an action is wanted
abbrev pub action_cure : List ℕ → Cure
action_cure w =
    if digits w then cures.Say advice.ReserveBefore
    else (if any_word w (words.Any ∷ words.Never ∷ []) || any_word w parts
    then cures.Say advice.ActionFirst
    else cures.Nothing)

-- where a number is wanted
abbrev pub number_cure : List ℕ → Cure
number_cure w =
    if digits w && leads_by_zero w then cures.Say advice.NoZeros
    else (if digits w then cures.Nothing
    else (if marked w then cures.Say advice.NoMarks else cures.Nothing))

-- where a rate is wanted
abbrev pub rate_cure : List ℕ → Cure
rate_cure w =
    if begins_digit w && is_some (unit_meant (behind_digits w)) then cures.Say advice.UnitBlank
    else (if digits w then number_cure w
    else (if pointed w then cures.Say advice.SmallerUnit else number_cure w))

-- a word that may have been meant
abbrev pub mean : Option Word → Cure
mean (Some x) = cures.Mean x
mean None = cures.Nothing

-- where a unit is wanted
abbrev pub unit_cure : List ℕ → Cure
unit_cure w = mean (unit_meant w)

-- where a match is wanted
abbrev pub match_cure : List ℕ → Bool → Cure
match_cure w colon =
    if is_prefix w || any_word w (words.Port ∷ []) then cures.Say advice.SideBefore
    else (if digits w then cures.Say advice.NumberBefore
    else (if ends_rule w colon then cures.Say advice.AnyPacket else cures.Nothing))

-- where the number of a protocol is wanted
abbrev pub protocol_cure : List ℕ → Cure
protocol_cure w =
    if any_word w (words.Tcp ∷ words.Udp ∷ words.Icmp ∷ []) then cures.Say advice.ProtocolName else number_cure w

-- a number in the place of a prefix: above all ports it is an address as one number
abbrev pub side_cure : Option ℕ → Cure
side_cure (Some n) = if nat_lt 65535 n then cures.MeanAddress n else cures.Say advice.PortBefore
side_cure None = cures.Say advice.Octets

-- where a prefix is wanted
abbrev pub prefix_cure : List ℕ → Cure
prefix_cure w =
    if any_word w (words.Any ∷ []) then cures.Say advice.AnyAddress
    else (if digits w then side_cure (number_of w)
    else (if too_long w then cures.Say advice.Length
    else (if dotted w then cures.Say advice.Octets else cures.Nothing)))

-- behind the root
abbrev pub end_cure : List ℕ → Cure
end_cure w =
    if any_word w (words.Node ∷ []) then cures.Say advice.OneRoot
    else (if bytes_eq w (codes "}") then cures.Say advice.TooManyEnds
    else (if any_word w (words.Operator ∷ []) then cures.Say advice.OperatorsFirst
    else (if is_name w then cures.Say advice.RuleInside else cures.Nothing)))

-- where no wanted word can have been meant
abbrev pub other_cure : Wanted → List ℕ → Bool → Cure
other_cure wanted.Start w colon = start_cure w
other_cure wanted.OperatorName w colon = name_cure w
other_cure wanted.Table w colon = blank_cure w
other_cure wanted.AllowHeading w colon = cures.Say advice.Headings
other_cure wanted.DenyHeading w colon = cures.Say advice.Headings
other_cure wanted.ReserveHeading w colon = cures.Say advice.Headings
other_cure wanted.Cell w colon = cell_cure w
other_cure wanted.RateCell w colon = cures.Nothing
other_cure wanted.TableEnd w colon = cures.Nothing
other_cure wanted.NodeName w colon = name_cure w
other_cure wanted.Block w colon = block_cure w
other_cure wanted.Line w colon = line_cure w colon
other_cure wanted.NodeOrEnd w colon = child_cure w
other_cure wanted.Action w colon = action_cure w
other_cure wanted.Rate w colon = rate_cure w
other_cure wanted.Unit w colon = unit_cure w
other_cure wanted.Match w colon = match_cure w colon
other_cure wanted.Port w colon = number_cure w
other_cure wanted.Protocol w colon = protocol_cure w
other_cure wanted.Prefix w colon = prefix_cure w
other_cure wanted.End w colon = end_cure w

-- the wanted word that was meant: none before a colon, and none by a word that the notation has
abbrev pub meant_at : Wanted → List ℕ → Bool → Option Word
meant_at x w colon = if colon || any_word w own then None else meant w (candidates x)

abbrev pub meant_or : Option Word → Cure → Cure
meant_or (Some y) other = cures.Mean y
meant_or None other = other

-- where another word stands than one that is wanted
abbrev pub wanted_cure : Wanted → List ℕ → Bool → Cure
wanted_cure x w colon = meant_or (meant_at x w colon) (other_cure x w colon)

-- where there is no operator of a name
abbrev pub near_cure : Option ℕ → Cure
near_cure (Some p) = cures.MeanAt p
near_cure None = cures.Nothing

abbrev pub operator_cure : Option ℕ → List ℕ → Cure
operator_cure p w =
    if is_name w then meant_or (meant w (words.Sibling ∷ words.Parent ∷ [])) (near_cure p) else name_cure w

-- the words from a place on; where a word starts, it is the first of them
unfoldable pub tokens_at : List ℕ → ℕ → List Token
tokens_at text at = tokens_of (drop at text)

abbrev pub word_at : List ℕ → ℕ → List ℕ
word_at text at = word (tokens_at text at)

-- the cure of what is wrong where the words ts stand
abbrev pub reason_cure : Reason → List ℕ → List Token → Cure
reason_cure (reasons.Unexpected x) text ts =
    if marked_utf8 (word (tokens_of text)) then cures.Say advice.ByteOrderMark
    else wanted_cure x (word ts) (is (codes ":") (next ts))
reason_cure (reasons.Twice p) text ts = cures.Nothing
reason_cure (reasons.Unknown p) text ts = operator_cure p (word ts)
reason_cure (reasons.HostBits p) text ts = cures.MeanPrefix p
reason_cure reasons.WrongRate text ts = cures.Nothing
reason_cure reasons.TooManyOperators text ts = cures.Nothing
reason_cure reasons.TooManyRules text ts = cures.Nothing
reason_cure reasons.TooManyNodes text ts = cures.Nothing
reason_cure reasons.TooDeep text ts = cures.Nothing
reason_cure (reasons.Unclosed p) text ts = cures.Say advice.CloseNode

-- THE CURE OF A FAULT
abbrev pub cure_of : List ℕ → Fault → Cure
cure_of text f = reason_cure f.reason text (tokens_at text f.at)
