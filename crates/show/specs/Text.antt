-- Text, byte by byte in ASCII: numbers, addresses, actions and rows as a listing shows them. See docs/FORMAT.md,
-- "The listing".
--
--   number n mark   a number, with no zero before it, and the mark behind it
--   value_text v    a value, or a star where there is none, and a space
--   value c v       a value that is constrained or not, and a space
--   address a n     an address with its prefix length, and a space
--   match_text m    the values and prefixes of a match
--   action_text a   an action, and the line end
--   line p r        the line of a row r of priority p
--   head n l        the first line, for n rows and l priorities
--   refusal n i     the only line of a refusal: its number and its place
use Rattle.std.specs.Prelude.{ℕ, ◌/◌, ◌%◌, Bool, List, [], ◌∷◌, ◌++◌, None, Some, codes, decimal}
use Rattle.std.specs.Bool.{then_some}
use Rattle.std.specs.declared.option.Option.{Option}
use Prim.Native.Char.{code}
use Rattle.theory.specs.declared.Row.{Row}
use Rattle.flow.specs.Match.{constrains, in_port_flag, protocol_flag, source_port_flag, destination_port_flag}
use Rattle.flow.specs.declared.Match.{Match}
use Rattle.action.specs.declared.Action.{Action}
use Rattle.action.specs.declared.Action.TheVariants.{DontCare, Allow, Deny, Gmb}

-- a number, and the mark behind it
unfoldable pub number : ℕ → ℕ → List ℕ
number n mark = decimal n ++ (mark ∷ [])

-- a value and a space: a star where there is none
unfoldable pub value_text : Option ℕ → List ℕ
value_text None = codes "* "
value_text (Some v) = number v (code " ")

-- a value and a space: a star where it is not constrained
abbrev pub value : Bool → ℕ → List ℕ
value c v = value_text (then_some c v)

-- an address and a space: its four bytes, and its prefix length
unfoldable pub address : ℕ → ℕ → List ℕ
address a n =
    number (a / 16777216) (code ".")
    ++ number (a / 65536 % 256) (code ".")
    ++ number (a / 256 % 256) (code ".")
    ++ number (a % 256) (code "/")
    ++ number n (code " ")

-- the values of a match, and its prefixes, each with a space
unfoldable pub match_text : Match → List ℕ
match_text m =
    value (constrains in_port_flag m) m.in_port
    ++ address m.source.address m.source.length
    ++ address m.destination.address m.destination.length
    ++ value (constrains protocol_flag m) m.protocol
    ++ value (constrains source_port_flag m) m.source_port
    ++ value (constrains destination_port_flag m) m.destination_port

-- an action, with the line end
unfoldable pub action_text : Action → List ℕ
action_text DontCare = codes "none\n"
action_text Allow = codes "allow\n"
action_text Deny = codes "deny\n"
action_text (Gmb n) = codes "gmb " ++ number n (code "\n")

-- the line of a row with its priority
unfoldable pub line : ℕ → Row Match Action → List ℕ
line p r = number p (code " ") ++ match_text r.matching ++ action_text r.action

-- the first line
unfoldable pub head : ℕ → ℕ → List ℕ
head n l = codes "rows " ++ number n (code " ") ++ codes "priorities " ++ number l (code "\n")

-- the only line of a refusal
unfoldable pub refusal : ℕ → ℕ → List ℕ
refusal n i = codes "refused " ++ number n (code " ") ++ number i (code "\n")
