-- Reading a rule: its label, its action and its match. See docs/NOTATION.md, "Rules".
--
--   rate_at, action_at            a rate with its unit, and an action
--   port_at, optional_port        a port, and one behind a word that may be missing
--   protocol_at                   a protocol, by its name or its number, that may be missing
--   open_side, side_at            a side of a match, a prefix and a port; one that constrains nothing
--   parts_at, match_at            the parts of a match, of which none is wanted, and a match
--   match_from                    the match of its parts
--   labelled, rule_at             whether a rule starts here, and a rule behind those of its node
--   ends_rules, rules_at          whether no rule comes, and the rules of a node, for which there is so much room
use Rattle.std.specs.Prelude.{ℕ, zero, suc, ◌+◌, ◌*◌, Bool, ◌&&◌, ◌||◌, List, [], ◌∷◌, ◌++◌, Option, Some}
use Rattle.std.specs.Prelude.{None, Result, Ok, Err, is_some, unwrap_or, if◌then◌else◌, bytes_eq}
use Rattle.field.specs.declared.Prefix.{Prefix}
use Rattle.flow.specs.declared.Match.{Match}
use Rattle.flow.specs.Match.{in_port_flag, protocol_flag, source_port_flag, destination_port_flag, none}
use Rattle.action.specs.Action.{right_rate}
use Rattle.action.specs.declared.Action.{Action}
use Rattle.action.specs.declared.Action.TheVariants.{DontCare, Allow, Deny, Gmb}
use Rattle.tokens.specs.Tokens.{Token, word, at, next, is, ended}
use Rattle.values.specs.Numbers.{number_of, up_to}
use Rattle.values.specs.Prefixes.{prefix_of}
use Rattle.values.specs.Words.{unit_of, protocol_of, is_name}
use Rattle.values.specs.declared.prefixes.NoPrefix.{NoPrefix}
use Rattle.values.specs.declared.prefixes.NoPrefix.TheVariants as no
use Rattle.notation.specs.declared.fault.Reason.TheVariants.{WrongRate, HostBits, Twice, TooManyRules}
use Rattle.notation.specs.declared.fault.Wanted.TheVariants as wanted
use Rattle.notation.specs.declared.rules.Side.{Side}
use Rattle.notation.specs.Reads.{Read, ◌>>=◌, fails, wrong, some_or}
use Rattle.notation.specs.Words.{node_word, allow_word, deny_word, reserve_word, none_word, any_word, never_word}
use Rattle.notation.specs.Words.{in_word, protocol_word, from_word, to_word, port_word, colon_mark, close_mark}
use Rattle.notation.specs.Policy.{RuleEntry}

-- the largest port, and the largest protocol
abbrev pub largest_port : ℕ
largest_port = 65535

-- the largest protocol
abbrev pub largest_protocol : ℕ
largest_protocol = 255

-- a rate: a number and a unit, which together are a rate that a GMB may have
unfoldable pub rate_at : List Token → Read Action
rate_at ts = do
  n ← some_or wanted.Rate (number_of (word ts)) ts
  u ← some_or wanted.Unit (unit_of (word n.1)) n.1
  if right_rate (n.0 * u.0) then Ok (Gmb (n.0 * u.0), u.1) else fails WrongRate ts

-- an action
unfoldable pub action_at : List Token → Read Action
action_at ts =
    if is allow_word ts then Ok (Allow, next ts)
    else (if is deny_word ts then Ok (Deny, next ts)
    else (if is none_word ts then Ok (DontCare, next ts)
    else (if is reserve_word ts then rate_at (next ts) else wrong wanted.Action ts)))

-- a port
unfoldable pub port_at : List Token → Read ℕ
port_at ts = some_or wanted.Port (up_to largest_port (number_of (word ts))) ts

-- a port behind the word w, if that stands here
unfoldable pub optional_port : List ℕ → List Token → Read (Option ℕ)
optional_port w ts =
    if is w ts
    then (port_at (next ts) >>= λ p. Ok (Some p.0, p.1))
    else Ok (None, ts)

-- the number of a protocol
unfoldable pub protocol_number_at : List Token → Read ℕ
protocol_number_at ts = some_or wanted.Protocol (up_to largest_protocol (number_of (word ts))) ts

-- a protocol, if one stands here: by its name, or by its number behind a word
unfoldable pub protocol_at : List Token → Read (Option ℕ)
protocol_at ts =
    if is protocol_word ts
    then (protocol_number_at (next ts) >>= λ p. Ok (Some p.0, p.1))
    else Ok (protocol_of (word ts), (if is_some (protocol_of (word ts)) then next ts else ts))

-- the prefix of all addresses
abbrev pub all : Prefix
all = record { address = 0; length = 0 }

-- a side that constrains nothing
abbrev pub open_side : Side
open_side = record { prefix = all; port = None }

-- a prefix that was read, or why there is none
abbrev pub prefix_or : Result Prefix NoPrefix → List Token → Read Prefix
prefix_or (Ok p) ts = Ok (p, next ts)
prefix_or (Err no.NotOne) ts = wrong wanted.Prefix ts
prefix_or (Err (no.HostBits p)) ts = fails (HostBits p) ts

-- a prefix, or that of all addresses where a port stands in its place
unfoldable pub prefix_at : List Token → Read Prefix
prefix_at ts = if is port_word ts then Ok (all, ts) else prefix_or (prefix_of (word ts)) ts

-- a side behind the word w, if that stands here: a prefix, a port, or both
unfoldable pub side_at : List ℕ → List Token → Read Side
side_at w ts =
    if is w ts
    then (prefix_at (next ts) >>= λ x. optional_port port_word x.1 >>= λ q.
    Ok (record { prefix = x.0; port = q.0 }, q.1))
    else Ok (open_side, ts)

-- a flag, if there is a value
abbrev pub flag_if : {X : Type 0} → ℕ → Option X → ℕ
flag_if flag None = 0
flag_if flag (Some x) = flag

-- the match of its parts
abbrev pub match_from : Option ℕ → Option ℕ → Side → Side → Match
match_from in_port protocol source destination = record {
  in_port = unwrap_or in_port 0;
  source = source.prefix;
  destination = destination.prefix;
  protocol = unwrap_or protocol 0;
  source_port = unwrap_or source.port 0;
  destination_port = unwrap_or destination.port 0;
  flags = flag_if in_port_flag in_port + flag_if protocol_flag protocol + flag_if source_port_flag source.port
      + flag_if destination_port_flag destination.port;
}

-- the match that every packet meets
abbrev pub any_match : Match
any_match = match_from None None open_side open_side

-- the parts of a match in their order
unfoldable pub parts_at : List Token → Read Match
parts_at ts = do
  i ← optional_port in_word ts
  p ← protocol_at i.1
  s ← side_at from_word p.1
  d ← side_at to_word s.1
  Ok (match_from i.0 p.0 s.0 d.0, d.1)

-- a part of a match starts here
unfoldable pub starts_part : List Token → Bool
starts_part ts =
    is in_word ts || is protocol_word ts || is_some (protocol_of (word ts)) || is from_word ts || is to_word ts

-- a match: all packets, none, or one part at least
unfoldable pub match_at : List Token → Read Match
match_at ts =
    if is any_word ts then Ok (any_match, next ts)
    else (if is never_word ts then Ok (none, next ts)
    else (if starts_part ts then parts_at ts else wrong wanted.Match ts))

-- where the first rule of a label stands
abbrev pub label_place : List ℕ → List RuleEntry → Option ℕ
label_place w [] = None
label_place w (r ∷ rs) = if bytes_eq r.label w then Some r.at else label_place w rs

-- a rule starts here: a name, and a colon behind it
abbrev pub labelled : List Token → Bool
labelled ts = is_name (word ts) && is colon_mark (next ts)

-- the body of a rule, whose label stands at ts
unfoldable pub body_at : List Token → Read RuleEntry
body_at ts = do
  a ← action_at (next (next ts))
  m ← match_at a.1
  Ok (record { label = word ts; at = at ts; row = record { matching = m.0; action = a.0 } }, m.1)

-- a rule of a node that has the rules rs already
abbrev pub unless_twice : Option ℕ → List Token → Read RuleEntry
unless_twice None ts = body_at ts
unless_twice (Some place) ts = fails (Twice place) ts

-- a rule, behind those of its node
unfoldable pub rule_at : List RuleEntry → List Token → Read RuleEntry
rule_at rs ts = if labelled ts then unless_twice (label_place (word ts) rs) ts else wrong wanted.Line ts

-- no rule comes: a node starts or ends, or the text does
unfoldable pub ends_rules : List Token → Bool
ends_rules ts = is close_mark ts || is node_word ts || ended ts

-- the rules of a node, where there is room for so many more
unfoldable pub rules_at : ℕ → List RuleEntry → List Token → Read (List RuleEntry)
rules_at zero rs ts = if ends_rules ts then Ok (rs, ts) else fails TooManyRules ts
rules_at (suc room) rs ts =
    if ends_rules ts
    then Ok (rs, ts)
    else (rule_at rs ts >>= λ r. rules_at room (rs ++ r.0 ∷ []) r.1)
