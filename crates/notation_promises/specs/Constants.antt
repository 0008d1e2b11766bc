-- The public constants of the notation, as literals: a constant has no contract of its own, so what each of them is
-- stands here.
--
--   Constants   the marks, and the words with a meaning, each as the bytes that it is made of
use Rattle.std.specs.Prelude.{◌≡◌, [], ◌∷◌, codes}
use Rattle.tokens.specs.declared.TheConstants.{COLON, OPEN, CLOSE}
use Rattle.values.specs.declared.words.TheConstants.{OPERATOR, NODE, INSIDE, BETWEEN, BELOW}
use Rattle.values.specs.declared.words.TheConstants.{ALLOW, DENY, RESERVE, NONE, LEFT, RIGHT, LARGER, SMALLER, SUM}
use Rattle.values.specs.declared.words.TheConstants.{ANY, NEVER, IN, PROTOCOL, FROM, TO, PORT, TCP, UDP, ICMP}
use Rattle.values.specs.declared.words.TheConstants.{KBIT, MBIT, GBIT, SIBLING, PARENT, VLAN, LIMIT}

pub record Constants : Type 0 where
  -- a colon and the two braces
  pub marks :
      (COLON.now ∷ OPEN.now ∷ CLOSE.now ∷ [])
      ≡ (58 ∷ []) ∷ (123 ∷ []) ∷ (125 ∷ []) ∷ []
  -- the words of operators and nodes
  pub blocks :
      (OPERATOR.now ∷ NODE.now ∷ INSIDE.now ∷ BETWEEN.now ∷ BELOW.now ∷ [])
      ≡ codes "operator" ∷ codes "node" ∷ codes "inside" ∷ codes "between" ∷ codes "below" ∷ []
  -- of actions
  pub actions :
      (ALLOW.now ∷ DENY.now ∷ RESERVE.now ∷ NONE.now ∷ [])
      ≡ codes "allow" ∷ codes "deny" ∷ codes "reserve" ∷ codes "none" ∷ []
  -- of cells, beside allow and deny
  pub cells :
      (LEFT.now ∷ RIGHT.now ∷ LARGER.now ∷ SMALLER.now ∷ SUM.now ∷ [])
      ≡ codes "left" ∷ codes "right" ∷ codes "larger" ∷ codes "smaller" ∷ codes "sum" ∷ []
  -- of matches
  pub matches :
      (ANY.now ∷ NEVER.now ∷ IN.now ∷ PROTOCOL.now ∷ FROM.now ∷ TO.now ∷ PORT.now ∷ [])
      ≡ codes "any" ∷ codes "never" ∷ codes "in" ∷ codes "protocol" ∷ codes "from" ∷ codes "to" ∷ codes "port" ∷ []
  -- the protocols with a name
  pub protocols :
      (TCP.now ∷ UDP.now ∷ ICMP.now ∷ [])
      ≡ codes "tcp" ∷ codes "udp" ∷ codes "icmp" ∷ []
  -- the units of a rate
  pub units :
      (KBIT.now ∷ MBIT.now ∷ GBIT.now ∷ [])
      ≡ codes "kbit/s" ∷ codes "Mbit/s" ∷ codes "Gbit/s" ∷ []
  -- the operators that are supplied
  pub supplied :
      (SIBLING.now ∷ PARENT.now ∷ [])
      ≡ codes "sibling" ∷ codes "parent" ∷ []
  -- kept for later
  pub kept :
      (VLAN.now ∷ LIMIT.now ∷ [])
      ≡ codes "vlan" ∷ codes "limit" ∷ []
