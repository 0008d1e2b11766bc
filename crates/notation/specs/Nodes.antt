-- Reading nodes, and a whole text. See docs/NOTATION.md, "Nodes".
--
--   operator_index              the index of the operator of a name
--   near_place                  where an operator stands whose name differs from a word by one byte
--   Used, operator_for          the operator that a node uses: it is there, or is one that is there from the start
--   clause_at                   an operator behind its word, or another one where the word is missing
--   node_place                  where the node of a name stands
--   Header, header_at           what stands before a node's rules
--   node_at                     a node behind its word, with its rules
--   closed                      how many nodes are still open behind closing braces
--   innermost                   where the name of the innermost open node stands
--   rule_count                  how many rules some nodes have
--   nodes_at                    the nodes, where there is room for so many more
--   policy_at, read_of          a policy, and what a text is read as
use Rattle.std.specs.Prelude.{ℕ, zero, suc, ◌+◌, ◌-◌, List, [], ◌∷◌, ◌++◌, Option, Some}
use Rattle.std.specs.Prelude.{None, Result, Ok, Err, length, if◌then◌else◌, ◌==◌, nat_lt, bytes_eq, option_map}
use Rattle.policy.specs.Numbers.{most_operators, most_atoms, most_nodes, deepest}
use Rattle.tokens.specs.Tokens.{Token, tokens_of, word, at, next, is, ended}
use Rattle.values.specs.Words.{near}
use Rattle.notation.specs.declared.fault.Fault.{Fault}
use Rattle.notation.specs.declared.fault.Reason.TheVariants.{Unknown, TooManyOperators, TooManyNodes, TooDeep, Unclosed}
use Rattle.notation.specs.declared.fault.Wanted.TheVariants as wanted
use Rattle.notation.specs.Reads.{Read, ◌>>=◌, fault_at, fails, wrong, allowed, taken}
use Rattle.notation.specs.Words.{node_word, inside_word, between_word, below_word, sibling_word}
use Rattle.notation.specs.Words.{parent_word, open_mark, close_mark}
use Rattle.notation.specs.Policy.{OperatorEntry, NodeEntry, Entries}
use Rattle.notation.specs.Rules.{rules_at}
use Rattle.notation.specs.Operators.{builtin_of, new_name, operators_at}

-- the index of the first operator of a name
abbrev pub operator_index : List ℕ → List OperatorEntry → Option ℕ
operator_index w [] = None
operator_index w (o ∷ os) = if bytes_eq o.name w then Some 0 else option_map suc (operator_index w os)

-- where the first operator stands whose name differs from a word by one byte
abbrev pub near_place : List ℕ → List OperatorEntry → Option ℕ
near_place w [] = None
near_place w (o ∷ os) = if near o.name w then Some o.at else near_place w os

-- operators and the index of one of them
pub record Used : Type 0 where
  pub index : ℕ
  pub operators : List OperatorEntry

-- an operator that is there from the start is put behind the others where it is first used
abbrev pub added : List ℕ → ℕ → Option (List ℕ) → List OperatorEntry → Result Used Fault
added w place None os = Err (fault_at place (Unknown (near_place w os)))
added w place (Some cells) os =
    if nat_lt (length os) most_operators
    then Ok (record { index = length os; operators = os ++ record { name = w; at = place; cells = cells } ∷ [] })
    else Err (fault_at place TooManyOperators)

-- the operator of an index, or the one that a name adds
abbrev pub found_or : Option ℕ → List ℕ → ℕ → List OperatorEntry → Result Used Fault
found_or (Some i) w place os = Ok (record { index = i; operators = os })
found_or None w place os = added w place (builtin_of w) os

-- the operator of a name, which is used at a place
unfoldable pub operator_for : List ℕ → ℕ → List OperatorEntry → Result Used Fault
operator_for w place os = found_or (operator_index w os) w place os

-- an operator behind the word `clause`; where that is missing, the one of a name, used at a place
unfoldable pub clause_at : List ℕ → List ℕ → ℕ → List OperatorEntry → List Token → Read Used
clause_at clause name place os ts =
    if is clause ts
    then (operator_for (word (next ts)) (at (next ts)) os >>= λ u. Ok (u, next (next ts)))
    else (operator_for name place os >>= λ u. Ok (u, ts))

-- where the node of a name stands
abbrev pub node_place : List ℕ → List NodeEntry → Option ℕ
node_place w [] = None
node_place w (n ∷ ns) = if bytes_eq n.name w then Some n.at else node_place w ns

-- what stands before a node's rules: its name, its operators' indexes, and the operators with those that it added
pub record Header : Type 0 where
  pub name : List ℕ
  pub inner : ℕ
  pub sibling : ℕ
  pub parent : ℕ
  pub operators : List OperatorEntry

-- the header of a node with so many nodes open above it
unfoldable pub header_at : List OperatorEntry → List NodeEntry → ℕ → List Token → Read Header
header_at os ns unclosed ts = do
  n ← new_name wanted.NodeName (node_place (word ts) ns) ts
  u ← allowed (nat_lt unclosed deepest) TooDeep ts
  i ← clause_at inside_word sibling_word (at ts) os n.1
  s ← clause_at between_word sibling_word (at ts) i.0.operators i.1
  p ← clause_at below_word parent_word (at ts) s.0.operators s.1
  b ← taken open_mark wanted.Block p.1
  Ok (
    record {
      name = n.0;
      inner = i.0.index;
      sibling = s.0.index;
      parent = p.0.index;
      operators = p.0.operators;
    },
    b,
  )

-- a node and the operators with those that it added
pub record Opened : Type 0 where
  pub node : NodeEntry
  pub operators : List OperatorEntry

-- a node behind its word: its header and its rules, for which there is so much room
unfoldable pub node_at : ℕ → List OperatorEntry → List NodeEntry → ℕ → List Token → Read Opened
node_at room os ns unclosed ts = do
  h ← header_at os ns unclosed ts
  r ← rules_at room [] h.1
  Ok (
    record {
      node = record {
        name = h.0.name;
        at = at ts;
        depth = suc unclosed;
        inner = h.0.inner;
        sibling = h.0.sibling;
        parent = h.0.parent;
        rules = r.0;
      };
      operators = h.0.operators;
    },
    r.1,
  )

-- how many of some unclosed nodes are open behind the closing braces, and the words behind these
abbrev pub closed : ℕ → List Token → ℕ × List Token
closed zero ts = (0, ts)
closed (suc unclosed) ts = if is close_mark ts then closed unclosed (next ts) else (suc unclosed, ts)

-- where the last node of a depth stands; 0 if there is none
abbrev pub innermost : ℕ → ℕ → List NodeEntry → ℕ
innermost place unclosed [] = place
innermost place unclosed (n ∷ ns) = innermost (if n.depth == unclosed then n.at else place) unclosed ns

-- how many rules some nodes have
abbrev pub rule_count : List NodeEntry → ℕ
rule_count [] = 0
rule_count (n ∷ ns) = length n.rules + rule_count ns

-- what stands where neither a node nor a closing brace does
unfoldable pub no_node : ℕ → List NodeEntry → List Token → Read Entries
no_node zero ns ts = wrong wanted.Start ts
no_node (suc unclosed) ns ts =
    if ended ts then fails (Unclosed (innermost 0 (suc unclosed) ns)) ts else wrong wanted.NodeOrEnd ts

-- the nodes, where there is room for so many more: the operators and nodes so far, and how many nodes are open
unfoldable pub nodes_at : ℕ → List OperatorEntry → List NodeEntry → ℕ → List Token → Read Entries
nodes_at zero os ns unclosed ts = if is node_word ts then fails TooManyNodes ts else no_node unclosed ns ts
nodes_at (suc room) os ns unclosed ts =
    if is node_word ts
    then (node_at (most_atoms - rule_count ns) os ns unclosed (next ts) >>= λ x.
    let c : ℕ × List Token = closed (suc unclosed) x.1 in
    let ns' : List NodeEntry = ns ++ x.0.node ∷ [] in
    if c.0 == 0
    then Ok (record { operators = x.0.operators; nodes = ns' }, c.1)
    else nodes_at room x.0.operators ns' c.0 c.1)
    else no_node unclosed ns ts

-- a policy, which is all that stands in the words
unfoldable pub policy_at : List Token → Result Entries Fault
policy_at ts = do
  o ← operators_at most_operators [] ts
  p ← nodes_at most_nodes o.0 [] 0 o.1
  if ended p.1 then Ok p.0 else wrong wanted.End p.1

-- WHAT A TEXT IS READ AS: a policy, or its first fault
abbrev pub read_of : List ℕ → Result Entries Fault
read_of text = policy_at (tokens_of text)
