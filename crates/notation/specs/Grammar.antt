-- The grammar of the notation, as which words stand for which things, apart from how they are read. Places are left
-- out: all are 0. See docs/NOTATION.md, "Grammar".
--
--   IsAction, IsOptionalPort, IsProtocolPart, IsSide, IsMatch   an action, and a match by its parts
--   IsRule, IsRules                                             a rule, and rules one behind the other
--   IsLine, IsTable, IsOperator, IsOperators                    an operator's cells, and operators
--   Block                                                       a node before its operators are looked up
--   IsClause, IsHeader                                          an operator that a node names, and what stands before
--                                                               its rules
--   IsNode, IsNodes                                             a node with the nodes inside it, and nodes
use Rattle.std.specs.Prelude.{ℕ, ◌*◌, ◌<◌, ◌≤◌, ◌≡◌, true, List, [], ◌∷◌, ◌++◌, Option, Some, None, length}
use Rattle.theory.specs.Tree.{Tree, Forest, bare, ◌▸◌}
use Rattle.theory.specs.Tree as tree
use Rattle.field.specs.declared.Prefix.{Prefix}
use Rattle.flow.specs.declared.Match.{Match}
use Rattle.flow.specs.Match as match
use Rattle.action.specs.Action.{right_rate}
use Rattle.action.specs.Operator.{largest_code, largest_rate_code}
use Rattle.action.specs.declared.Action.{Action}
use Rattle.action.specs.declared.Action.TheVariants.{DontCare, Allow, Deny, Gmb}
use Rattle.values.specs.Words.{is_name, unit_of, protocol_of, code_of}
use Rattle.values.specs.Grammar.{IsNumber, IsPrefix}
use Rattle.notation.specs.declared.rules.Side.{Side}
use Rattle.notation.specs.Words.{operator_word, node_word, inside_word, between_word, below_word, allow_word, deny_word}
use Rattle.notation.specs.Words.{reserve_word, none_word, any_word, never_word, in_word, protocol_word, from_word}
use Rattle.notation.specs.Words.{to_word, port_word, sibling_word, parent_word, colon_mark, open_mark, close_mark}
use Rattle.notation.specs.Policy.{OperatorEntry, RuleEntry}
use Rattle.notation.specs.Operators.{builtin_of}
use Rattle.notation.specs.Rules.{largest_port, largest_protocol, all, open_side, any_match, match_from}

-- an action
pub data IsAction : List (List ℕ) → Action → Type 0 where
  allow : IsAction (allow_word ∷ []) Allow
  deny : IsAction (deny_word ∷ []) Deny
  none : IsAction (none_word ∷ []) DontCare
  reserve : {w u : List ℕ} {n k : ℕ} → IsNumber w n → unit_of u ≡ Some k → right_rate (n * k) ≡ true
      → IsAction (reserve_word ∷ w ∷ u ∷ []) (Gmb (n * k))

-- a port behind a word, or neither
pub data IsOptionalPort (k : List ℕ) : List (List ℕ) → Option ℕ → Type 0 where
  missing : IsOptionalPort k [] None
  said : {w : List ℕ} {n : ℕ} → IsNumber w n → n ≤ largest_port → IsOptionalPort k (k ∷ w ∷ []) (Some n)

-- a protocol by its name or its number, or none
pub data IsProtocolPart : List (List ℕ) → Option ℕ → Type 0 where
  missing : IsProtocolPart [] None
  named : {w : List ℕ} {n : ℕ} → protocol_of w ≡ Some n → IsProtocolPart (w ∷ []) (Some n)
  numbered : {w : List ℕ} {n : ℕ} → IsNumber w n → n ≤ largest_protocol
      → IsProtocolPart (protocol_word ∷ w ∷ []) (Some n)

-- a side behind a word, or neither
pub data IsSide (k : List ℕ) : List (List ℕ) → Side → Type 0 where
  missing : IsSide k [] open_side
  prefix : {w : List ℕ} {p : Prefix} {ws : List (List ℕ)} {q : Option ℕ} → IsPrefix w p
      → IsOptionalPort port_word ws q → IsSide k (k ∷ w ∷ ws) (record { prefix = p; port = q })
  port : {w : List ℕ} {n : ℕ} → IsNumber w n → n ≤ largest_port
      → IsSide k (k ∷ port_word ∷ w ∷ []) (record { prefix = all; port = Some n })

-- a match
pub data IsMatch : List (List ℕ) → Match → Type 0 where
  any : IsMatch (any_word ∷ []) any_match
  never : IsMatch (never_word ∷ []) match.none
  parts : {a b c d : List (List ℕ)} {i p : Option ℕ} {s t : Side}
      → IsOptionalPort in_word a i → IsProtocolPart b p → IsSide from_word c s → IsSide to_word d t
      → 0 < length (a ++ (b ++ (c ++ d))) → IsMatch (a ++ (b ++ (c ++ d))) (match_from i p s t)

-- a rule
pub data IsRule : List (List ℕ) → RuleEntry → Type 0 where
  rule : {l : List ℕ} {a m : List (List ℕ)} {x : Action} {y : Match} → is_name l ≡ true → IsAction a x → IsMatch m y
      → IsRule (l ∷ colon_mark ∷ (a ++ m)) (record { label = l; at = 0; row = record { matching = y; action = x } })

-- rules one behind the other
pub data IsRules : List (List ℕ) → List RuleEntry → Type 0 where
  none : IsRules [] []
  more : {w ws : List (List ℕ)} {r : RuleEntry} {rs : List RuleEntry} → IsRule w r → IsRules ws rs
      → IsRules (w ++ ws) (r ∷ rs)

-- the line of a left action's kind, whose word is k: three cells
pub data IsLine (k : List ℕ) (largest : ℕ) : List (List ℕ) → List ℕ → Type 0 where
  line : {u v w : List ℕ} {x y z : ℕ} → code_of u ≡ Some x → x ≤ largest_code → code_of v ≡ Some y
      → y ≤ largest_code → code_of w ≡ Some z → z ≤ largest
      → IsLine k largest (k ∷ u ∷ v ∷ w ∷ []) (x ∷ y ∷ z ∷ [])

-- the nine cells in their braces
pub data IsTable : List (List ℕ) → List ℕ → Type 0 where
  table : {a d r : List (List ℕ)} {x y z : List ℕ} → IsLine allow_word largest_code a x
      → IsLine deny_word largest_code d y → IsLine reserve_word largest_rate_code r z
      → IsTable (open_mark ∷ allow_word ∷ deny_word ∷ reserve_word ∷ (a ++ (d ++ (r ++ close_mark ∷ []))))
      (x ++ (y ++ z))

-- an operator: one that is there from the start, or a name and its cells
pub data IsOperator : List (List ℕ) → OperatorEntry → Type 0 where
  builtin : {w cells : List ℕ} → builtin_of w ≡ Some cells
      → IsOperator (operator_word ∷ w ∷ []) (record { name = w; at = 0; cells = cells })
  written : {w cells : List ℕ} {t : List (List ℕ)} → is_name w ≡ true → builtin_of w ≡ None → IsTable t cells
      → IsOperator (operator_word ∷ w ∷ t) (record { name = w; at = 0; cells = cells })

-- operators one behind the other
pub data IsOperators : List (List ℕ) → List OperatorEntry → Type 0 where
  none : IsOperators [] []
  more : {w ws : List (List ℕ)} {o : OperatorEntry} {os : List OperatorEntry} → IsOperator w o → IsOperators ws os
      → IsOperators (w ++ ws) (o ∷ os)

-- a node before its operators are looked up: its name, the names of its operators, and its rules
pub record Block : Type 0 where
  pub name : List ℕ
  pub inner : List ℕ
  pub sibling : List ℕ
  pub parent : List ℕ
  pub rules : List RuleEntry

-- the name of an operator behind a word, or the one that stands for neither
pub data IsClause (k other : List ℕ) : List (List ℕ) → List ℕ → Type 0 where
  missing : IsClause k other [] other
  said : {w : List ℕ} → IsClause k other (k ∷ w ∷ []) w

-- a node up to its rules
pub data IsHeader : List (List ℕ) → List ℕ → List ℕ → List ℕ → List ℕ → Type 0 where
  header : {n i s p : List ℕ} {a b c : List (List ℕ)} → is_name n ≡ true → IsClause inside_word sibling_word a i
      → IsClause between_word sibling_word b s → IsClause below_word parent_word c p
      → IsHeader (node_word ∷ n ∷ (a ++ (b ++ (c ++ open_mark ∷ [])))) n i s p

mutual
  -- a node: its header, its rules, the nodes inside it, and its end
  pub data IsNode : List (List ℕ) → Tree Block → Type 0 where
    node : {h r c : List (List ℕ)} {b : Block} {ts : Forest Block} → IsHeader h b.name b.inner b.sibling b.parent
        → IsRules r b.rules → IsNodes c ts → IsNode (h ++ (r ++ (c ++ close_mark ∷ []))) (tree.node b ts)

  -- nodes one behind the other
  pub data IsNodes : List (List ℕ) → Forest Block → Type 0 where
    none : IsNodes [] bare
    more : {w ws : List (List ℕ)} {t : Tree Block} {ts : Forest Block} → IsNode w t → IsNodes ws ts
        → IsNodes (w ++ ws) (t ▸ ts)
