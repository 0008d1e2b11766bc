-- A fault stands within the text: a reader fails at a word that is left to it.
--
--   Places n ts      no word starts behind n
--   Inside n P r     what was given has P, and a fault is at n or before
use Rattle.std.proofs.Common.{◌≡◌, ℕ, zero, suc, ◌+◌, ◌-◌, ◌*◌, ◌≤◌, Bool, true, false, List, [], ◌∷◌, ◌++◌, Option, Some, None, Result, Ok, Err, length, subst}
use Rattle.std.proofs.Common.{arith}
use Rattle.std.specs.Prelude.{if◌then◌else◌, is_some, nat_lt, ◌==◌, ⊤}
use Rattle.logic.specs.Lists.{All}
use Rattle.logic.proofs.Lists.{all_then}
use Rattle.field.specs.declared.Prefix.{Prefix}
use Rattle.action.specs.Action.{right_rate}
use Rattle.action.specs.Operator.{largest_code, largest_rate_code}
use Rattle.policy.specs.Numbers.{most_operators, most_atoms, most_nodes, deepest}
use Rattle.tokens.specs.Tokens.{Token, tokens_of, word, at, next, is, ended}
use Rattle.tokens.proofs.Spans.{tokens-within}
use Rattle.values.specs.Numbers.{number_of, up_to}
use Rattle.values.specs.Prefixes.{prefix_of}
use Rattle.values.specs.Words.{unit_of, protocol_of, code_of, is_name}
use Rattle.values.specs.declared.prefixes.NoPrefix.{NoPrefix}
use Rattle.values.specs.declared.prefixes.NoPrefix.TheVariants as no
use Rattle.notation.specs.declared.fault.Fault.{Fault}
use Rattle.notation.specs.declared.fault.Reason.{Reason}
use Rattle.notation.specs.declared.fault.Reason.TheVariants.{TooDeep}
use Rattle.notation.specs.declared.fault.Wanted.{Wanted}
use Rattle.notation.specs.declared.fault.Wanted.TheVariants as wanted
use Rattle.notation.specs.Reads.{◌>>=◌, allowed, taken, some_or}
use Rattle.notation.specs.Words.{operator_word, node_word, inside_word, between_word, below_word, allow_word, deny_word, reserve_word, none_word, any_word}
use Rattle.notation.specs.Words.{never_word, in_word, protocol_word, from_word, to_word, port_word, sibling_word, parent_word, open_mark, close_mark}
use Rattle.notation.specs.Policy.{OperatorEntry, RuleEntry, NodeEntry, Entries}
use Rattle.notation.specs.Operators.{builtin_of, operator_place, unseen, new_name, cell_at, line_at, columns_at, table_at, cells_or, operator_at, operators_at}
use Rattle.notation.specs.Rules.{largest_port, largest_protocol, rate_at, action_at, port_at, optional_port, protocol_number_at, protocol_at, prefix_or}
use Rattle.notation.specs.Rules.{prefix_at, side_at, parts_at, starts_part, match_at, label_place, labelled, body_at, unless_twice, rule_at, ends_rules}
use Rattle.notation.specs.Rules.{rules_at}
use Rattle.notation.specs.Nodes.{operator_index, added, found_or, operator_for, clause_at, node_place, header_at, node_at, closed}
use Rattle.notation.specs.Nodes.{rule_count, no_node, nodes_at, policy_at, read_of}

-- no word starts behind n
pub record Places (n : ℕ) (ts : List Token) : Type 0 where
  pub all : All (λ t. t.at ≤ n) ts

-- what was given has P, and a fault is at n or before
abbrev pub Meets : {X : Type 0} → ℕ → (X → Type 0) → Result X Fault → Type 0
Meets n P (Ok x) = P x
Meets n P (Err f) = f.at ≤ n

pub record Inside {X : Type 0} (n : ℕ) (P : X → Type 0) (r : Result X Fault) : Type 0 where
  pub holds : Meets n P r

-- no word that is left behind a value starts behind n
abbrev pub Behind : {X : Type 0} → ℕ → X × List Token → Type 0
Behind n x = Places n x.1

module _ (n : ℕ) where
  -- the first word, and those behind it
  pub at-places : (ts : List Token) → Places n ts → at ts ≤ n
  at-places [] p = omega arith
  at-places (t ∷ ts) p = p.all.0

  pub next-places : (ts : List Token) → Places n ts → Places n (next ts)
  next-places [] p = p
  next-places (t ∷ []) p = p
  next-places (t ∷ u ∷ ts) p = record { all = p.all.1 }

  -- one reader after another
  pub inside-then : {X Y : Type 0} {P : X → Type 0} {Q : Y → Type 0} (r : Result X Fault) (f : X → Result Y Fault) → Inside n P r
      → ((x : X) → P x → Inside n Q (f x)) → Inside n Q (r >>= f)
  inside-then (Ok x) f a b = b x a.holds
  inside-then (Err e) f a b = record { holds = a.holds }

  -- a choice
  choose : {X : Type 0} {P : X → Type 0} (c : Bool) (r s : Result X Fault) → Inside n P r → Inside n P s → Inside n P (if c then r else s)
  choose true r s a b = a
  choose false r s a b = b

  -- ---- one word

  allowed-inside : (good : Bool) (why : Reason) (ts : List Token) → Places n ts → Inside n (λ _. ⊤) (allowed good why ts)
  allowed-inside true why ts p = record { holds = tt }
  allowed-inside false why ts p = record { holds = at-places ts p }

  taken-inside : (w : List ℕ) (wanted : Wanted) (ts : List Token) → Places n ts → Inside n (Places n) (taken w wanted ts)
  unfolding taken
  taken-inside w wanted ts p = choose (is w ts) _ _ (record { holds = next-places ts p }) (record { holds = at-places ts p })

  some-inside : {X : Type 0} (wanted : Wanted) (o : Option X) (ts : List Token) → Places n ts → Inside n (Behind n) (some_or wanted o ts)
  some-inside wanted (Some x) ts p = record { holds = next-places ts p }
  some-inside wanted None ts p = record { holds = at-places ts p }

  -- ---- rules

  rate-inside : (ts : List Token) → Places n ts → Inside n (Behind n) (rate_at ts)
  unfolding rate_at
  rate-inside ts p =
      inside-then _ _ (some-inside wanted.Rate (number_of (word ts)) ts p)
      (λ x q. inside-then _ _ (some-inside wanted.Unit (unit_of (word x.1)) x.1 q)
      (λ y r. choose (right_rate (x.0 * y.0)) _ _ (record { holds = r }) (record { holds = at-places ts p })))

  action-inside : (ts : List Token) → Places n ts → Inside n (Behind n) (action_at ts)
  unfolding action_at
  action-inside ts p =
      choose (is allow_word ts) _ _ (record { holds = next-places ts p })
      (choose (is deny_word ts) _ _ (record { holds = next-places ts p })
      (choose (is none_word ts) _ _ (record { holds = next-places ts p })
      (choose (is reserve_word ts) _ _ (rate-inside (next ts) (next-places ts p)) (record { holds = at-places ts p }))))

  port-inside : (ts : List Token) → Places n ts → Inside n (Behind n) (port_at ts)
  unfolding port_at
  port-inside ts p = some-inside wanted.Port (up_to largest_port (number_of (word ts))) ts p

  optional-port-inside : (w : List ℕ) (ts : List Token) → Places n ts → Inside n (Behind n) (optional_port w ts)
  unfolding optional_port
  optional-port-inside w ts p =
      choose (is w ts) _ _ (inside-then _ _ (port-inside (next ts) (next-places ts p)) (λ x q. record { holds = q })) (record { holds = p })

  protocol-number-inside : (ts : List Token) → Places n ts → Inside n (Behind n) (protocol_number_at ts)
  unfolding protocol_number_at
  protocol-number-inside ts p = some-inside wanted.Protocol (up_to largest_protocol (number_of (word ts))) ts p

  -- some words or those behind the first
  either-places : (c : Bool) (ts : List Token) → Places n ts → Places n (if c then next ts else ts)
  either-places true ts p = next-places ts p
  either-places false ts p = p

  protocol-inside : (ts : List Token) → Places n ts → Inside n (Behind n) (protocol_at ts)
  unfolding protocol_at
  protocol-inside ts p =
      choose (is protocol_word ts) _ _ (inside-then _ _ (protocol-number-inside (next ts) (next-places ts p)) (λ x q. record { holds = q }))
      (record { holds = either-places (is_some (protocol_of (word ts))) ts p })

  prefix-or-inside : (r : Result Prefix NoPrefix) (ts : List Token) → Places n ts → Inside n (Behind n) (prefix_or r ts)
  prefix-or-inside (Ok x) ts p = record { holds = next-places ts p }
  prefix-or-inside (Err no.NotOne) ts p = record { holds = at-places ts p }
  prefix-or-inside (Err (no.HostBits x)) ts p = record { holds = at-places ts p }

  prefix-inside : (ts : List Token) → Places n ts → Inside n (Behind n) (prefix_at ts)
  unfolding prefix_at
  prefix-inside ts p = choose (is port_word ts) _ _ (record { holds = p }) (prefix-or-inside (prefix_of (word ts)) ts p)

  side-inside : (w : List ℕ) (ts : List Token) → Places n ts → Inside n (Behind n) (side_at w ts)
  unfolding side_at
  side-inside w ts p =
      choose (is w ts) _ _
      (inside-then _ _ (prefix-inside (next ts) (next-places ts p))
      (λ x q. inside-then _ _ (optional-port-inside port_word x.1 q) (λ y r. record { holds = r })))
      (record { holds = p })

  parts-inside : (ts : List Token) → Places n ts → Inside n (Behind n) (parts_at ts)
  unfolding parts_at
  parts-inside ts p =
      inside-then _ _ (optional-port-inside in_word ts p)
      (λ i pi. inside-then _ _ (protocol-inside i.1 pi)
      (λ k pk. inside-then _ _ (side-inside from_word k.1 pk)
      (λ s ps. inside-then _ _ (side-inside to_word s.1 ps) (λ d pd. record { holds = pd }))))

  match-inside : (ts : List Token) → Places n ts → Inside n (Behind n) (match_at ts)
  unfolding match_at
  match-inside ts p =
      choose (is any_word ts) _ _ (record { holds = next-places ts p })
      (choose (is never_word ts) _ _ (record { holds = next-places ts p })
      (choose (starts_part ts) _ _ (parts-inside ts p) (record { holds = at-places ts p })))

  body-inside : (ts : List Token) → Places n ts → Inside n (Behind n) (body_at ts)
  unfolding body_at
  body-inside ts p =
      inside-then _ _ (action-inside (next (next ts)) (next-places (next ts) (next-places ts p)))
      (λ x q. inside-then _ _ (match-inside x.1 q) (λ y r. record { holds = r }))

  unless-twice-inside : (o : Option ℕ) (ts : List Token) → Places n ts → Inside n (Behind n) (unless_twice o ts)
  unless-twice-inside None ts p = body-inside ts p
  unless-twice-inside (Some place) ts p = record { holds = at-places ts p }

  rule-inside : (rs : List RuleEntry) (ts : List Token) → Places n ts → Inside n (Behind n) (rule_at rs ts)
  unfolding rule_at
  rule-inside rs ts p = choose (labelled ts) _ _ (unless-twice-inside (label_place (word ts) rs) ts p) (record { holds = at-places ts p })

  rules-inside : (room : ℕ) (rs : List RuleEntry) (ts : List Token) → Places n ts → Inside n (Behind n) (rules_at room rs ts)
  unfolding rules_at
  rules-inside zero rs ts p = choose (ends_rules ts) _ _ (record { holds = p }) (record { holds = at-places ts p })
  rules-inside (suc room) rs ts p =
      choose (ends_rules ts) _ _ (record { holds = p })
      (inside-then _ _ (rule-inside rs ts p) (λ r q. rules-inside room (rs ++ r.0 ∷ []) r.1 q))

  -- ---- operators

  unseen-inside : (seen : Option ℕ) (ts : List Token) → Places n ts → Inside n (Behind n) (unseen seen ts)
  unseen-inside None ts p = record { holds = next-places ts p }
  unseen-inside (Some place) ts p = record { holds = at-places ts p }

  new-name-inside : (wanted : Wanted) (seen : Option ℕ) (ts : List Token) → Places n ts → Inside n (Behind n) (new_name wanted seen ts)
  unfolding new_name
  new-name-inside wanted seen ts p = choose (is_name (word ts)) _ _ (unseen-inside seen ts p) (record { holds = at-places ts p })

  cell-inside : (largest : ℕ) (wanted : Wanted) (ts : List Token) → Places n ts → Inside n (Behind n) (cell_at largest wanted ts)
  unfolding cell_at
  cell-inside largest wanted ts p = some-inside wanted (up_to largest (code_of (word ts))) ts p

  line-inside : (w : List ℕ) (heading : Wanted) (largest : ℕ) (last : Wanted) (ts : List Token) → Places n ts
      → Inside n (Behind n) (line_at w heading largest last ts)
  unfolding line_at
  line-inside w heading largest last ts p =
      inside-then _ _ (taken-inside w heading ts p)
      (λ b pb. inside-then _ _ (cell-inside largest_code wanted.Cell b pb)
      (λ x px. inside-then _ _ (cell-inside largest_code wanted.Cell x.1 px)
      (λ y py. inside-then _ _ (cell-inside largest last y.1 py) (λ z pz. record { holds = pz }))))

  columns-inside : (ts : List Token) → Places n ts → Inside n (Places n) (columns_at ts)
  unfolding columns_at
  columns-inside ts p =
      inside-then _ _ (taken-inside open_mark wanted.Table ts p)
      (λ o po. inside-then _ _ (taken-inside allow_word wanted.AllowHeading o po)
      (λ a pa. inside-then _ _ (taken-inside deny_word wanted.DenyHeading a pa)
      (λ d pd. taken-inside reserve_word wanted.ReserveHeading d pd)))

  table-inside : (ts : List Token) → Places n ts → Inside n (Behind n) (table_at ts)
  unfolding table_at
  table-inside ts p =
      inside-then _ _ (columns-inside ts p)
      (λ c pc. inside-then _ _ (line-inside allow_word wanted.AllowHeading largest_code wanted.Cell c pc)
      (λ a pa. inside-then _ _ (line-inside deny_word wanted.DenyHeading largest_code wanted.Cell a.1 pa)
      (λ d pd. inside-then _ _ (line-inside reserve_word wanted.ReserveHeading largest_rate_code wanted.RateCell d.1 pd)
      (λ r pr. inside-then _ _ (taken-inside close_mark wanted.TableEnd r.1 pr) (λ e pe. record { holds = pe })))))

  cells-inside : (o : Option (List ℕ)) (ts : List Token) → Places n ts → Inside n (Behind n) (cells_or o ts)
  cells-inside (Some cells) ts p = record { holds = p }
  cells-inside None ts p = table-inside ts p

  operator-inside : (os : List OperatorEntry) (ts : List Token) → Places n ts → Inside n (Behind n) (operator_at os ts)
  unfolding operator_at
  operator-inside os ts p =
      inside-then _ _ (new-name-inside wanted.OperatorName (operator_place (word ts) os) ts p)
      (λ x q. inside-then _ _ (cells-inside (builtin_of x.0) x.1 q) (λ c r. record { holds = r }))

  operators-inside : (room : ℕ) (os : List OperatorEntry) (ts : List Token) → Places n ts → Inside n (Behind n) (operators_at room os ts)
  unfolding operators_at
  operators-inside zero os ts p = choose (is operator_word ts) _ _ (record { holds = at-places ts p }) (record { holds = p })
  operators-inside (suc room) os ts p =
      choose (is operator_word ts) _ _
      (inside-then _ _ (operator-inside os (next ts) (next-places ts p)) (λ o q. operators-inside room (os ++ o.0 ∷ []) o.1 q))
      (record { holds = p })

  -- ---- nodes

  added-inside : (w : List ℕ) (place : ℕ) (o : Option (List ℕ)) (os : List OperatorEntry) → place ≤ n → Inside n (λ _. ⊤) (added w place o os)
  added-inside w place None os h = record { holds = h }
  added-inside w place (Some cells) os h = choose (nat_lt (length os) most_operators) _ _ (record { holds = tt }) (record { holds = h })

  found-inside : (o : Option ℕ) (w : List ℕ) (place : ℕ) (os : List OperatorEntry) → place ≤ n → Inside n (λ _. ⊤) (found_or o w place os)
  found-inside (Some i) w place os h = record { holds = tt }
  found-inside None w place os h = added-inside w place (builtin_of w) os h

  operator-for-inside : (w : List ℕ) (place : ℕ) (os : List OperatorEntry) → place ≤ n → Inside n (λ _. ⊤) (operator_for w place os)
  unfolding operator_for
  operator-for-inside w place os h = found-inside (operator_index w os) w place os h

  clause-inside : (clause name : List ℕ) (place : ℕ) (os : List OperatorEntry) (ts : List Token) → place ≤ n → Places n ts
      → Inside n (Behind n) (clause_at clause name place os ts)
  unfolding clause_at
  clause-inside clause name place os ts h p =
      choose (is clause ts) _ _
      (inside-then _ _ (operator-for-inside (word (next ts)) (at (next ts)) os (at-places (next ts) (next-places ts p)))
      (λ u q. record { holds = next-places (next ts) (next-places ts p) }))
      (inside-then _ _ (operator-for-inside name place os h) (λ u q. record { holds = p }))

  header-inside : (os : List OperatorEntry) (ns : List NodeEntry) (unclosed : ℕ) (ts : List Token) → Places n ts
      → Inside n (Behind n) (header_at os ns unclosed ts)
  unfolding header_at
  header-inside os ns unclosed ts p =
      let h = at-places ts p in
      inside-then _ _ (new-name-inside wanted.NodeName (node_place (word ts) ns) ts p)
      (λ x px. inside-then _ _ (allowed-inside (nat_lt unclosed deepest) TooDeep ts p)
      (λ u pu. inside-then _ _ (clause-inside inside_word sibling_word (at ts) os x.1 h px)
      (λ i pi. inside-then _ _ (clause-inside between_word sibling_word (at ts) i.0.operators i.1 h pi)
      (λ s ps. inside-then _ _ (clause-inside below_word parent_word (at ts) s.0.operators s.1 h ps)
      (λ q pq. inside-then _ _ (taken-inside open_mark wanted.Block q.1 pq) (λ b pb. record { holds = pb }))))))

  node-inside : (room : ℕ) (os : List OperatorEntry) (ns : List NodeEntry) (unclosed : ℕ) (ts : List Token) → Places n ts
      → Inside n (Behind n) (node_at room os ns unclosed ts)
  unfolding node_at
  node-inside room os ns unclosed ts p =
      inside-then _ _ (header-inside os ns unclosed ts p)
      (λ h q. inside-then _ _ (rules-inside room [] h.1 q) (λ r k. record { holds = k }))

  -- the words behind closing braces
  closed-places : (unclosed : ℕ) (ts : List Token) → Places n ts → Places n (closed unclosed ts).1
  closed-places zero ts p = p
  closed-places (suc unclosed) ts p = pick (is close_mark ts) _ _ (closed-places unclosed (next ts) (next-places ts p)) p
    where
      pick : (c : Bool) (x y : ℕ × List Token) → Places n x.1 → Places n y.1 → Places n (if c then x else y).1
      pick true x y a b = a
      pick false x y a b = b

  no-node-inside : (unclosed : ℕ) (ns : List NodeEntry) (ts : List Token) → Places n ts → Inside n (Behind n) (no_node unclosed ns ts)
  unfolding no_node
  no-node-inside zero ns ts p = record { holds = at-places ts p }
  no-node-inside (suc unclosed) ns ts p = choose (ended ts) _ _ (record { holds = at-places ts p }) (record { holds = at-places ts p })

  nodes-inside : (room : ℕ) (os : List OperatorEntry) (ns : List NodeEntry) (unclosed : ℕ) (ts : List Token) → Places n ts
      → Inside n (Behind n) (nodes_at room os ns unclosed ts)
  unfolding nodes_at
  nodes-inside zero os ns unclosed ts p = choose (is node_word ts) _ _ (record { holds = at-places ts p }) (no-node-inside unclosed ns ts p)
  nodes-inside (suc room) os ns unclosed ts p =
      choose (is node_word ts) _ _
      (inside-then _ _ (node-inside (most_atoms - rule_count ns) os ns unclosed (next ts) (next-places ts p))
      (λ x q. let c = closed-places (suc unclosed) x.1 q in
      choose ((closed (suc unclosed) x.1).0 == 0) _ _ (record { holds = c })
      (nodes-inside room x.0.operators (ns ++ x.0.node ∷ []) (closed (suc unclosed) x.1).0 (closed (suc unclosed) x.1).1 c)))
      (no-node-inside unclosed ns ts p)

  policy-inside : (ts : List Token) → Places n ts → Inside n (λ (p : Entries). ⊤) (policy_at ts)
  unfolding policy_at
  policy-inside ts p =
      inside-then _ _ (operators-inside most_operators [] ts p)
      (λ o q. inside-then _ _ (nodes-inside most_nodes o.0 [] 0 o.1 q)
      (λ k r. choose (ended k.1) _ _ (record { holds = tt }) (record { holds = at-places k.1 r })))

-- the words of a text stand within it
text-places : (text : List ℕ) → Places (length text) (tokens_of text)
text-places text =
    record { all = all_then (λ t. t.at + length t.word ≤ length text) (λ t. t.at ≤ length text) (λ t h. omega arith) (tokens_of text) (tokens-within text) }

-- A FAULT STANDS WITHIN THE TEXT
pub fault-within : (text : List ℕ) (f : Fault) → read_of text ≡ Err f → f.at ≤ length text
fault-within text f e =
    let h : Inside (length text) (λ (p : Entries). ⊤) (Err f) =
    subst (Inside (length text) (λ (p : Entries). ⊤)) e (policy-inside (length text) (tokens_of text) (text-places text)) in
    h.holds
