-- What is read stands where it is said to stand: a name and its place are those of one word of the text.
--
--   InPlace text ts   words that are left, which stand at their places, with one end
--   Yields P r        what a reader gave has P
--   Behind text x     the words that are left behind a value are such
use Rattle.std.proofs.Common.{◌≡◌, ℕ, zero, suc, ◌+◌, ◌-◌, ◌≤◌, Bool, true, false, List, [], ◌∷◌, ◌++◌, Option, Some, None, inl, inr}
use Rattle.std.proofs.Common.{Result, Ok, Err, length, take, drop, refl, subst}
use Rattle.std.specs.Prelude.{if◌then◌else◌, nat_lt, ◌==◌, ⊤}
use Rattle.logic.specs.Lists.{All}
use Rattle.logic.proofs.Lists.{all_append, all_split}
use Rattle.policy.specs.Numbers.{most_operators, most_atoms, most_nodes, deepest}
use Rattle.tokens.specs.Tokens.{Token, tokens_of, word, at, next, is, ended}
use Rattle.tokens.specs.Theorems.{OneEnd}
use Rattle.tokens.proofs.Spans.{tokens-within, tokens-lie, words-nonempty, next-ends}
use Rattle.notation.specs.declared.fault.Fault.{Fault}
use Rattle.notation.specs.declared.fault.Reason.TheVariants.{TooDeep}
use Rattle.notation.specs.declared.fault.Wanted.{Wanted}
use Rattle.notation.specs.declared.fault.Wanted.TheVariants as wanted
use Rattle.notation.specs.Reads.{◌>>=◌, allowed, taken}
use Rattle.notation.specs.Words.{operator_word, node_word, inside_word, between_word, below_word, sibling_word, parent_word, open_mark, close_mark}
use Rattle.notation.specs.Policy.{OperatorEntry, RuleEntry, NodeEntry, Entries}
use Rattle.notation.specs.Operators.{builtin_of, operator_place, new_name, cells_or, operator_at, operators_at}
use Rattle.notation.specs.Rules.{action_at, match_at, label_place, labelled, body_at, unless_twice, rule_at, ends_rules, rules_at}
use Rattle.notation.specs.Nodes.{operator_index, added, found_or, operator_for, clause_at, node_place, Header, header_at}
use Rattle.notation.specs.Nodes.{Opened, node_at, closed, rule_count, no_node, nodes_at, policy_at}
use Rattle.notation.proofs.Took.{Took}
use Rattle.notation.proofs.ActionLaws.{action-takes}
use Rattle.notation.proofs.MatchLaws.{match-takes}
use Rattle.notation.proofs.TableLaws.{table-takes}
use Rattle.notation.proofs.OperatorLaws.{name-takes}
use Rattle.notation_promises.specs.Texts.{Stands, OperatorStands, RuleStands, NodeStands, AllStand, PlacesStand}

-- ---- words that stand at their places

-- words that are left, with one end
record InPlace (text : List ℕ) (ts : List Token) : Type 0 where
  ends : OneEnd (length text) ts
  all : All (λ t. Stands text t.word t.at) ts

-- the first word stands at its place
in_place-first : (text : List ℕ) (ts : List Token) → InPlace text ts → Stands text (word ts) (at ts)
in_place-first text [] k = absurd k.ends
in_place-first text (t ∷ ts) k = k.all.0

-- so do those behind it
in_place-next : (text : List ℕ) (ts : List Token) → InPlace text ts → InPlace text (next ts)
in_place-next text ts k = record { ends = next-ends (length text) ts k.ends; all = behind ts k.all }
  where
    behind : (us : List Token) → All (λ t. Stands text t.word t.at) us → All (λ t. Stands text t.word t.at) (next us)
    behind [] a = a
    behind (t ∷ []) a = a
    behind (t ∷ u ∷ us) a = a.1

-- so do those behind some that were taken
in_place-took : (text : List ℕ) (ts rest : List Token) (ws : List (List ℕ)) → InPlace text ts → Took (length text) ts rest ws → InPlace text rest
in_place-took text ts rest ws k t =
    let stands : Token → Type 0 = λ u. Stands text u.word u.at in
    record { ends = t.ends; all = (all_split stands t.front rest (subst (All stands) t.split k.all)).1 }

-- ---- what a reader gave

-- it has P, if it is no fault
abbrev IfGiven : {X : Type 0} → (X → Type 0) → Result X Fault → Type 0
IfGiven P (Ok x) = P x
IfGiven P (Err f) = ⊤

-- the same as a record
record Yields {X : Type 0} (P : X → Type 0) (r : Result X Fault) : Type 0 where
  holds : IfGiven P r

-- the words that are left behind a value
abbrev Behind : {X : Type 0} → List ℕ → X × List Token → Type 0
Behind text x = InPlace text x.1

-- of each value that may be given
yields : {X : Type 0} {P : X → Type 0} (r : Result X Fault) → ((x : X) → r ≡ Ok x → P x) → Yields P r
yields (Ok x) f = record { holds = f x refl }
yields (Err e) f = record { holds = tt }

-- one reader after another
yields-then : {X Y : Type 0} {P : X → Type 0} {Q : Y → Type 0} (r : Result X Fault) (f : X → Result Y Fault) → Yields P r
    → ((x : X) → P x → Yields Q (f x)) → Yields Q (r >>= f)
yields-then (Ok x) f a b = b x a.holds
yields-then (Err e) f a b = record { holds = tt }

-- a choice
choose : {X : Type 0} {P : X → Type 0} (c : Bool) (r s : Result X Fault) → Yields P r → Yields P s → Yields P (if c then r else s)
choose true r s a b = a
choose false r s a b = b

-- ---- readers whose values have no place

module _ (text : List ℕ) where
  -- a word that is wanted
  taken-keeps : (w : List ℕ) (wanted : Wanted) (ts : List Token) → InPlace text ts → Yields (InPlace text) (taken w wanted ts)
  unfolding taken
  taken-keeps w wanted ts k = choose (is w ts) _ _ (record { holds = in_place-next text ts k }) (record { holds = tt })

  -- an action
  action-keeps : (ts : List Token) → InPlace text ts → Yields (Behind text) (action_at ts)
  action-keeps ts k =
      yields (action_at ts) (λ x e. let t = action-takes (length text) ts x.1 x.0 k.ends e in in_place-took text ts x.1 t.words k t.took)

  -- a match
  match-keeps : (ts : List Token) → InPlace text ts → Yields (Behind text) (match_at ts)
  match-keeps ts k =
      yields (match_at ts) (λ x e. let t = match-takes (length text) ts x.1 x.0 k.ends e in in_place-took text ts x.1 t.words k t.took)

  -- the cells of an operator
  cells-keep : (o : Option (List ℕ)) (ts : List Token) → InPlace text ts → Yields (Behind text) (cells_or o ts)
  cells-keep (Some cells) ts k = record { holds = k }
  cells-keep None ts k =
      yields (cells_or None ts) (λ x e. let t = table-takes (length text) ts x.1 x.0 k.ends e in in_place-took text ts x.1 t.words k t.took)

  -- a new name, which stands at the first word's place
  name-stands : (wanted : Wanted) (seen : Option ℕ) (ts : List Token) → InPlace text ts
      → Yields (λ x. Stands text x.0 (at ts) × InPlace text x.1) (new_name wanted seen ts)
  name-stands wanted seen ts k =
      yields (new_name wanted seen ts)
      (λ x e. let t = name-takes (length text) wanted seen ts x.1 x.0 k.ends e in
      (subst (λ (w : List ℕ). Stands text w (at ts)) t.here (in_place-first text ts k), in_place-took text ts x.1 (x.0 ∷ []) k t.took))

  -- ---- rules

  -- a rule and the words that are left
  abbrev Ruled : RuleEntry × List Token → Type 0
  Ruled x = RuleStands text x.0 × InPlace text x.1

  -- the body of a rule
  body-stands : (ts : List Token) → InPlace text ts → Yields Ruled (body_at ts)
  unfolding body_at
  body-stands ts k =
      yields-then _ _ (action-keeps (next (next ts)) (in_place-next text (next ts) (in_place-next text ts k)))
      (λ a p. yields-then _ _ (match-keeps a.1 p) (λ m q. record { holds = (in_place-first text ts k, q) }))

  -- a body whose label is new
  unless-twice-stands : (o : Option ℕ) (ts : List Token) → InPlace text ts → Yields Ruled (unless_twice o ts)
  unless-twice-stands None ts k = body-stands ts k
  unless-twice-stands (Some place) ts k = record { holds = tt }

  -- a rule
  rule-stands : (rs : List RuleEntry) (ts : List Token) → InPlace text ts → Yields Ruled (rule_at rs ts)
  unfolding rule_at
  rule-stands rs ts k = choose (labelled ts) _ _ (unless-twice-stands (label_place (word ts) rs) ts k) (record { holds = tt })

  -- the rules of a node
  rules-stand : (room : ℕ) (rs : List RuleEntry) (ts : List Token) → All (RuleStands text) rs → InPlace text ts
      → Yields (λ x. All (RuleStands text) x.0 × InPlace text x.1) (rules_at room rs ts)
  unfolding rules_at
  rules-stand zero rs ts a k = choose (ends_rules ts) _ _ (record { holds = (a, k) }) (record { holds = tt })
  rules-stand (suc room) rs ts a k =
      choose (ends_rules ts) _ _ (record { holds = (a, k) })
      (yields-then _ _ (rule-stands rs ts k)
      (λ r q. rules-stand room (rs ++ r.0 ∷ []) r.1 (all_append (RuleStands text) rs (r.0 ∷ []) a (q.0, tt)) q.1))

  -- ---- operators

  -- operators that stand at their places
  abbrev Standing : List OperatorEntry → Type 0
  Standing os = All (OperatorStands text) os

  -- an operator
  operator-stands : (os : List OperatorEntry) (ts : List Token) → InPlace text ts
      → Yields (λ x. OperatorStands text x.0 × InPlace text x.1) (operator_at os ts)
  unfolding operator_at
  operator-stands os ts k =
      yields-then _ _ (name-stands wanted.OperatorName (operator_place (word ts) os) ts k)
      (λ x p. yields-then _ _ (cells-keep (builtin_of x.0) x.1 p.1) (λ c q. record { holds = (inl p.0, q) }))

  -- the operators
  operators-stand : (room : ℕ) (os : List OperatorEntry) (ts : List Token) → Standing os → InPlace text ts
      → Yields (λ x. Standing x.0 × InPlace text x.1) (operators_at room os ts)
  unfolding operators_at
  operators-stand zero os ts a k = choose (is operator_word ts) _ _ (record { holds = tt }) (record { holds = (a, k) })
  operators-stand (suc room) os ts a k =
      choose (is operator_word ts) _ _
      (yields-then _ _ (operator-stands os (next ts) (in_place-next text ts k))
      (λ o q. operators-stand room (os ++ o.0 ∷ []) o.1 (all_append (OperatorStands text) os (o.0 ∷ []) a (q.0, tt)) q.1))
      (record { holds = (a, k) })

  -- one that is there from the start is put behind the others
  added-stands : (w : List ℕ) (place : ℕ) (o : Option (List ℕ)) (os : List OperatorEntry) → builtin_of w ≡ o → Standing os
      → Yields (λ u. Standing u.operators) (added w place o os)
  added-stands w place None os e a = record { holds = tt }
  added-stands w place (Some cells) os e a =
      choose (nat_lt (length os) most_operators) _ _
      (record { holds = all_append (OperatorStands text) os _ a (inr (rw e refl), tt) }) (record { holds = tt })

  -- one that is found, or put behind
  found-stands : (o : Option ℕ) (w : List ℕ) (place : ℕ) (os : List OperatorEntry) → Standing os
      → Yields (λ u. Standing u.operators) (found_or o w place os)
  found-stands (Some i) w place os a = record { holds = a }
  found-stands None w place os a = added-stands w place (builtin_of w) os refl a

  -- the operator of a name
  operator-for-stands : (w : List ℕ) (place : ℕ) (os : List OperatorEntry) → Standing os
      → Yields (λ u. Standing u.operators) (operator_for w place os)
  unfolding operator_for
  operator-for-stands w place os a = found-stands (operator_index w os) w place os a

  -- an operator behind its word
  clause-stands : (clause name : List ℕ) (place : ℕ) (os : List OperatorEntry) (ts : List Token) → Standing os → InPlace text ts
      → Yields (λ x. Standing x.0.operators × InPlace text x.1) (clause_at clause name place os ts)
  unfolding clause_at
  clause-stands clause name place os ts a k =
      choose (is clause ts) _ _
      (yields-then _ _ (operator-for-stands (word (next ts)) (at (next ts)) os a)
      (λ u q. record { holds = (q, in_place-next text (next ts) (in_place-next text ts k)) }))
      (yields-then _ _ (operator-for-stands name place os a) (λ u q. record { holds = (q, k) }))

  -- ---- nodes

  -- a header that was read at a place
  record Headed (place : ℕ) (x : Header × List Token) : Type 0 where
    name : Stands text x.0.name place
    operators : Standing x.0.operators
    kept : InPlace text x.1

  -- a header
  header-stands : (os : List OperatorEntry) (ns : List NodeEntry) (unclosed : ℕ) (ts : List Token) → Standing os → InPlace text ts
      → Yields (Headed (at ts)) (header_at os ns unclosed ts)
  unfolding header_at
  header-stands os ns unclosed ts a k =
      yields-then _ _ (name-stands wanted.NodeName (node_place (word ts) ns) ts k)
      (λ x px. yields-then _ _ (yields {P = λ _. ⊤} (allowed (nat_lt unclosed deepest) TooDeep ts) (λ u e. tt))
      (λ u pu. yields-then _ _ (clause-stands inside_word sibling_word (at ts) os x.1 a px.1)
      (λ i pi. yields-then _ _ (clause-stands between_word sibling_word (at ts) i.0.operators i.1 pi.0 pi.1)
      (λ s ps. yields-then _ _ (clause-stands below_word parent_word (at ts) s.0.operators s.1 ps.0 ps.1)
      (λ q pq. yields-then _ _ (taken-keeps open_mark wanted.Block q.1 pq.1)
      (λ b pb. record { holds = record { name = px.0; operators = pq.0; kept = pb } }))))))

  -- a node that was read
  record Noded (x : Opened × List Token) : Type 0 where
    node : NodeStands text x.0.node
    operators : Standing x.0.operators
    kept : InPlace text x.1

  -- a node
  node-stands : (room : ℕ) (os : List OperatorEntry) (ns : List NodeEntry) (unclosed : ℕ) (ts : List Token) → Standing os → InPlace text ts
      → Yields Noded (node_at room os ns unclosed ts)
  unfolding node_at
  node-stands room os ns unclosed ts a k =
      yields-then _ _ (header-stands os ns unclosed ts a k)
      (λ h p. yields-then _ _ (rules-stand room [] h.1 tt p.kept)
      (λ r q. record { holds = record { node = (p.name, q.0); operators = p.operators; kept = q.1 } }))

  -- the words behind closing braces
  closed-keeps : (unclosed : ℕ) (ts : List Token) → InPlace text ts → InPlace text (closed unclosed ts).1
  closed-keeps zero ts k = k
  closed-keeps (suc unclosed) ts k = pick (is close_mark ts) _ _ (closed-keeps unclosed (next ts) (in_place-next text ts k)) k
    where
      pick : (c : Bool) (x y : ℕ × List Token) → InPlace text x.1 → InPlace text y.1 → InPlace text (if c then x else y).1
      pick true x y a b = a
      pick false x y a b = b

  -- a policy and the words that are left
  abbrev Done : Entries × List Token → Type 0
  Done x = AllStand text x.0 × InPlace text x.1

  -- where no node comes there is none
  no-node-yields : (unclosed : ℕ) (ns : List NodeEntry) (ts : List Token) → Yields Done (no_node unclosed ns ts)
  unfolding no_node
  no-node-yields zero ns ts = record { holds = tt }
  no-node-yields (suc unclosed) ns ts = choose (ended ts) _ _ (record { holds = tt }) (record { holds = tt })

  -- the nodes
  nodes-stand : (room : ℕ) (os : List OperatorEntry) (ns : List NodeEntry) (unclosed : ℕ) (ts : List Token) → Standing os
      → All (NodeStands text) ns → InPlace text ts → Yields Done (nodes_at room os ns unclosed ts)
  unfolding nodes_at
  nodes-stand zero os ns unclosed ts a b k = choose (is node_word ts) _ _ (record { holds = tt }) (no-node-yields unclosed ns ts)
  nodes-stand (suc room) os ns unclosed ts a b k =
      choose (is node_word ts) _ _
      (yields-then _ _ (node-stands (most_atoms - rule_count ns) os ns unclosed (next ts) a (in_place-next text ts k))
      (λ x q. let c = closed-keeps (suc unclosed) x.1 q.kept in
      let more = all_append (NodeStands text) ns (x.0.node ∷ []) b (q.node, tt) in
      choose ((closed (suc unclosed) x.1).0 == 0) _ _ (record { holds = (record { operators = q.operators; nodes = more }, c) })
      (nodes-stand room x.0.operators (ns ++ x.0.node ∷ []) (closed (suc unclosed) x.1).0 (closed (suc unclosed) x.1).1 q.operators more c)))
      (no-node-yields unclosed ns ts)

  -- a policy
  policy-stands : (ts : List Token) → InPlace text ts → Yields (AllStand text) (policy_at ts)
  unfolding policy_at
  policy-stands ts k =
      yields-then _ _ (operators-stand most_operators [] ts tt k)
      (λ o q. yields-then _ _ (nodes-stand most_nodes o.0 [] 0 o.1 q.0 tt q.1)
      (λ p r. choose (ended p.1) _ _ (record { holds = r.0 }) (record { holds = tt })))

-- two properties of all
both-all : {X : Type 0} (T S : X → Type 0) (xs : List X) → All T xs → All S xs → All (λ x. T x × S x) xs
both-all T S [] a b = tt
both-all T S (x ∷ xs) a b = ((a.0, b.0), both-all T S xs a.1 b.1)

-- the words of a text stand at their places
text-in_place : (text : List ℕ) → InPlace text (tokens_of text)
text-in_place text = record {
  ends = words-nonempty text;
  all = both-all (λ t. t.at + length t.word ≤ length text) (λ t. t.word ≡ take (length t.word) (drop t.at text)) (tokens_of text)
      (tokens-within text) (tokens-lie text);
}

-- WHAT IS READ STANDS WHERE IT IS SAID TO STAND
pub places-stand : PlacesStand
places-stand text p e =
    let h : Yields (AllStand text) (Ok p) = subst (Yields (AllStand text)) e (policy-stands text (tokens_of text) (text-in_place text)) in
    h.holds
