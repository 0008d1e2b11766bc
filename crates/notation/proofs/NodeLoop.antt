-- One step of the loop that reads nodes.
use Rattle.std.proofs.Common.{◌≡◌, ℕ, zero, suc, ◌+◌, ◌-◌, ◌≤◌, Bool, true, false, List, [], ◌∷◌, ◌++◌, length, Result, Ok, Err, refl, subst}
use Rattle.std.proofs.Common.{cond, ◌⊎◌, inl, inr, arith}
use Rattle.std.specs.Prelude.{◌==◌}
use Rattle.std.proofs.lemmas.List.{length-append}
use Rattle.policy.specs.Numbers.{most_atoms}
use Rattle.tokens.specs.Tokens.{Token, is, at, next}
use Rattle.notation.specs.declared.fault.Fault.{Fault}
use Rattle.notation.specs.declared.fault.ReadError.{ReadError}
use Rattle.notation.specs.declared.fault.ReadError.TheVariants as errors
use Rattle.notation.specs.declared.fault.Reason.TheVariants.{TooManyNodes, TooManyRules}
use Rattle.notation.specs.Policy.{RuleEntry, OperatorEntry, NodeEntry}
use Rattle.notation.specs.Reads.{◌>>=◌, fails, Fails}
use Rattle.notation.specs.Words.{node_word, close_mark}
use Rattle.notation.specs.Rules.{ends_rules, rule_at, rules_at}
use Rattle.notation.specs.Nodes.{Header, Opened, header_at, node_at, closed, rule_count, no_node, nodes_at}

-- what a step that gave a value gave
bound : {X Y : Type 0} (r : Result X Fault) (f : X → Result Y Fault) (y : Y) → (r >>= f) ≡ Ok y
    → (x : X) × (r ≡ Ok x) × (f x ≡ Ok y)
bound (Ok x) f y e = (x, refl, e)
bound (Err d) f y e = absurd cc

-- the value of a reader that did not fail
abbrev done : {X : Type 0} → X → Result X Fault
done x = Ok x

ok_is : {X : Type 0} (x y : X) → done x ≡ done y → x ≡ y
ok_is x y e = cc

-- which of two readers a test picked
picked : {X : Type 0} (b : Bool) (r s t : Result X Fault) → cond b r s ≡ t → (r ≡ t) ⊎ (s ≡ t)
picked true r s t e = inl e
picked false r s t e = inr e

-- no more rules are read than there is room for
pub rules_few : (m : ℕ) (rs : List RuleEntry) (ts : List Token) (x : List RuleEntry × List Token)
    → rules_at m rs ts ≡ Ok x → length x.0 ≤ length rs + m
unfolding rules_at
rules_few zero rs ts x e =
    elim (picked (ends_rules ts) (Ok (rs, ts)) (fails TooManyRules ts) (Ok x) e) [
      | inl h ↦ subst (λ (y : List RuleEntry × List Token). length y.0 ≤ length rs + 0) (ok_is (rs, ts) x h) (omega arith)
      | inr h ↦ absurd cc
    ]
rules_few (suc m) rs ts x e =
    elim (picked (ends_rules ts) (Ok (rs, ts)) (rule_at rs ts >>= λ r. rules_at m (rs ++ r.0 ∷ []) r.1) (Ok x) e) [
      | inl h ↦ subst (λ (y : List RuleEntry × List Token). length y.0 ≤ length rs + suc m) (ok_is (rs, ts) x h) (omega arith)
      | inr h ↦
          let b = bound (rule_at rs ts) (λ r. rules_at m (rs ++ r.0 ∷ []) r.1) x h in
          omega (arith, rules_few m (rs ++ b.0.0 ∷ []) b.0.1 x b.2, length-append rs (b.0.0 ∷ []))
    ]

-- no node comes
pub nodes_none : (m : ℕ) (os : List OperatorEntry) (ns : List NodeEntry) (u : ℕ) (ts : List Token)
    → is node_word ts ≡ false → nodes_at m os ns u ts ≡ no_node u ns ts
unfolding nodes_at
nodes_none zero os ns u ts e = rw e refl
nodes_none (suc m) os ns u ts e = rw e refl

-- there is no room for the node that comes
pub nodes_full : (m : ℕ) (os : List OperatorEntry) (ns : List NodeEntry) (u : ℕ) (ts : List Token) → m ≡ 0
    → is node_word ts ≡ true → nodes_at m os ns u ts ≡ fails TooManyNodes ts
unfolding nodes_at
nodes_full m os ns u ts z e = rw (z, e) refl

-- a node was not read
pub nodes_stop : (error : ReadError) (m k : ℕ) (os : List OperatorEntry) (ns : List NodeEntry) (u : ℕ) (ts : List Token)
    → m ≡ suc k → is node_word ts ≡ true → Fails error (node_at (most_atoms - rule_count ns) os ns u (next ts))
    → Fails error (nodes_at m os ns u ts)
unfolding nodes_at
nodes_stop errors.Memory m k os ns u ts z e h = tt
nodes_stop (errors.Fault f) m k os ns u ts z e h = rw (z, e, h) refl

-- a node was read, and all are closed behind it
pub nodes_last : (m k : ℕ) (os : List OperatorEntry) (ns : List NodeEntry) (u : ℕ) (ts : List Token) (x : Opened)
    (rest after : List Token) → m ≡ suc k → is node_word ts ≡ true
    → node_at (most_atoms - rule_count ns) os ns u (next ts) ≡ Ok (x, rest) → closed (suc u) rest ≡ (0, after)
    → nodes_at m os ns u ts ≡ Ok (record { operators = x.operators; nodes = ns ++ x.node ∷ [] }, after)
unfolding nodes_at
nodes_last m k os ns u ts x rest after z e h c = rw (z, e, h, c) refl

-- a node was read, and some are open behind it
pub nodes_step : (m k : ℕ) (os : List OperatorEntry) (ns : List NodeEntry) (u v : ℕ) (ts : List Token) (x : Opened)
    (rest after : List Token) → m ≡ suc k → is node_word ts ≡ true
    → node_at (most_atoms - rule_count ns) os ns u (next ts) ≡ Ok (x, rest) → closed (suc u) rest ≡ (v, after)
    → (v == 0) ≡ false → nodes_at m os ns u ts ≡ nodes_at k x.operators (ns ++ x.node ∷ []) v after
unfolding nodes_at
nodes_step m k os ns u v ts x rest after z e h c some = rw (z, e, h, c, some) refl

-- how many rules there are with a node more
pub rule_count-more : (ns : List NodeEntry) (n : NodeEntry) → rule_count (ns ++ n ∷ []) ≡ rule_count ns + length n.rules
rule_count-more [] n = omega arith
rule_count-more (m ∷ ns) n = omega (arith, rule_count-more ns n)

-- the node of a header and its rules
abbrev made : List Token → ℕ → Header → List RuleEntry → Opened
made ts u h r = record {
  node = record {
    name = h.name;
    at = at ts;
    depth = suc u;
    inner = h.inner;
    sibling = h.sibling;
    parent = h.parent;
    rules = r;
  };
  operators = h.operators;
}

-- a node has no more rules than there is room for
pub node_few : (m : ℕ) (os : List OperatorEntry) (ns : List NodeEntry) (u : ℕ) (ts : List Token) (x : Opened)
    (rest : List Token) → node_at m os ns u ts ≡ Ok (x, rest) → length x.node.rules ≤ m
unfolding node_at
node_few m os ns u ts x rest e =
    let h = bound (header_at os ns u ts) (λ h. rules_at m [] h.1 >>= λ r. Ok (made ts u h.0 r.0, r.1)) (x, rest) e in
    let r = bound (rules_at m [] h.0.1) (λ r. Ok (made ts u h.0.0 r.0, r.1)) (x, rest) h.2 in
    subst (λ (y : Opened × List Token). length y.0.node.rules ≤ m) (ok_is (made ts u h.0.0 r.0.0, r.0.1) (x, rest) r.2)
    (omega (arith, rules_few m [] h.0.1 r.0 r.1))

-- no more nodes are open behind closing braces than before them
pub closed_few : (u : ℕ) (ts : List Token) → (closed u ts).0 ≤ u
closed_few zero ts = omega arith
closed_few (suc u) ts =
    elim (picked_pair (is close_mark ts) (closed u (next ts)) (suc u, ts)) [
      | inl e ↦ rw e (omega (arith, closed_few u (next ts)))
      | inr e ↦ rw e (omega arith)
    ]
  where
    picked_pair : (b : Bool) (p q : ℕ × List Token) → (cond b p q ≡ p) ⊎ (cond b p q ≡ q)
    picked_pair true p q = inl refl
    picked_pair false p q = inr refl

-- one more
pub one_more : (n : ℕ) → n + 1 ≡ suc n
one_more n = omega arith
