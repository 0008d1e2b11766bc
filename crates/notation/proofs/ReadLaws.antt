-- What is read as a policy is operators and nodes by their depths, and a right policy.
use Rattle.std.proofs.Common.{◌≡◌, ℕ, true, false, List, [], ◌∷◌, ◌++◌, Result, Ok, length, map, refl, ap, subst, ◌∙◌, arith}
use Rattle.std.proofs.lemmas.Slice.Eq.{bytes_eq-Decides}
use Rattle.policy.specs.Numbers.{most_operators, most_nodes}
use Rattle.depths.specs.Depths.{Deep}
use Rattle.tokens.specs.Tokens.{Token, ended}
use Rattle.tokens.specs.Theorems.{OneEnd}
use Rattle.notation.specs.declared.fault.Fault.{Fault}
use Rattle.notation.specs.declared.fault.ReadError.{ReadError}
use Rattle.notation.specs.declared.fault.ReadError.TheVariants as errors
use Rattle.notation.specs.declared.fault.Reason.TheVariants.{Unexpected}
use Rattle.notation.specs.declared.fault.Wanted.TheVariants as wanted
use Rattle.notation.specs.Reads.{fault_at, wrong, Fails}
use Rattle.notation.specs.Policy.{OperatorEntry, NodeEntry, Entries}
use Rattle.notation.specs.Operators.{operators_at}
use Rattle.notation.specs.Nodes.{nodes_at, policy_at}
use Rattle.notation.specs.Right.{RightEntries, bare_operator, bare_node}
use Rattle.notation.specs.Grammar.{Block, IsOperators}
use Rattle.notation.specs.Meaning.{uses, all_added, NodesOf}
use Rattle.notation.proofs.Bind.{bound, passed}
use Rattle.notation.proofs.Took.{texts, took-then, took-texts}
use Rattle.notation.proofs.Flat.{IsFlat}
use Rattle.notation.proofs.RightLaws.{operators-right, bare-operators-right}
use Rattle.notation.proofs.OperatorLaws.{operators-take}
use Rattle.notation.proofs.UsedLaws.{RightOperators}
use Rattle.notation.proofs.NodeLaws.{SoFar, nodes-take}

-- ---- the steps of a policy's reader

-- an operator was not read
pub policy-no-operators : (error : ReadError) (ts : List Token) → Fails error (operators_at most_operators [] ts) → Fails error (policy_at ts)
unfolding policy_at
policy-no-operators errors.Memory ts h = tt
policy-no-operators (errors.Fault f) ts h = rw h refl

-- a node was not read
pub policy-no-nodes : (error : ReadError) (ts rest : List Token) (os : List OperatorEntry) → operators_at most_operators [] ts ≡ Ok (os, rest)
    → Fails error (nodes_at most_nodes os [] 0 rest) → Fails error (policy_at ts)
unfolding policy_at
policy-no-nodes errors.Memory ts rest os e h = tt
policy-no-nodes (errors.Fault f) ts rest os e h = rw (e, h) refl

-- more than the end is left
pub policy-more : (ts rest after : List Token) (os : List OperatorEntry) (p : Entries) → operators_at most_operators [] ts ≡ Ok (os, rest)
    → nodes_at most_nodes os [] 0 rest ≡ Ok (p, after) → ended after ≡ false → policy_at ts ≡ wrong wanted.End after
unfolding policy_at
policy-more ts rest after os p e h n = rw (e, h, n) refl

-- only the end is
pub policy-done : (ts rest after : List Token) (os : List OperatorEntry) (p : Entries) → operators_at most_operators [] ts ≡ Ok (os, rest)
    → nodes_at most_nodes os [] 0 rest ≡ Ok (p, after) → ended after ≡ true → policy_at ts ≡ Ok p
unfolding policy_at
policy-done ts rest after os p e h n = rw (e, h, n) refl

-- ---- what it reads

-- a policy was read: its words, with the end behind them
pub record PolicyTaken (ts : List Token) (p : Entries) : Type 0 where
  pub operator_words : List (List ℕ)
  pub node_words : List (List ℕ)
  pub operators : List OperatorEntry
  pub blocks : List (Deep Block)
  pub words : texts ts ≡ (operator_words ++ node_words) ++ [] ∷ []
  pub declared : IsOperators operator_words operators
  pub flat : IsFlat node_words blocks
  pub used : map bare_operator p.operators ≡ all_added (uses blocks) operators
  pub held : NodesOf (map bare_operator p.operators) blocks (map bare_node p.nodes)
  pub right : RightEntries p

-- two policies that were given are the same
abbrev gave-policy : Entries → Result Entries Fault
gave-policy p = Ok p

-- what was given fixes the policy
same-policy : (p q : Entries) → gave-policy p ≡ gave-policy q → p ≡ q
same-policy p q e = cc

-- where the end is first, nothing else is left
only-end : (n : ℕ) (ts : List Token) → OneEnd n ts → ended ts ≡ true → texts ts ≡ [] ∷ []
only-end n [] e h = absurd e
only-end n (t ∷ []) e h = ap (λ (w : List ℕ). w ∷ []) e.1
only-end n (t ∷ u ∷ ts) e h = let w = (bytes_eq-Decides t.word []).0 h in absurd (omega (arith, e.0, ap length w))

-- what is read as a policy is one by the depths of its nodes
pub read-flat : (n : ℕ) (ts : List Token) (p : Entries) → OneEnd n ts → policy_at ts ≡ Ok p → PolicyTaken ts p
unfolding policy_at
read-flat n ts p e g =
    let o = bound _ _ _ g in
    let x = bound _ _ _ o.2 in
    let q = passed (ended x.0.1) (Ok x.0.0) (fault_at _ (Unexpected wanted.End)) p x.2 in
    let t = operators-take n most_operators [] ts o.0.1 o.0.0 e o.1 in
    let same : map bare_operator t.new ≡ map bare_operator o.0.0 = ap (map bare_operator) t.all in
    let declared : IsOperators t.takes.words (map bare_operator o.0.0) = subst (IsOperators t.takes.words) same t.takes.is in
    let right : RightOperators o.0.0 = record {
      few = omega (arith, ap length t.all, t.few);
      all = bare-operators-right o.0.0 (operators-right t.takes.words (map bare_operator o.0.0) declared);
      names = t.names tt;
    } in
    let so : SoFar most_nodes o.0.0 [] 0 =
    record { operators = right; nodes = tt; names = tt; nested = λ l. (refl, tt); rules = omega arith; count = omega arith } in
    let r = nodes-take n most_nodes o.0.0 [] 0 o.0.1 x.0.1 x.0.0 t.takes.took.ends so x.1 in
    let w = took-then n ts o.0.1 x.0.1 t.takes.words r.takes.words t.takes.took r.takes.took in
    let y : x.0.0 ≡ p = same-policy x.0.0 p q.1 in
    subst (PolicyTaken ts) y (record {
      operator_words = t.takes.words;
      node_words = r.takes.words;
      operators = map bare_operator o.0.0;
      blocks = r.blocks;
      words = took-texts n ts x.0.1 (t.takes.words ++ r.takes.words) w
          ∙ ap (λ (v : List (List ℕ)). (t.takes.words ++ r.takes.words) ++ v) (only-end n x.0.1 w.ends q.0);
      declared = declared;
      flat = r.takes.is;
      used = r.used;
      held = subst (λ (v : List NodeEntry). NodesOf (map bare_operator x.0.0.operators) r.blocks (map bare_node v)) r.all r.held;
      right = r.right;
    })

-- what is read as a policy is a right one
pub read-right : (n : ℕ) (ts : List Token) (p : Entries) → OneEnd n ts → policy_at ts ≡ Ok p → RightEntries p
read-right n ts p e g = (read-flat n ts p e g).right
