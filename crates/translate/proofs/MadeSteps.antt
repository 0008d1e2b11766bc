-- One step of each loop that makes a policy of a file's words, and where an accepted file's sections stand. Assumes nothing.
use Rattle.std.proofs.Common.{ℕ, zero, suc, ◌+◌, ◌-◌, ◌*◌, ◌≤◌, arith, ◌≡◌, refl, sym, ap}
use Rattle.std.proofs.Common.{ap₂, ◌∙◌, List, [], ◌∷◌, ◌++◌, map, length, take, drop, append_assoc, drop-drop, Ok}
use Rattle.std.proofs.lemmas.List.{drop-take, take_rest}
use Rattle.words.specs.Records.{records}
use Rattle.row.specs.Row.{row_length, row_of}
use Rattle.policy.specs.Numbers.{operator_length, node_length, most_operators, most_atoms, most_nodes}
use Rattle.policy.specs.Sections.{children_of, own_of}
use Rattle.policy.specs.Read.{atoms_at, nodes_at, operator_records, node_records, read_of}
use Rattle.policy.specs.Whole.{waiting_nodes, one_less, own_atoms}
use Rattle.policy.specs.Node.{node_of}
use Rattle.policy.specs.WellFormed.{WellFormed}
use Rattle.policy.specs.declared.Layout.{Layout}
use Rattle.policy.proofs.Accepted.{accepted-exactly}
use Rattle.depths.specs.Depths.{depths_from, depths_of}
use Rattle.std.specs.Prelude.{codes}
use Rattle.notation.specs.Policy.{OperatorEntry, RuleEntry, NodeEntry, Entries}
use Rattle.translate.specs.Names.{numbered, operator_name, operators_from, rules_from, nodes_from, policy_of}
use Rattle.translate.specs.Made.{node_made}

-- one more member of a list is made
pub made-step : {X : Type 0} (xs new rest all : List X) (x : X) → xs ++ x ∷ rest ≡ all → new ≡ xs ++ x ∷ [] → new ++ rest ≡ all
made-step xs new rest all x e p = ap (λ l. l ++ rest) p ∙ append_assoc xs (x ∷ []) rest ∙ e

-- the next operator
pub operators-next : (i j m k : ℕ) (ws : List ℕ) → m ≡ suc k → j ≡ suc i
    → operators_from i (records m operator_length ws)
    ≡ record { name = operator_name i (take operator_length ws); at = 0; cells = take operator_length ws }
    ∷ operators_from j (records k operator_length (drop operator_length ws))
operators-next i j m k ws e p = rw (e, p) refl

-- the next rule
pub rules-next : (i j m k : ℕ) (ws : List ℕ) → m ≡ suc k → j ≡ suc i
    → rules_from i (records m row_length ws)
    ≡ record { label = numbered (codes "rule") i; at = 0; row = row_of (take row_length ws) }
    ∷ rules_from j (records k row_length (drop row_length ws))
rules-next i j m k ws e p = rw (e, p) refl

-- the first of some rules, and those behind them
rules-take : (n m r : ℕ) (ws : List ℕ) → n ≤ m → take n (rules_from r (records m row_length ws)) ≡ rules_from r (records n row_length ws)
rules-take zero m r ws h = refl
rules-take (suc n) zero r ws h = absurd (omega arith)
rules-take (suc n) (suc m) r ws h =
    ap (λ l. record { label = numbered (codes "rule") r; at = 0; row = row_of (take row_length ws) } ∷ l)
    (rules-take n m (suc r) (drop row_length ws) (omega arith))

rules-drop : (n m r j a : ℕ) (ws : List ℕ) → m ≡ n + a → j ≡ r + n
    → drop n (rules_from r (records m row_length ws)) ≡ rules_from j (records a row_length (drop (n * row_length) ws))
rules-drop zero m r j a ws e p = let q : m ≡ a = omega arith in let s : j ≡ r = omega arith in rw (q, s) refl
rules-drop (suc n) zero r j a ws e p = absurd (omega arith)
rules-drop (suc n) (suc m) r j a ws e p =
    let g : row_length + n * row_length ≡ suc n * row_length = omega arith in
    rules-drop n m (suc r) j a (drop row_length ws) (omega arith) (omega arith)
    ∙ ap (λ l. rules_from j (records a row_length l)) (drop-drop (n * row_length) row_length ws ∙ ap (λ x. drop x ws) g)

-- the next node, with the rules that are its own
pub nodes-next : (i j m k r s : ℕ) (ws vs st : List ℕ) → m ≡ suc k → j ≡ suc i → s ≡ r + own_of (take node_length ws)
    → let rs : List (List ℕ) = records m node_length ws in
    let rest : List (List ℕ) = records k node_length (drop node_length ws) in
    let w : List ℕ = take node_length ws in
    nodes_from i rs (depths_from st (map children_of rs)) (rules_from r (records (own_atoms rs) row_length vs))
    ≡ node_made i (length (waiting_nodes st)) (node_of w) (rules_from r (records (own_of w) row_length vs))
    ∷ nodes_from j rest (depths_from (children_of w ∷ one_less (waiting_nodes st)) (map children_of rest))
    (rules_from s (records (own_atoms rest) row_length (drop (own_of w * row_length) vs)))
nodes-next i j m k r s ws vs st e p q =
    let w = take node_length ws in
    let rest = records k node_length (drop node_length ws) in
    let total = own_of w + own_atoms rest in
    rw (e, p)
    (ap₂ (λ (x : List RuleEntry) (y : List RuleEntry).
    node_made i (length (waiting_nodes st)) (node_of w) x
    ∷ nodes_from (suc i) rest (depths_from (children_of w ∷ one_less (waiting_nodes st)) (map children_of rest)) y)
    (rules-take (own_of w) total r vs (omega arith))
    (rules-drop (own_of w) total r s (own_atoms rest) vs refl q))

-- the rules of the next node, and of those behind it
pub own-next : (m k : ℕ) (ws : List ℕ) → m ≡ suc k
    → own_atoms (records m node_length ws) ≡ own_of (take node_length ws) + own_atoms (records k node_length (drop node_length ws))
own-next m k ws e = rw e refl

-- where the sections of an accepted file stand
pub record Laid (f : List ℕ) (l : Layout) : Type 0 where
  pub few_operators : l.operators ≤ most_operators
  pub few_atoms : l.atoms ≤ most_atoms
  pub few_nodes : l.nodes ≤ most_nodes
  pub operators : 1 + operator_length * l.operators ≤ length f
  pub atoms : atoms_at l.operators + 1 + row_length * l.atoms ≤ length f
  pub nodes : nodes_at l.operators l.atoms + 1 + node_length * l.nodes ≤ length f
  pub taken : own_atoms (node_records f l.operators l.atoms l.nodes) ≡ l.atoms

pub laid : (f : List ℕ) (l : Layout) → read_of f ≡ Ok l → Laid f l
laid f l e =
    let w : WellFormed f l = (accepted-exactly f l).0 e in
    let o = w.otherwise in
    record {
      few_operators = o.operators.most;
      few_atoms = o.atoms.most;
      few_nodes = o.nodes.most;
      operators = omega (arith, o.operators.whole);
      atoms = omega (arith, o.atoms.whole);
      nodes = omega (arith, o.nodes.whole);
      taken = o.all_taken;
    }

-- one more node is made
pub node-put : (ns new all : List NodeEntry) (i j s k : ℕ) (ws ws' st st' vs vs' : List ℕ) (x : NodeEntry) → ws ≡ ws' → st ≡ st' → vs ≡ vs'
    → ns ++ x ∷ nodes_from j (records k node_length ws) (depths_from st (map children_of (records k node_length ws)))
    (rules_from s (records (own_atoms (records k node_length ws)) row_length vs)) ≡ all
    → new ≡ ns ++ x ∷ []
    → new ++ nodes_from j (records k node_length ws') (depths_from st' (map children_of (records k node_length ws')))
    (rules_from s (records (own_atoms (records k node_length ws')) row_length vs')) ≡ all
node-put ns new all i j s k ws ws' st st' vs vs' x p q r e n = made-step ns new _ all x (rw (sym p, sym q, sym r) e) n

-- the first members of more first members
take-within : (n p : ℕ) (l : List ℕ) → n ≤ p → take n (take p l) ≡ take n l
take-within zero p l h = refl
take-within (suc n) zero l h = absurd (omega arith)
take-within (suc n) (suc p) [] h = refl
take-within (suc n) (suc p) (x ∷ l) h = ap (λ r. x ∷ r) (take-within n p l (omega arith))

-- records are read off the front
pub records-front : (n k : ℕ) (ws : List ℕ) → records n k (take (n * k) ws) ≡ records n k ws
records-front zero k ws = refl
records-front (suc n) k ws =
    let g : suc n * k ≡ k + n * k = omega arith in
    rw g (ap₂ (λ (x : List ℕ) (y : List (List ℕ)). x ∷ y) (take-within k (k + n * k) ws (omega arith))
    (ap (records n k) (drop-take k (n * k) ws) ∙ records-front n k (drop k ws)))

-- what stands behind a place
pub behind : (n m : ℕ) (ws : List ℕ) → n ≡ m → take (length ws - n) (drop n ws) ≡ drop m ws
behind n m ws e = take_rest ws n ∙ ap (λ k. drop k ws) e

-- a policy of operators and nodes
abbrev policy : List OperatorEntry → List NodeEntry → Entries
policy os ns = record { operators = os; nodes = ns }

-- operators and nodes made of the three sections of a file are its policy
pub policy-made : (f : List ℕ) (l : Layout) → Laid f l → (x y z : List ℕ) → x ≡ drop 1 f → y ≡ drop (nodes_at l.operators l.atoms + 1) f
    → z ≡ drop (atoms_at l.operators + 1) f → (os : List OperatorEntry) (ns : List NodeEntry) → os ≡ operators_from 0 (records l.operators operator_length x)
    → ns ≡ nodes_from 0 (records l.nodes node_length y) (depths_of (map children_of (records l.nodes node_length y)))
    (rules_from 0 (records (own_atoms (records l.nodes node_length y)) row_length z))
    → ◌≡◌ {A = Entries} (record { operators = os; nodes = ns }) (policy_of f l)
policy-made f l d x y z ex ey ez os ns eo en =
    rw (eo, en, ex, ey, ez)
    (ap (λ m. policy (operators_from 0 (operator_records f l.operators))
    (nodes_from 0 (node_records f l.operators l.atoms l.nodes) (depths_of (map children_of (node_records f l.operators l.atoms l.nodes)))
    (rules_from 0 (records m row_length (drop (atoms_at l.operators + 1) f))))) d.taken)
