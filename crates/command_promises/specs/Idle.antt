-- What is promised of the rules that are called idle.
--
--   Silent f l j          atom j of the file f decides no packet: without it all is as before
--   idle_in f l           the atoms that are idle in the rows that stay of the file's table
--   EachSilent            each of these atoms is so
--   AnsweredSilent        and each that is answered
--   rule, two_rules       a rule for a destination, and the file of two rules in one node
--   counts                the counts of such a file
--   subnet, server        rules for a subnet, and for a server in it
--   IdleShown             worked cases
--   IdleDecidesNothing    all that is promised
use Rattle.std.specs.Prelude.{ℕ, ◌≡◌, true, List, [], ◌∷◌, ◌++◌, Ok}
use Rattle.theory.specs.Number.{has}
use Rattle.flow.specs.Match.{match_words, none}
use Rattle.flow.specs.declared.Packet.{Packet}
use Rattle.action.specs.Operator.{sibling}
use Rattle.policy.specs.Read.{layout, read_of}
use Rattle.policy.specs.File.{tree_of}
use Rattle.policy.specs.declared.Layout.{Layout}
use Rattle.tree.specs.Action.{eval_tree, tree_action_of}
use Rattle.row.specs.Row.{table_rows}
use Rattle.compile.specs.Compile.{answer_of, table_after}
use Rattle.hidden.specs.Hidden.{kept_of, table_kept}
use Rattle.idle.specs.Idle.{without, idle_of, IsIdle}
use Rattle.command_promises.specs.Origins.{staying_rows}

-- without atom j the file f is accepted with the same counts, and every packet has the same action
pub record Silent (f : List ℕ) (l : Layout) (j : ℕ) : Type 0 where
  pub accepted : read_of (without f l j) ≡ Ok l
  pub eval : (p : Packet) → eval_tree (tree_of (without f l j) l) p ≡ eval_tree (tree_of f l) p
  -- words that are no packet are refused alike
  pub action : (p : List ℕ) → tree_action_of (without f l j) p ≡ tree_action_of f p

-- the atoms that are idle in the rows that stay of the file's table
abbrev pub idle_in : List ℕ → Layout → List ℕ
idle_in f l = idle_of f l (staying_rows f l)

-- a rule that is called idle decides no packet
abbrev pub EachSilent : Type 0
EachSilent = (f : List ℕ) (l : Layout) → read_of f ≡ Ok l → (j : ℕ) → has j (idle_in f l) ≡ true → Silent f l j

-- and so is each that is answered of a file and of the rows that the compile and then the pass leave in a table
abbrev pub AnsweredSilent : Type 0
AnsweredSilent =
    (f t s : List ℕ) (l : Layout) (n k : ℕ) (places : List ℕ) → read_of f ≡ Ok l → answer_of f t s ≡ Ok n
    → let ws : List ℕ = table_rows n (table_after f t s) in
    kept_of ws ≡ Ok k → IsIdle (λ ps. ps) f (table_rows k (table_kept ws)) (Ok places)
    → (j : ℕ) → has j places ≡ true → Silent f l j

-- a rule for a destination: its address, its prefix length, and the kind of its action
abbrev pub rule : ℕ → ℕ → ℕ → List ℕ
rule address length kind = 0 ∷ 0 ∷ address ∷ 0 ∷ 0 ∷ 0 ∷ 0 ∷ length ∷ 0 ∷ kind ∷ 0 ∷ []

-- the file of two rules in one node, under the sibling operator: Deny before Allow
abbrev pub two_rules : List ℕ → List ℕ → List ℕ
two_rules first second = (1 ∷ sibling) ++ (2 ∷ first) ++ second ++ (1 ∷ 0 ∷ 0 ∷ 0 ∷ 2 ∷ 0 ∷ [])

-- its counts
abbrev pub counts : Layout
counts = layout 1 2 1

-- 10.7.0.0/16 and 10.7.3.9, allowed (1) or denied (2)
abbrev pub subnet : ℕ → List ℕ
subnet kind = rule 168230912 16 kind

abbrev pub server : ℕ → List ℕ
server kind = rule 168231689 32 kind

-- worked cases, of files that are accepted
pub record IdleShown : Type 0 where
  pub accepted : read_of (two_rules (subnet 2) (server 2)) ≡ Ok counts
  -- a server that is denied once more, and one that is allowed although its subnet is denied: the second rule is idle
  pub again : idle_in (two_rules (subnet 2) (server 2)) counts ≡ 1 ∷ []
  pub overruled : idle_in (two_rules (subnet 2) (server 1)) counts ≡ 1 ∷ []
  -- a server that is denied although its subnet is allowed: both decide
  pub both : idle_in (two_rules (subnet 1) (server 2)) counts ≡ []
  -- the same rule twice: each is idle while the other stands
  pub twice : idle_in (two_rules (subnet 2) (subnet 2)) counts ≡ 0 ∷ 1 ∷ []
  -- a rule that no packet meets
  pub unmet : idle_in (two_rules (subnet 2) (match_words none ++ (1 ∷ 0 ∷ []))) counts ≡ 1 ∷ []

-- WHAT IS PROMISED OF IDLE RULES
pub record IdleDecidesNothing : Type 0 where
  pub silent : EachSilent
  pub answered : AnsweredSilent
  pub shown : IdleShown
