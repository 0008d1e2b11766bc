-- The policy that a policy file is, with names made up: an operator's is sibling or parent where it stands first or
-- second and has those cells, else operator-i by its index; a node's is node-i, and a rule's rule-k by its index among
-- all atoms of the file. All places are 0. See docs/NOTATION.md, "From words".
--
--   numbered                      a made-up name
--   operator_name                 the name of the operator at an index
--   operators_from, rules_from    the operators and the rules of some records, from an index on
--   nodes_from                    the nodes of some records with their depths, each with its rules off the front of
--                                 those left
--   policy_of                     the policy that a file of a layout is
use Rattle.std.specs.Prelude.{ℕ, suc, ◌&&◌, List, [], ◌∷◌, ◌++◌, codes, map, take, drop, if◌then◌else◌, ◌==◌, bytes_eq}
use Rattle.std.specs.Fmt.{decimal}
use Rattle.row.specs.Row.{row_of}
use Rattle.action.specs.Operator.{sibling, parent}
use Rattle.policy.specs.Sections.{inner_of, parent_of, sibling_of, own_of, children_of}
use Rattle.policy.specs.Read.{operator_records, atom_records, node_records}
use Rattle.policy.specs.declared.Layout.{Layout}
use Rattle.depths.specs.Depths.{depths_of}
use Rattle.notation.specs.Words.{sibling_word, parent_word}
use Rattle.notation.specs.Policy.{OperatorEntry, RuleEntry, NodeEntry, Entries}

-- a word and a number behind it
abbrev pub numbered : List ℕ → ℕ → List ℕ
numbered stem i = stem ++ (codes "-" ++ decimal i)

-- the name of the operator at an index, by its cells
abbrev pub operator_name : ℕ → List ℕ → List ℕ
operator_name i cells =
    if i == 0 && bytes_eq cells sibling then sibling_word
    else (if i == 1 && bytes_eq cells parent then parent_word else numbered (codes "operator") i)

-- the operators of some records, from an index on
abbrev pub operators_from : ℕ → List (List ℕ) → List OperatorEntry
operators_from i [] = []
operators_from i (o ∷ os) = record { name = operator_name i o; at = 0; cells = o } ∷ operators_from (suc i) os

-- the rules of some records, from an index on
abbrev pub rules_from : ℕ → List (List ℕ) → List RuleEntry
rules_from i [] = []
rules_from i (r ∷ rs) = record { label = numbered (codes "rule") i; at = 0; row = row_of r } ∷ rules_from (suc i) rs

-- the nodes of some records with their depths, from an index on, each with its rules off the front of those left
abbrev pub nodes_from : ℕ → List (List ℕ) → List ℕ → List RuleEntry → List NodeEntry
nodes_from i [] ds rs = []
nodes_from i (r ∷ ns) [] rs = []
nodes_from i (r ∷ ns) (d ∷ ds) rs =
    record {
      name = numbered (codes "node") i;
      at = 0;
      depth = d;
      inner = inner_of r;
      sibling = sibling_of r;
      parent = parent_of r;
      rules = take (own_of r) rs;
    }
    ∷ nodes_from (suc i) ns ds (drop (own_of r) rs)

-- THE POLICY THAT A FILE IS
abbrev pub policy_of : List ℕ → Layout → Entries
policy_of f l =
    let ns : List (List ℕ) = node_records f l.operators l.atoms l.nodes in
    record {
      operators = operators_from 0 (operator_records f l.operators);
      nodes = nodes_from 0 ns (depths_of (map children_of ns)) (rules_from 0 (atom_records f l.operators l.atoms));
    }
