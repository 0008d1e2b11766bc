-- The words of the policy file that a policy is. See docs/NOTATION.md, "What a text gives".
--
--   FitsWords              the numbers of a node are words
--   rule_words             the words of a rule
--   node_record            the five words of a node with so many children
--   node_records           those of some nodes, whose depths tell their child counts
--   all_rules              the rules of all nodes, node by node
--   parts_of, words_of     the parts of a file, and its words
use Rattle.std.specs.Prelude.{ℕ, ◌<◌, ◌^◌, List, [], ◌∷◌, ◌++◌, length, map}
use Rattle.row.specs.Row.{row_words}
use Rattle.policy.specs.Numbers.{latest}
use Rattle.policy.specs.Parts.{Parts, file_words_in}
use Rattle.depths.specs.Depths.{child_counts}
use Rattle.notation.specs.Policy.{RuleEntry, NodeEntry, Entries}

-- the numbers of a node are words
pub record FitsWords (n : NodeEntry) : Type 0 where
  pub inner : n.inner < 2 ^ 32
  pub parent : n.parent < 2 ^ 32
  pub sibling : n.sibling < 2 ^ 32
  pub rules : length n.rules < 2 ^ 32

-- the words of a rule
abbrev pub rule_words : RuleEntry → List ℕ
rule_words r = row_words r.row

-- the five words of a node: inner, parent and sibling operator, its rules and its children
abbrev pub node_record : NodeEntry → ℕ → List ℕ
node_record n children = n.inner ∷ n.parent ∷ n.sibling ∷ length n.rules ∷ children ∷ []

-- those of some nodes with their child counts
abbrev pub node_records : List NodeEntry → List ℕ → List (List ℕ)
node_records [] ks = []
node_records (n ∷ ns) [] = []
node_records (n ∷ ns) (k ∷ ks) = node_record n k ∷ node_records ns ks

-- the rules of all nodes
abbrev pub all_rules : List NodeEntry → List RuleEntry
all_rules [] = []
all_rules (n ∷ ns) = n.rules ++ all_rules ns

-- the parts of the file
abbrev pub parts_of : Entries → Parts
parts_of p = record {
  operators = map (λ o. o.cells) p.operators;
  atoms = map rule_words (all_rules p.nodes);
  nodes = node_records p.nodes (child_counts (map (λ n. n.depth) p.nodes));
}

-- THE WORDS OF THE FILE
abbrev pub words_of : Entries → List ℕ
words_of p = file_words_in latest (parts_of p)
