-- Tenants shuffle their files, sentence by sentence as asked for. It is said of definitions that the contracts cite:
--
--   read_of                  policy::read        of a file: its counts where it is accepted
--   tree_action_of           tree::tree_action   of a file and a packet
--   answer_of, table_after   compile::compile    of a file and two buffers: the answer, and every word of the table
--   scan_of                  table::scan         of a table and a packet
--   number_of                priority::number    of a table: how many priorities its rows get
--
-- and in these words:
--
--   Block, block       a node's five words, and the words of each of its own atoms
--   file_of os bs      the file of some operators and of some nodes in file order
--   Laid os bs         their words are as many as a file has, and each node counts its own atoms
--   Subtree bs         some nodes in file order are one tree
--   Family bs i        node i and its children, each a whole subtree
--   AtomsReordered     the atoms of one node stand in another order
--   ChildrenReordered  the children of one node do
--   Step f g           one step, from file to file
--   Reordered f g      any number of steps
--   Kept f g l         what is as it was
--   MetTogether f l s  some packet in range meets all the atoms at the places of a set
--   Opened f           an accepted file, by its nodes
--   Rearranged         a whole tree in another order at once
--   Asks               what a step asks, and no more
--   StepsShown         steps between files of few words, and what is no reordering
--   shuffle_cases      worked cases: calls, and what they give
use Rattle.std.specs.Prelude.{ℕ, ◌<◌, ◌≡◌, Bool, true, false, List, [], ◌∷◌, ◌++◌, ◌↔◌, ◌⊎◌, map, Result, Ok}
use Rattle.std.specs.Prelude.{length, flat_map, IsPermutation, slice_index_or}
use Rattle.logic.specs.Lists.{All}
use Rattle.theory.specs.Tree.{Tree, Forest, node, bare, ◌▸◌}
use Rattle.theory.specs.Nodes.{Listed, list_tree}
use Rattle.theory.specs.Shuffle.{trees, Sets}
use Rattle.flow.specs.Packet.{packet_of, right_packet_words}
use Rattle.flow.specs.Match.{match_of, meets}
use Rattle.action.specs.Operator.{sibling}
use Rattle.action.specs.declared.Action.TheVariants.{Gmb}
use Rattle.row.specs.Row.{table_rows}
use Rattle.refusal.specs.declared.Refusal.{Refusal}
use Rattle.policy.specs.Numbers.{latest}
use Rattle.policy.specs.Sections.{own_of, children_of}
use Rattle.policy.specs.Read.{read_of, atom_records}
use Rattle.policy.specs.Meaning.{OneTree}
use Rattle.policy.specs.Parts.{file_words_in}
use Rattle.policy.specs.declared.Layout.{Layout}
use Rattle.tree.specs.Action.{tree_action_of}
use Rattle.table.specs.Scan.{scan_of, scan_action}
use Rattle.priority.specs.Numbering.{number_of}
use Rattle.compile.specs.Compile.{Compiled, compiled_rows, answer_of, table_after}
use Rattle.promises.specs.Cases.{Case, k, Hold, dotted, row}
use Rattle.promises.specs.Ports.{node as one_node}
use Rattle.promises.specs.Files.{fault}
use Rattle.promises.specs.Fields.{acted, by_in_port, by_protocol, by_source_port, packet}
use Rattle.promises.specs.Trees.{always, sided, beside, gmb, left_in, nines}

-- a node's words, and those of each of its own atoms
pub record Block : Type 0 where
  pub node : List ℕ
  pub atoms : List (List ℕ)

abbrev pub block : List ℕ → List (List ℕ) → Block
block n xs = record { node = n; atoms = xs }

-- some runs of nodes, one behind the other
abbrev pub in_a_row : List (List Block) → List Block
in_a_row ts = flat_map (λ t. t) ts

-- the file of some operators and of some nodes in file order: the operators, the atoms of each node in turn, the nodes
abbrev pub file_of : List (List ℕ) → List Block → List ℕ
file_of os bs =
    file_words_in latest
    (record { operators = os; atoms = flat_map (λ b. b.atoms) bs; nodes = map (λ b. b.node) bs })

-- nine words an operator, eleven an atom and five a node, and each node says how many atoms are its own
pub record Laid (os : List (List ℕ)) (bs : List Block) : Type 0 where
  pub operators : All (λ o. length o ≡ 9) os
  pub atoms : All (λ b. All (λ x. length x ≡ 11) b.atoms) bs
  pub nodes : All (λ b. length b.node ≡ 5) bs
  pub own : All (λ b. own_of b.node ≡ length b.atoms) bs

-- a node with its child count
abbrev pub counted : Block → Listed Block
counted b = record { what = b; child_count = children_of b.node }

-- "whole child subtrees with their atoms": some nodes in file order are those of one tree, each with its atoms
abbrev pub Subtree : List Block → Type 0
Subtree bs = OneTree (map counted bs)

-- node i of some nodes in file order and its children, each a whole subtree: what stands before it, the node, its
-- children one behind the other, and what stands behind them
pub record Family (bs : List Block) (i : ℕ) : Type 0 where
  pub before : List Block
  pub node : Block
  pub children : List (List Block)
  pub behind : List Block
  pub is : bs ≡ before ++ (node ∷ (in_a_row children ++ behind))
  pub place : length before ≡ i
  pub all : length children ≡ children_of node.node
  pub whole : All Subtree children

-- "reordering the atoms inside one node,": the same nodes, of which one has its atoms in another order
pub record AtomsReordered (bs cs : List Block) : Type 0 where
  pub before : List Block
  pub node : List ℕ
  pub old : List (List ℕ)
  pub new : List (List ℕ)
  pub behind : List Block
  pub was : bs ≡ before ++ (block node old ∷ behind)
  pub order : IsPermutation old new
  pub is : cs ≡ before ++ (block node new ∷ behind)

-- "or whole child subtrees with their atoms,": the children of one node stand in another order
pub record ChildrenReordered (bs cs : List Block) : Type 0 where
  pub place : ℕ
  pub family : Family bs place
  pub new : List (List Block)
  pub order : IsPermutation family.children new
  pub is : cs ≡ family.before ++ (family.node ∷ (in_a_row new ++ family.behind))

-- one step from the file f to the file g
pub record Step (f g : List ℕ) : Type 0 where
  pub operators : List (List ℕ)
  pub old : List Block
  pub new : List Block
  pub laid : Laid operators old
  pub was : f ≡ file_of operators old
  pub moved : AtomsReordered old new ⊎ ChildrenReordered old new
  pub is : g ≡ file_of operators new

-- any number of steps: any reordering of a whole file that is made of such
pub data Reordered : List ℕ → List ℕ → Type 0 where
  none : {f g : List ℕ} → f ≡ g → Reordered f g
  more : {f g h : List ℕ} → Step f g → Reordered g h → Reordered f h

-- what is of g as it is of f, which is accepted with the counts l
pub record Kept (f g : List ℕ) (l : Layout) : Type 0 where
  -- "leaves an accepted file accepted,": with the same counts
  pub accepted : read_of g ≡ Ok l
  -- "with the same action for every packet": words that are no packet are refused alike
  pub action : (p : List ℕ) → tree_action_of g p ≡ tree_action_of f p
  -- "and the same number of rows": the defined rows, before the pass over hidden ones, whatever buffers are lent
  pub rows : length (compiled_rows g l) ≡ length (compiled_rows f l)
  -- so in the same buffers the compile counts as many rows, or refuses both by 12, or both by 13
  pub answer : (t s : List ℕ) → answer_of g t s ≡ answer_of f t s
  -- and a scan of the rows has the same action
  pub scanned : (t s p : List ℕ) (n : ℕ) → answer_of f t s ≡ Ok n
      → scan_action (scan_of (table_rows n (table_after g t s)) p)
      ≡ scan_action (scan_of (table_rows n (table_after f t s)) p)

-- "some packet meets all of": a packet in range meets each atom of an accepted file at a place of the set s, which has
-- a Bool for each place
pub record MetTogether (f : List ℕ) (l : Layout) (s : List Bool) : Type 0 where
  pub packet : List ℕ
  pub right : right_packet_words packet ≡ true
  pub meets_all : (i : ℕ) → i < length s → slice_index_or s i false ≡ true
      → meets (match_of (slice_index_or (atom_records f l.operators l.atoms) i [])) (packet_of packet) ≡ true

-- a file by its nodes, which are one tree, and of which each has the children that it counts
pub record Opened (f : List ℕ) : Type 0 where
  pub operators : List (List ℕ)
  pub nodes : List Block
  pub laid : Laid operators nodes
  pub is : f ≡ file_of operators nodes
  pub tree : Subtree nodes
  pub families : (i : ℕ) → i < length nodes → Family nodes i

abbrev mutual
  -- a whole tree in another order at once: each node with its atoms in some order and its children in some order, and
  -- each of these within itself
  pub Rearranged : Tree Block → Tree Block → Type 0
  Rearranged (node b ts) (node c vs) =
      (b.node ≡ c.node) × IsPermutation b.atoms c.atoms
      × (us : Forest Block) × IsPermutation (trees ts) (trees us) × EachRearranged us vs

  pub EachRearranged : Forest Block → Forest Block → Type 0
  EachRearranged bare us = us ≡ bare
  EachRearranged (t ▸ ts) bare = ⊥
  EachRearranged (t ▸ ts) (u ▸ us) = Rearranged t u × EachRearranged ts us

-- what a step asks, and no more: any node of a file that is laid out, and any order
pub record Asks : Type 0 where
  pub atoms : (os : List (List ℕ)) (before behind : List Block) (n : List ℕ) (old new : List (List ℕ))
      → let with_atoms : List (List ℕ) → List Block = λ xs. before ++ (block n xs ∷ behind) in
      Laid os (with_atoms old) → IsPermutation old new
      → Step (file_of os (with_atoms old)) (file_of os (with_atoms new))
  pub children : (os : List (List ℕ)) (before behind : List Block) (n : Block) (old new : List (List Block))
      → let with_children : List (List Block) → List Block = λ ts. before ++ (n ∷ (in_a_row ts ++ behind)) in
      Laid os (with_children old) → length old ≡ children_of n.node → All Subtree old → IsPermutation old new
      → Step (file_of os (with_children old)) (file_of os (with_children new))
  pub one : (f g : List ℕ) → Step f g → Reordered f g
  pub and_on : (f g h : List ℕ) → Reordered f g → Reordered g h → Reordered f h

-- what may be reordered, and what is kept then
pub record Reordering : Type 0 where
  pub asks : Asks
  -- every accepted file is one of nodes with their atoms and their children, so each of these may be reordered
  pub opened : (f : List ℕ) (l : Layout) → read_of f ≡ Ok l → Opened f
  pub kept : (f g : List ℕ) (l : Layout) → read_of f ≡ Ok l → Reordered f g → Kept f g l
  -- a whole file in another order at once is one that steps lead to
  pub at_once : (f : List ℕ) (o : Opened f) (t : Tree Block) → Rearranged o.tree.tree t
      → Reordered f (file_of o.operators (map (λ n. n.what) (list_tree t)))
  -- and the way back is a reordering too
  pub back : (f g : List ℕ) → Reordered f g → Reordered g f

-- "That number is the count of non-empty sets of atoms, told apart by place, that some packet meets all of."
pub record Counting : Type 0 where
  -- these sets are so many as there are rows, and no other number is theirs
  pub sets : (f : List ℕ) (l : Layout) (n : ℕ) → read_of f ≡ Ok l
      → Sets l.atoms (MetTogether f l) n ↔ (n ≡ length (compiled_rows f l))
  -- so where the compile counts rows, it counts these sets
  pub answered : (f t s : List ℕ) (l : Layout) (n : ℕ) → read_of f ≡ Ok l → answer_of f t s ≡ Ok n
      → Sets l.atoms (MetTogether f l) n

-- three atoms of one node, from the last to the first
abbrev pub beside_turned : List ℕ
beside_turned = one_node 3 (gmb 0 0 5 4 40 ++ gmb 0 6 0 2 20 ++ gmb 7 0 0 1 10)

-- a root with two children, of which the first has a child of its own: one atom for each of these three, by its rate.
-- The first child's own action goes before that of its child, and of the two children the larger rate is the root's
abbrev pub nested : ℕ → ℕ → ℕ → List ℕ
nested first below_it second =
    (2 ∷ sibling) ++ always 3 ++ (3 ∷ acted 3 first) ++ acted 3 below_it ++ acted 3 second
    ++ (4 ∷ 0 ∷ 0 ∷ 0 ∷ 0 ∷ 2 ∷ 0 ∷ 1 ∷ 0 ∷ 1 ∷ 1 ∷ 0 ∷ 0 ∷ 0 ∷ 1 ∷ 0 ∷ 0 ∷ 0 ∷ 0 ∷ 1 ∷ 0 ∷ [])

-- the nodes of the same tree with the second child first, and three atoms for them
abbrev pub nested_turned : ℕ → ℕ → ℕ → List ℕ
nested_turned second first below_it =
    (2 ∷ sibling) ++ always 3 ++ (3 ∷ acted 3 second) ++ acted 3 first ++ acted 3 below_it
    ++ (4 ∷ 0 ∷ 0 ∷ 0 ∷ 0 ∷ 2 ∷ 0 ∷ 0 ∷ 0 ∷ 1 ∷ 0 ∷ 0 ∷ 1 ∷ 0 ∷ 1 ∷ 1 ∷ 0 ∷ 0 ∷ 0 ∷ 1 ∷ 0 ∷ [])

-- in-ports 1 and 2 are allowed and 10.7.0.0/16 is denied, between them or before them
abbrev pub denied : List ℕ
denied = row (dotted 10 7 0 0) 16 2 0

abbrev pub denied_between : List ℕ
denied_between = one_node 3 (by_in_port 1 ++ denied ++ by_in_port 2)

abbrev pub denied_before : List ℕ
denied_before = one_node 3 (denied ++ by_in_port 1 ++ by_in_port 2)

-- how many priorities the rows of a file get
abbrev pub numbered : List ℕ → Result ℕ Refusal
numbered f = number_of (left_in 7 f) 7 7

-- two atoms, Deny and Allow, under an operator that knows their order, as the inner one or as the parent one
abbrev pub ordered : ℕ → ℕ → List ℕ
ordered inner parent =
    (2 ∷ sibling) ++ sided ++ (2 ∷ acted 2 0) ++ acted 1 0 ++ (1 ∷ inner ∷ parent ∷ 0 ∷ 2 ∷ 0 ∷ [])

-- how many rows the atoms of one node make
abbrev pub rows_of_atoms : ℕ → List ℕ → Compiled
rows_of_atoms n atoms = answer_of (one_node n atoms) (nines 77) (nines 77)

-- 1: what is kept; 2: what is not, the order of rows and how many priorities; 3: what is no step; 4: sets of atoms
abbrev pub shuffle_cases : List Case
shuffle_cases =
    k 1 (answer_of beside (nines 77) (nines 77)) (Ok 7)
    ∷ k 1 (answer_of beside_turned (nines 77) (nines 77)) (Ok 7)
    ∷ k 1 (fault (answer_of beside (nines 76) (nines 77))) (12, 0)
    ∷ k 1 (fault (answer_of beside_turned (nines 76) (nines 77))) (12, 0)
    ∷ k 1 (tree_action_of (nested 10 40 20) packet) (Ok (Gmb 20))
    ∷ k 1 (tree_action_of (nested_turned 20 10 40) packet) (Ok (Gmb 20))
    ∷ k 2 (left_in 7 (one_node 2 (by_in_port 7 ++ by_in_port 8))) (by_in_port 7 ++ by_in_port 8)
    ∷ k 2 (left_in 7 (one_node 2 (by_in_port 8 ++ by_in_port 7))) (by_in_port 8 ++ by_in_port 7)
    ∷ k 2 (answer_of denied_between (nines 77) (nines 77)) (Ok 5)
    ∷ k 2 (answer_of denied_before (nines 77) (nines 77)) (Ok 5)
    ∷ k 2 (numbered denied_between) (Ok 4)
    ∷ k 2 (numbered denied_before) (Ok 3)
    -- an atom in another node, and children without their atoms
    ∷ k 3 (tree_action_of (nested 40 10 20) packet) (Ok (Gmb 40))
    ∷ k 3 (tree_action_of (nested_turned 10 40 20) packet) (Ok (Gmb 40))
    -- where the order would count the file is refused, and a parent operator has its two sides
    ∷ k 3 (fault (read_of (ordered 1 0))) (10, 1)
    ∷ k 3 (fault (read_of (ordered 0 1))) (0, 0)
    -- no atoms; two apart; two met by one packet; the same twice; one never met; a port, and a protocol without ports
    ∷ k 4 (rows_of_atoms 0 []) (Ok 0)
    ∷ k 4 (rows_of_atoms 2 (by_in_port 7 ++ by_in_port 8)) (Ok 2)
    ∷ k 4 (rows_of_atoms 2 (by_in_port 7 ++ by_protocol 6)) (Ok 3)
    ∷ k 4 (rows_of_atoms 2 (by_in_port 7 ++ by_in_port 7)) (Ok 3)
    ∷ k 4 (rows_of_atoms 2 (by_in_port 7 ++ (0 ∷ 0 ∷ 0 ∷ 0 ∷ 0 ∷ 0 ∷ 0 ∷ 0 ∷ 16 ∷ 1 ∷ 0 ∷ []))) (Ok 1)
    ∷ k 4 (rows_of_atoms 2 (by_protocol 1 ++ by_source_port 5)) (Ok 2)
    ∷ []

-- steps, by the words of files, and what is no reordering
pub record StepsShown : Type 0 where
  pub atoms : Step beside beside_turned
  pub children : Step (nested 10 40 20) (nested_turned 20 10 40)
  -- an atom moved to another node
  pub across : ¬ Reordered (nested 10 40 20) (nested 40 10 20)
  -- children moved without their atoms
  pub without : ¬ Reordered (nested 10 40 20) (nested_turned 10 40 20)
  -- "The order of rows may differ, and nothing is promised about the number of priorities."
  pub order : Step denied_between denied_before × ¬ (left_in 7 denied_between ≡ left_in 7 denied_before)
  pub priorities : ¬ (numbered denied_between ≡ numbered denied_before)

-- EVERY SENTENCE
pub record ShuffledFiles : Type 0 where
  pub reordering : Reordering
  pub counting : Counting
  pub shown : StepsShown
  pub cases : Hold shuffle_cases
