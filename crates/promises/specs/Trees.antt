-- Trees, their rows and what is done with them, by hand from docs/FORMAT.md: files and tables in which each operator of
-- a node, the side of each action, both folds, the order of rows, what is left in each buffer, each level and each link
-- of a chain decide the answer. A case has the number of its rule:
--
--   1   the three operators of a node, and which node's they are    "The tree's action"
--   2   atoms, and children, from the last: the order of rows       "Rows"
--   3   the join of two rows with two rows; left and right          "Rows"
--   4   what the compile leaves in its buffers                      "Numbers a caller can get back"
--   5   the first row that is met, and the rows tried               "The scan"
--   6   levels, priorities and chains                               "Priorities"
--   7   the rows that stay, and the words behind them               "Hidden rows"
use Rattle.std.specs.Prelude.{ℕ, ◌*◌, List, [], ◌∷◌, ◌++◌, Ok, replicate}
use Rattle.words.specs.Words.{zeros}
use Rattle.action.specs.Operator.{sibling, parent}
use Rattle.action.specs.declared.Action.TheVariants.{DontCare, Allow, Gmb}
use Rattle.row.specs.Row.{row_length, table_rows}
use Rattle.policy.specs.Examples.{tenant, tenant_with}
use Rattle.tree.specs.Action.{tree_action_of}
use Rattle.table.specs.Scan.{scan_of}
use Rattle.hidden.specs.Hidden.{kept_of, table_kept}
use Rattle.priority.specs.Numbering.{number_of, priorities_after, chain_after}
use Rattle.compile.specs.Compile.{answer_of, table_after, scratch_after, compile_count}
use Rattle.promises.specs.Cases.{Case, k, Hold, dotted}
use Rattle.promises.specs.Ports.{node, ping}
use Rattle.promises.specs.Files.{fault}
use Rattle.promises.specs.Fields.{acted, by_in_port, by_protocol, by_source, packet}

-- all nine cells of one code
abbrev pub always : ℕ → List ℕ
always code = code ∷ code ∷ code ∷ code ∷ code ∷ code ∷ code ∷ code ∷ code ∷ []

-- Allow before GMB before Deny, and of two rates the smaller: it keeps both laws
abbrev pub lenient : List ℕ
lenient = 1 ∷ 1 ∷ 1 ∷ 1 ∷ 2 ∷ 4 ∷ 1 ∷ 3 ∷ 6 ∷ []

-- Deny then GMB is Allow, Deny then Allow is Allow, and GMB then Deny is Deny; Allow gives way to what is on its right:
-- it keeps no law
abbrev pub sided : List ℕ
sided = 3 ∷ 4 ∷ 4 ∷ 4 ∷ 3 ∷ 1 ∷ 3 ∷ 2 ∷ 3 ∷ []

-- a root that denies and allows, with two children, GMB(20) and Deny. Its own action is Deny (sibling, as inner
-- operator), the children's is GMB(20) (lenient, as sibling operator), and both together are Allow (sided, as parent
-- operator). Under another operator the own action would be Allow, the children's Deny, and both together Deny or
-- GMB(20); with the sides exchanged both together would be Deny. The children name operator 0 throughout.
abbrev pub three_joins : List ℕ
three_joins =
    (3 ∷ sibling) ++ sided ++ lenient ++ (4 ∷ acted 2 0) ++ acted 1 0 ++ acted 3 20 ++ acted 2 0
    ++ (3 ∷ 0 ∷ 1 ∷ 2 ∷ 2 ∷ 2 ∷ 0 ∷ 0 ∷ 0 ∷ 1 ∷ 0 ∷ 0 ∷ 0 ∷ 0 ∷ 1 ∷ 0 ∷ [])

-- a chain of three nodes that allow, give GMB(10) and deny: the root takes what is below it, the second its own action
abbrev pub own_parent : List ℕ
own_parent =
    (3 ∷ sibling) ++ always 3 ++ always 4 ++ (3 ∷ acted 1 0) ++ acted 3 10 ++ acted 2 0
    ++ (3 ∷ 0 ∷ 2 ∷ 0 ∷ 1 ∷ 1 ∷ 0 ∷ 1 ∷ 0 ∷ 1 ∷ 1 ∷ 0 ∷ 0 ∷ 0 ∷ 1 ∷ 0 ∷ [])

-- a chain of three nodes that give GMB(5), deny and allow, under the parent operator: Deny then Allow is Allow, and
-- GMB(5) stays over it; from the root down GMB(5) then Deny would be Deny, and Deny then Allow would be Allow
abbrev pub upwards : List ℕ
upwards =
    (2 ∷ sibling) ++ parent ++ (3 ∷ acted 3 5) ++ acted 2 0 ++ acted 1 0
    ++ (3 ∷ 0 ∷ 1 ∷ 0 ∷ 1 ∷ 1 ∷ 0 ∷ 1 ∷ 0 ∷ 1 ∷ 1 ∷ 0 ∷ 1 ∷ 0 ∷ 1 ∷ 0 ∷ [])

-- a row or an atom by in-port, protocol, source port, flags and a rate
abbrev pub gmb : ℕ → ℕ → ℕ → ℕ → ℕ → List ℕ
gmb in_port protocol source_port flags rate =
    in_port ∷ 0 ∷ 0 ∷ protocol ∷ source_port ∷ 0 ∷ 0 ∷ 0 ∷ flags ∷ 3 ∷ rate ∷ []

-- in-port 7, protocol 6 and source port 5, with rates of which the larger shows which were joined
abbrev pub three_atoms : List ℕ
three_atoms = gmb 7 0 0 1 10 ++ gmb 0 6 0 2 20 ++ gmb 0 0 5 4 40

-- the three as atoms of one node, and each as the atom of one of three children
abbrev pub beside : List ℕ
beside = node 3 three_atoms

abbrev pub below : List ℕ
below =
    (1 ∷ sibling) ++ (3 ∷ three_atoms)
    ++ (4 ∷ 0 ∷ 0 ∷ 0 ∷ 0 ∷ 3 ∷ 0 ∷ 0 ∷ 0 ∷ 1 ∷ 0 ∷ 0 ∷ 0 ∷ 0 ∷ 1 ∷ 0 ∷ 0 ∷ 0 ∷ 0 ∷ 1 ∷ 0 ∷ [])

-- from the last: the third alone; the second with it, then the second, then the third; the first with each of these
-- three, then itself, then these three
abbrev pub from_the_last : List ℕ
from_the_last =
    gmb 7 6 5 7 40
    ++ gmb 7 6 0 3 20
    ++ gmb 7 0 5 5 40
    ++ gmb 7 0 0 1 10
    ++ gmb 0 6 5 6 40
    ++ gmb 0 6 0 2 20
    ++ gmb 0 0 5 4 40

-- two rows of a root, in-ports 7 and 8, over two of its child, protocols 6 and 17, joined by an operator of one code
abbrev pub two_by_two : ℕ → List ℕ
two_by_two code =
    (2 ∷ sibling) ++ always code ++ (4 ∷ gmb 7 0 0 1 10) ++ gmb 8 0 0 1 20 ++ gmb 0 6 0 2 30 ++ gmb 0 17 0 2 40
    ++ (2 ∷ 0 ∷ 1 ∷ 0 ∷ 2 ∷ 1 ∷ 0 ∷ 1 ∷ 0 ∷ 2 ∷ 0 ∷ [])

-- the four common rows, by their rates, then the root's rows, then the child's
abbrev pub four_and_four : ℕ → ℕ → ℕ → ℕ → List ℕ
four_and_four a b c d =
    gmb 7 6 0 3 a
    ++ gmb 7 17 0 3 b
    ++ gmb 8 6 0 3 c
    ++ gmb 8 17 0 3 d
    ++ gmb 7 0 0 1 10
    ++ gmb 8 0 0 1 20
    ++ gmb 0 6 0 2 30
    ++ gmb 0 17 0 2 40

-- the rows that the compile of a file leaves, in buffers with room for so many
abbrev pub left_in : ℕ → List ℕ → List ℕ
left_in rows f =
    let buffer : List ℕ = zeros (rows * row_length) in
    table_rows (compile_count (answer_of f buffer buffer)) (table_after f buffer buffer)

-- a buffer of n words that are not 0
abbrev pub nines : ℕ → List ℕ
nines n = replicate n 9

-- a file of one row
abbrev pub one_row : List ℕ
one_row = node 1 (by_in_port 7)

-- a row by its kind and rate, for an in-port
abbrev pub at_port : ℕ → ℕ → ℕ → List ℕ
at_port in_port kind rate = in_port ∷ 0 ∷ 0 ∷ 0 ∷ 0 ∷ 0 ∷ 0 ∷ 0 ∷ 1 ∷ kind ∷ rate ∷ []

-- in-port 8, in-port 7, and every packet
abbrev pub scanned : List ℕ
scanned = at_port 8 2 0 ++ at_port 7 1 0 ++ acted 3 5

-- in-ports 7 and 8 are apart; protocol 6 overlaps both; in-port 8 with protocol 6 overlaps the second and the third
abbrev pub stepped : List ℕ
stepped = by_in_port 7 ++ by_in_port 8 ++ by_protocol 6 ++ gmb 8 6 0 3 1

-- in-ports 7 and 8, and a row inside the second
abbrev pub second_only : List ℕ
second_only = by_in_port 7 ++ by_in_port 8 ++ gmb 8 6 0 3 1

-- in-port 7, and two rows inside it that are apart
abbrev pub two_above : List ℕ
two_above = by_in_port 7 ++ gmb 7 6 0 3 1 ++ gmb 7 17 0 3 1

-- in-ports 7, 8 and 7 again
abbrev pub far_apart : List ℕ
far_apart = by_in_port 7 ++ by_in_port 8 ++ by_in_port 7

-- the two halves of 10.0.0.0/8, and it
abbrev pub halves : List ℕ
halves = by_source (dotted 10 0 0 0) 9 ++ by_source (dotted 10 128 0 0) 9 ++ by_source (dotted 10 0 0 0) 8

abbrev pub tree_cases : List Case
tree_cases =
    k 1 (tree_action_of three_joins packet) (Ok Allow)
    ∷ k 1 (scan_of (left_in 15 three_joins) packet) (Ok (record { action = Allow; tried = 1 }))
    ∷ k 1 (tree_action_of own_parent packet) (Ok (Gmb 10))
    ∷ k 1 (scan_of (left_in 7 own_parent) packet) (Ok (record { action = Gmb 10; tried = 1 }))
    ∷ k 1 (tree_action_of upwards packet) (Ok (Gmb 5))
    ∷ k 1 (scan_of (left_in 7 upwards) packet) (Ok (record { action = Gmb 5; tried = 1 }))
    ∷ k 2 (left_in 7 beside) from_the_last
    ∷ k 2 (left_in 7 below) from_the_last
    -- a packet of protocol 6 from source port 5 meets the fifth row first
    ∷ k 2 (scan_of (left_in 7 below) (0 ∷ 0 ∷ 0 ∷ 6 ∷ 5 ∷ 0 ∷ [])) (Ok (record { action = Gmb 40; tried = 5 }))
    ∷ k 2 (tree_action_of below (0 ∷ 0 ∷ 0 ∷ 6 ∷ 5 ∷ 0 ∷ [])) (Ok (Gmb 40))
    -- code 3 is the root's action and code 4 the child's
    ∷ k 3 (left_in 8 (two_by_two 3)) (four_and_four 10 10 20 20)
    ∷ k 3 (left_in 8 (two_by_two 4)) (four_and_four 30 40 30 40)
    ∷ k 3 (tree_action_of (two_by_two 3) packet) (Ok (Gmb 10))
    ∷ k 3 (tree_action_of (two_by_two 4) packet) (Ok (Gmb 30))
    -- room is rounded down, and scratch of 11 words for each row of room is enough: the row, then zeros to the buffer's
    -- end
    ∷ k 4 (answer_of one_row (nines 21) (nines 11)) (Ok 1)
    ∷ k 4 (table_after one_row (nines 21) (nines 11)) (by_in_port 7 ++ zeros 10)
    ∷ k 4 (scratch_after one_row (nines 21) (nines 11)) (zeros 11)
    -- 13 where it is a word shorter, also where there is no room for the rows: both buffers stay
    ∷ k 4 (fault (answer_of tenant (nines 21) (nines 10))) (13, 0)
    ∷ k 4 (table_after tenant (nines 21) (nines 10)) (nines 21)
    ∷ k 4 (scratch_after tenant (nines 21) (nines 10)) (nines 10)
    -- three rows fit into room for three, and are 12 in room for two: every word of both buffers is 0
    ∷ k 4 (answer_of tenant (nines 33) (nines 33)) (Ok 3)
    ∷ k 4 (fault (answer_of tenant (nines 32) (nines 23))) (12, 0)
    ∷ k 4 (table_after tenant (nines 32) (nines 23)) (zeros 32)
    ∷ k 4 (scratch_after tenant (nines 32) (nines 23)) (zeros 23)
    ∷ k 4 (fault (answer_of one_row [] [])) (12, 0)
    -- a refused file leaves both
    ∷ k 4 (fault (answer_of (tenant_with 1) (nines 11) [])) (10, 1)
    ∷ k 4 (table_after (tenant_with 1) (nines 11) (nines 12)) (nines 11)
    ∷ k 4 (scratch_after (tenant_with 1) (nines 11) (nines 12)) (nines 12)
    -- the first row that is met, not the last, nor one that is not
    ∷ k 5 (scan_of scanned packet) (Ok (record { action = Allow; tried = 2 }))
    ∷ k 5 (scan_of scanned ping) (Ok (record { action = Gmb 5; tried = 3 }))
    ∷ k 5 (scan_of (at_port 8 2 0 ++ at_port 9 1 0) packet) (Ok (record { action = DontCare; tried = 2 }))
    -- 11 before 15, 15 before 16, and 16 also behind a row that is met
    ∷ k 5 (fault (scan_of (nines 12) (nines 5))) (11, 0)
    ∷ k 5 (fault (scan_of (nines 12) packet)) (15, 0)
    ∷ k 5 (fault (scan_of (scanned ++ acted 1 1 ++ acted 1 1) packet)) (16, 3)
    -- the highest level of the earlier rows that overlap, and 1; from the first row of the highest level back, each
    -- time to the first
    ∷ k 6 (number_of stepped 6 5) (Ok 3)
    ∷ k 6 (priorities_after stepped (nines 6) (nines 5)) (3 ∷ 3 ∷ 2 ∷ 1 ∷ 9 ∷ 9 ∷ [])
    ∷ k 6 (chain_after stepped (nines 6) (nines 5)) (0 ∷ 2 ∷ 3 ∷ 9 ∷ 9 ∷ [])
    -- of the rows of a level only one that overlaps
    ∷ k 6 (priorities_after second_only (nines 3) (nines 3)) (2 ∷ 2 ∷ 1 ∷ [])
    ∷ k 6 (chain_after second_only (nines 3) (nines 3)) (1 ∷ 2 ∷ 9 ∷ [])
    -- the chain ends at the first of two rows of the highest level
    ∷ k 6 (priorities_after two_above (nines 3) (nines 3)) (2 ∷ 1 ∷ 1 ∷ [])
    ∷ k 6 (chain_after two_above (nines 3) (nines 3)) (0 ∷ 1 ∷ 9 ∷ [])
    -- all earlier rows count, not only the neighbour
    ∷ k 6 (priorities_after far_apart (nines 3) (nines 3)) (2 ∷ 2 ∷ 1 ∷ [])
    -- 17 for either buffer: both stay
    ∷ k 6 (fault (number_of far_apart 2 3)) (17, 0)
    ∷ k 6 (fault (number_of far_apart 3 2)) (17, 0)
    ∷ k 6 (priorities_after far_apart (nines 3) (nines 2)) (nines 3)
    ∷ k 6 (chain_after far_apart (nines 2) (nines 3)) (nines 3)
    ∷ k 6 (fault (number_of (nines 12) 0 0)) (15, 0)
    ∷ k 6 (fault (number_of (acted 1 0 ++ acted 1 1) 0 0)) (16, 1)
    -- the first and the last row stay and move to the front; of equal matches the first stays, whatever the actions are
    ∷ k 7 (kept_of (by_in_port 7 ++ gmb 7 6 0 3 1 ++ by_in_port 8)) (Ok 2)
    ∷ k 7 (table_kept (by_in_port 7 ++ gmb 7 6 0 3 1 ++ by_in_port 8)) (by_in_port 7 ++ by_in_port 8 ++ zeros 11)
    ∷ k 7 (table_kept (acted 0 0 ++ acted 1 0)) (acted 0 0 ++ zeros 11)
    -- two halves hide a row together, and so neither does
    ∷ k 7 (kept_of halves) (Ok 3)
    -- 15 and 16 leave the table
    ∷ k 7 (fault (kept_of (nines 12))) (15, 0)
    ∷ k 7 (table_kept (nines 12)) (nines 12)
    ∷ k 7 (fault (kept_of (acted 1 0 ++ acted 1 1))) (16, 1)
    ∷ k 7 (table_kept (acted 1 0 ++ acted 1 1)) (acted 1 0 ++ acted 1 1)
    ∷ []

-- WHAT IS ANSWERED OF EACH
abbrev pub TreeCases : Type 0
TreeCases = Hold tree_cases
