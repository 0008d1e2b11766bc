-- Files word by word: what reading answers of each, by hand from docs/FORMAT.md, "The policy file", "Laws" and "Numbers
-- a caller can get back". A case has the number of the refusal that it is about: 0 for a file that is accepted.
--
--   fault x            an answer's number and place, both 0 where it is no refusal
--   one_operator       the first words of a file with one operator: the count, and the cells of sibling. Its atoms'
--                      count is word 10
--   no_atoms           the same and the count of no atoms. Its nodes' count is word 11, and its first node stands at
--                      word 12
--   leaf, leaves n     a node of five zeros; n of them
--   chain n            n nodes with one child each, and a leaf below them
--   lone_node          a file of one node by its five words
--   three_operators    the first words of a file whose operator 1 breaks associativity, and operator 2 commutativity
--   file_cases         the list
use Rattle.std.specs.Prelude.{ℕ, zero, suc, List, [], ◌∷◌, ◌++◌, Result}
use Rattle.action.specs.Operator.{sibling, parent}
use Rattle.refusal.specs.Refusals.{answer_number, answer_place}
use Rattle.refusal.specs.declared.Refusal.{Refusal}
use Rattle.policy.specs.Read.{read_of}
use Rattle.policy.specs.Examples.{lone, lopsided}
use Rattle.promises.specs.Cases.{Case, k, Hold}

-- an answer's number and place
abbrev pub fault : {X : Type 0} → Result X Refusal → ℕ × ℕ
fault x = (answer_number x, answer_place x)

abbrev pub one_operator : List ℕ
one_operator = 1 ∷ sibling

abbrev pub no_atoms : List ℕ
no_atoms = one_operator ++ (0 ∷ [])

-- a node that names operator 0 throughout, without atoms and children
abbrev pub leaf : List ℕ
leaf = 0 ∷ 0 ∷ 0 ∷ 0 ∷ 0 ∷ []

-- a chain: each node the only child of the one before it
abbrev pub chain : ℕ → List ℕ
chain zero = leaf
chain (suc n) = 0 ∷ 0 ∷ 0 ∷ 0 ∷ 1 ∷ chain n

-- leaves beside each other
abbrev pub leaves : ℕ → List ℕ
leaves zero = []
leaves (suc n) = leaf ++ leaves n

-- inner, parent and sibling operator, own-atom count, child count
abbrev pub lone_node : ℕ → ℕ → ℕ → ℕ → ℕ → List ℕ
lone_node inner parent sibling own children = no_atoms ++ (1 ∷ inner ∷ parent ∷ sibling ∷ own ∷ children ∷ [])

-- its nodes' count is word 29
abbrev pub three_operators : List ℕ
three_operators = (3 ∷ sibling) ++ lopsided ++ parent ++ (0 ∷ [])

-- an atom by its flags, its kind and its rate, with zeros for the rest: flags 32 are a wrong match, and kind 1 with a
-- rate is a wrong action
abbrev pub atom : ℕ → ℕ → ℕ → List ℕ
atom flags kind rate = 0 ∷ 0 ∷ 0 ∷ 0 ∷ 0 ∷ 0 ∷ 0 ∷ 0 ∷ flags ∷ kind ∷ rate ∷ []

-- a file of one operator and one node, with some atoms, of which the node has all. Its first atom stands at word 11
abbrev pub atoms : ℕ → List ℕ → List ℕ
atoms n words = one_operator ++ (n ∷ words) ++ (1 ∷ 0 ∷ 0 ∷ 0 ∷ n ∷ 0 ∷ [])

-- a file of one operator by its nine cells
abbrev pub celled : ℕ → ℕ → ℕ → ℕ → ℕ → ℕ → ℕ → ℕ → ℕ → List ℕ
celled a b c d e f g h i = lone (a ∷ b ∷ c ∷ d ∷ e ∷ f ∷ g ∷ h ∷ i ∷ [])

abbrev pub file_cases : List Case
file_cases =
    -- 1: the file's word count, where a count is missing or a section is not whole
    k 1 (fault (read_of (1 ∷ []))) (1, 1)
    ∷ k 1 (fault (read_of (32 ∷ []))) (1, 1)
    ∷ k 1 (fault (read_of one_operator)) (1, 10)
    ∷ k 1 (fault (read_of (one_operator ++ (1024 ∷ [])))) (1, 11)
    ∷ k 1 (fault (read_of no_atoms)) (1, 11)
    ∷ k 1 (fault (read_of (no_atoms ++ (256 ∷ [])))) (1, 12)
    ∷ k 1 (fault (read_of (no_atoms ++ (1 ∷ 0 ∷ 0 ∷ 0 ∷ 0 ∷ [])))) (1, 16)
    -- before all of a section is there, none of it is tested
    ∷ k 1 (fault (read_of (1 ∷ 9 ∷ []))) (1, 2)
    -- 2: the count's word, beyond 1..32, 0..1,024 and 1..256
    ∷ k 2 (fault (read_of (0 ∷ []))) (2, 0)
    ∷ k 2 (fault (read_of (33 ∷ []))) (2, 0)
    ∷ k 2 (fault (read_of (one_operator ++ (1025 ∷ [])))) (2, 10)
    ∷ k 2 (fault (read_of (no_atoms ++ (0 ∷ [])))) (2, 11)
    ∷ k 2 (fault (read_of (no_atoms ++ (257 ∷ [])))) (2, 11)
    -- 3: the cell's word: codes 1..4, in the ninth cell 1..7
    ∷ k 3 (fault (read_of (celled 0 2 4 2 2 2 3 2 5))) (3, 1)
    ∷ k 3 (fault (read_of (celled 5 2 4 2 2 2 3 2 5))) (3, 1)
    ∷ k 3 (fault (read_of (celled 1 2 4 2 2 2 3 6 5))) (3, 8)
    ∷ k 3 (fault (read_of (celled 1 2 4 2 2 2 3 2 0))) (3, 9)
    ∷ k 3 (fault (read_of (celled 1 2 4 2 2 2 3 2 8))) (3, 9)
    ∷ k 0 (fault (read_of (celled 1 2 4 2 2 2 3 2 7))) (0, 0)
    ∷ k 3 (fault (read_of ((2 ∷ sibling) ++ (0 ∷ sibling)))) (3, 10)
    -- 4 and 5: the atom's first word; of one atom the match is tested first, of two the first atom
    ∷ k 4 (fault (read_of (atoms 1 (atom 32 1 0)))) (4, 11)
    ∷ k 4 (fault (read_of (atoms 2 (atom 0 1 0 ++ atom 32 1 0)))) (4, 22)
    ∷ k 4 (fault (read_of (atoms 1 (atom 32 1 1)))) (4, 11)
    ∷ k 5 (fault (read_of (atoms 1 (atom 0 1 1)))) (5, 11)
    ∷ k 5 (fault (read_of (atoms 2 (atom 0 1 1 ++ atom 32 1 0)))) (5, 11)
    -- an atom may have flags 16 alone, and don't care
    ∷ k 0 (fault (read_of (atoms 2 (atom 16 1 0 ++ atom 0 0 0)))) (0, 0)
    ∷ k 4 (fault (read_of (atoms 1 (1 ∷ 0 ∷ 0 ∷ 0 ∷ 0 ∷ 0 ∷ 0 ∷ 0 ∷ 16 ∷ 1 ∷ 0 ∷ [])))) (4, 11)
    -- 6: the node's first word, whichever word is wrong: an index of 1 where there is one operator, counts over 1,024
    -- and 255
    ∷ k 6 (fault (read_of (lone_node 1 0 0 0 0))) (6, 12)
    ∷ k 6 (fault (read_of (lone_node 0 1 0 0 0))) (6, 12)
    ∷ k 6 (fault (read_of (lone_node 0 0 1 0 0))) (6, 12)
    ∷ k 6 (fault (read_of (lone_node 0 0 0 1025 0))) (6, 12)
    ∷ k 6 (fault (read_of (lone_node 0 0 0 0 256))) (6, 12)
    ∷ k 6 (fault (read_of (no_atoms ++ (2 ∷ 0 ∷ 0 ∷ 0 ∷ 0 ∷ 1 ∷ 0 ∷ 0 ∷ 1 ∷ 0 ∷ 0 ∷ [])))) (6, 17)
    -- within the limits, but not of this file: 1,024 own atoms where there are none, 255 children that are missing
    ∷ k 9 (fault (read_of (lone_node 0 0 0 1024 0))) (9, 0)
    ∷ k 8 (fault (read_of (lone_node 0 0 0 0 255))) (8, 1)
    -- 7: the first word behind the last node; it comes before 8
    ∷ k 7 (fault (read_of (lone_node 0 0 0 0 0 ++ (0 ∷ 0 ∷ [])))) (7, 17)
    ∷ k 7 (fault (read_of (lone_node 0 0 0 0 1 ++ (0 ∷ [])))) (7, 17)
    -- 8: a node that no node waits for, and the node count where children are missing; it comes before 9
    ∷ k 8 (fault (read_of (no_atoms ++ (2 ∷ leaf) ++ leaf))) (8, 1)
    ∷ k 8 (fault (read_of (no_atoms ++ (2 ∷ 0 ∷ 0 ∷ 0 ∷ 0 ∷ 2 ∷ leaf)))) (8, 2)
    ∷ k 8 (fault (read_of (no_atoms ++ (2 ∷ 0 ∷ 0 ∷ 0 ∷ 1 ∷ 2 ∷ leaf)))) (8, 2)
    -- the root has depth 1 and 16 is the deepest; the root and 16 children beside each other are 2 deep
    ∷ k 0 (fault (read_of (no_atoms ++ (16 ∷ chain 15)))) (0, 0)
    ∷ k 8 (fault (read_of (no_atoms ++ (17 ∷ chain 16)))) (8, 16)
    ∷ k 0 (fault (read_of (no_atoms ++ (17 ∷ 0 ∷ 0 ∷ 0 ∷ 0 ∷ 16 ∷ leaves 16)))) (0, 0)
    -- 9: too few own atoms and too many; it comes before 10
    ∷ k 9 (fault (read_of (one_operator ++ (1 ∷ atom 0 1 0) ++ (1 ∷ leaf)))) (9, 0)
    ∷ k 9 (fault (read_of (lone_node 0 0 0 1 0))) (9, 0)
    ∷ k 9 (fault (read_of (three_operators ++ (1 ∷ 2 ∷ 0 ∷ 0 ∷ 1 ∷ 0 ∷ [])))) (9, 0)
    -- 10: the operator, named as inner or as sibling by any node, without atoms and children too; not one named as
    -- parent
    ∷ k 10 (fault (read_of (three_operators ++ (1 ∷ 1 ∷ 0 ∷ 0 ∷ 0 ∷ 0 ∷ [])))) (10, 1)
    ∷ k 0 (fault (read_of (three_operators ++ (1 ∷ 0 ∷ 1 ∷ 0 ∷ 0 ∷ 0 ∷ [])))) (0, 0)
    ∷ k 10 (fault (read_of (three_operators ++ (1 ∷ 0 ∷ 0 ∷ 1 ∷ 0 ∷ 0 ∷ [])))) (10, 1)
    ∷ k 10 (fault (read_of (three_operators ++ (2 ∷ 0 ∷ 0 ∷ 0 ∷ 0 ∷ 1 ∷ 0 ∷ 0 ∷ 2 ∷ 0 ∷ 0 ∷ [])))) (10, 2)
    ∷ k 0 (fault (read_of (three_operators ++ (1 ∷ leaf)))) (0, 0)
    -- operators go by index, not by the nodes that name them
    ∷ k 10 (fault (read_of (three_operators ++ (1 ∷ 2 ∷ 0 ∷ 1 ∷ 0 ∷ 0 ∷ [])))) (10, 1)
    ∷ []

-- WHAT READING ANSWERS OF EACH
abbrev pub FileCases : Type 0
FileCases = Hold file_cases
