-- The scope's worked cases K1 to K12: one list, each with a call and what it gives.
--
--   Case, k n call gives   a call's answer and what the scope says of it, under the number n of the case
--   Hold                   every call of a list gives what is said
--   to                     a packet to an address, with zeros for the rest
--   lent                   a buffer of zeros with room for four rows
--   rows_left f            the rows that the compile of a file leaves in such a buffer, as many as it answers
--   cases                  the list
use Rattle.std.specs.Prelude.{ℕ, ◌+◌, ◌*◌, ◌≡◌, List, [], ◌∷◌, ◌++◌, Ok, Err, ⊤}
use Rattle.action.specs.Operator.{join, sibling, parent}
use Rattle.action.specs.declared.Action.TheVariants.{DontCare, Allow, Deny, Gmb}
use Rattle.action.specs.declared.LawFailure.TheVariants.{Commutativity, Associativity}
use Rattle.row.specs.Row.{row_length, table_rows}
use Rattle.refusal.specs.Refusals.{refusal_at}
use Rattle.refusal.specs.declared.Reason.TheVariants.{ShortFile, LawBroken}
use Rattle.policy.specs.Read.{read_of}
use Rattle.policy.specs.Examples.{tenant, tenant_with, lone, lopsided}
use Rattle.tree.specs.Action.{tree_action_of}
use Rattle.table.specs.Scan.{scan_of}
use Rattle.priority.specs.Numbering.{number_of, priorities_after, chain_after}
use Rattle.words.specs.Words.{zeros}
use Rattle.compile.specs.Compile.{answer_of, table_after, scratch_after, compile_count}

-- a case: its number in the scope, a call, and what it gives
pub record Case : Type 1 where
  pub number : ℕ
  pub Answer : Type 0
  pub call : Answer
  pub gives : Answer

abbrev pub k : {X : Type 0} → ℕ → X → X → Case
k {X} n call gives = record { number = n; Answer = X; call = call; gives = gives }

-- every case of a list gives what it says
abbrev pub Hold : List Case → Type 0
Hold [] = ⊤
Hold (c ∷ cs) = (c.call ≡ c.gives) × Hold cs

-- an address by its four bytes
abbrev pub dotted : ℕ → ℕ → ℕ → ℕ → ℕ
dotted a b c d = ((a * 256 + b) * 256 + c) * 256 + d

-- a packet to an address
abbrev pub to : ℕ → List ℕ
to destination = 0 ∷ 0 ∷ destination ∷ 0 ∷ 0 ∷ 0 ∷ []

-- a buffer with room for four rows
abbrev pub lent : List ℕ
lent = zeros (4 * row_length)

-- the rows that the compile of a file leaves in such a buffer
abbrev pub rows_left : List ℕ → List ℕ
rows_left f = table_rows (compile_count (answer_of f lent lent)) (table_after f lent lent)

-- a row that only asks for a destination prefix
abbrev pub row : ℕ → ℕ → ℕ → ℕ → List ℕ
row destination len kind rate = 0 ∷ 0 ∷ destination ∷ 0 ∷ 0 ∷ 0 ∷ 0 ∷ len ∷ 0 ∷ kind ∷ rate ∷ []

abbrev pub cases : List Case
cases =
    k 1 (join sibling (Gmb 10) Allow) (Gmb 10)
    ∷ k 2 (join sibling (Gmb 30) (Gmb 10)) (Gmb 30)
    ∷ k 3 (join parent Deny Allow) Allow
    ∷ k 4 (join parent (join parent (Gmb 5) Deny) Allow) Allow
    ∷ k 4 (join parent (Gmb 5) (join parent Deny Allow)) (Gmb 5)
    ∷ k 5 (answer_of (lone sibling) lent lent) (Ok 0)
    ∷ k 5 (number_of (rows_left (lone sibling)) 0 0) (Ok 0)
    ∷ k 5 (tree_action_of (lone sibling) (to (dotted 10 7 3 9))) (Ok DontCare)
    ∷ k 5 (scan_of (rows_left (lone sibling)) (to (dotted 10 7 3 9))) (Ok (record { action = DontCare; tried = 0 }))
    ∷ k 6 (tree_action_of tenant (to (dotted 10 7 3 9))) (Ok (Gmb 40000))
    ∷ k 6 (scan_of (rows_left tenant) (to (dotted 10 7 3 9))) (Ok (record { action = Gmb 40000; tried = 1 }))
    ∷ k 7 (tree_action_of tenant (to (dotted 10 7 3 10))) (Ok Deny)
    ∷ k 7 (scan_of (rows_left tenant) (to (dotted 10 7 3 10))) (Ok (record { action = Deny; tried = 2 }))
    ∷ k 8 (tree_action_of tenant (to (dotted 10 8 0 1))) (Ok DontCare)
    ∷ k 8 (scan_of (rows_left tenant) (to (dotted 10 8 0 1))) (Ok (record { action = DontCare; tried = 3 }))
    ∷ k 9 (answer_of tenant lent lent) (Ok 3)
    ∷ k 9 (table_after tenant lent lent) (row (dotted 10 7 3 9) 32 3 40000 ++ row (dotted 10 7 0 0) 16 2 0 ++ row
    (dotted 10 7 3 9) 32 3 40000 ++ zeros row_length)
    ∷ k 9 (scratch_after tenant lent lent) lent
    ∷ k 9 (number_of (rows_left tenant) 3 3) (Ok 3)
    ∷ k 9 (priorities_after (rows_left tenant) (zeros 3) (zeros 3)) (3 ∷ 2 ∷ 1 ∷ [])
    ∷ k 9 (chain_after (rows_left tenant) (zeros 3) (zeros 3)) (0 ∷ 1 ∷ 2 ∷ [])
    ∷ k 10 (read_of (tenant_with 1)) (Err
    (refusal_at (LawBroken (Commutativity Allow Deny)) 1))
    ∷ k 11 (read_of (lone lopsided)) (Err
    (refusal_at (LawBroken (Associativity Allow Deny (Gmb 1))) 0))
    ∷ k 12 (read_of []) (Err (refusal_at ShortFile 0))
    ∷ []

-- K1 TO K12: every case of the list gives what it says
abbrev pub WorkedCases : Type 0
WorkedCases = Hold cases
