-- Reservations that add up, sentence by sentence as it was asked for. It is said of the definitions that the contracts
-- cite. What the search for a broken law finds, and what refuses a file, are the same statements as before, over names
-- that have the new meaning.
--
--   NinthAdds o       the ninth cell of an operator, that of two GMBs, has code 7
--   Sum               what it gives for two rates
--   RightRate m       a rate in range
--   Reserves a        an action that reserves, or says nothing
--   reserved n        what rates that come to n in all reserve
--   BetweenThem       what the teams of one studio have between them, and the atoms of one node
--   Allowed i c       the code c may stand in the cell i
--   Codes             where it may stand, and what 3 still covers
--   Search            the search for a broken law
--   reserved_cases    worked cases: calls, and what they give
use Rattle.std.specs.Prelude.{ℕ, zero, suc, ◌+◌, ◌*◌, ◌≤◌, ◌<◌, min, ◌≡◌, true, codes, if◌then◌else◌, slice_index, ⊤}
use Rattle.std.specs.Prelude.{List, [], ◌∷◌, ◌++◌, Ok, Err, ◌↔◌, ◌⊎◌}
use Rattle.logic.specs.Lists.{All}
use Rattle.words.specs.Records.{flat}
use Rattle.words.specs.Bytes.{bytes_of}
use Rattle.theory.specs.declared.Row.{Row}
use Rattle.theory.specs.Tree.{Tree, Forest, node, bare, ◌▸◌, Node, own, eval}
use Rattle.flow.specs.Match.{meets}
use Rattle.flow.specs.declared.Match.{Match}
use Rattle.flow.specs.declared.Packet.{Packet}
use Rattle.action.specs.Action.{rate_of}
use Rattle.action.specs.Operator.{join, sibling, parent, right_cell}
use Rattle.action.specs.Laws.{shown, law_search, commutes, associates, along, product, ◌else◌}
use Rattle.action.specs.Theorems.{SearchExact, SearchShows}
use Rattle.action.specs.declared.Action.{Action}
use Rattle.action.specs.declared.Action.TheVariants.{DontCare, Allow, Deny, Gmb}
use Rattle.action.specs.declared.LawFailure.TheVariants.{Commutativity}
use Rattle.refusal.specs.Refusals.{refusal_at}
use Rattle.refusal.specs.declared.Reason.TheVariants.{WrongCell, LawBroken}
use Rattle.policy.specs.Read.{read_of}
use Rattle.policy.specs.declared.Layout.{Layout}
use Rattle.tree.specs.Action.{tree_action_of}
use Rattle.table.specs.Scan.{scan_of}
use Rattle.text.specs.Listing.{listing_of}
use Rattle.policy.specs.Examples.{lone}
use Rattle.promises.specs.Cases.{Case, k, Hold, dotted, to, row}
use Rattle.promises.specs.Files.{celled, fault}
use Rattle.promises.specs.Trees.{left_in}

-- the ninth cell has code 7
abbrev pub NinthAdds : List ℕ → Type 0
NinthAdds o = slice_index o 8 ≡ 7

-- "Add cell code 7, .. the sum of the rates, but at most 100,000,000."
pub record Sum : Type 0 where
  -- of any two rates, also of those that no file may have: what is said of numbers holds without wrapping
  pub gives : (o : List ℕ) → NinthAdds o → (m n : ℕ) → join o (Gmb m) (Gmb n) ≡ Gmb (min (m + n) 100000000)
  -- whichever is left, and however three are grouped
  pub commutative : (o : List ℕ) → NinthAdds o → (m n : ℕ) → join o (Gmb m) (Gmb n) ≡ join o (Gmb n) (Gmb m)
  pub associative : (o : List ℕ) → NinthAdds o → (m n k : ℕ)
      → join o (join o (Gmb m) (Gmb n)) (Gmb k) ≡ join o (Gmb m) (join o (Gmb n) (Gmb k))

-- a rate in range
abbrev pub RightRate : ℕ → Type 0
RightRate m = (1 ≤ m) × (m ≤ 100000000)

-- don't care, or a GMB whose rate is in range
abbrev pub Reserves : Action → Type 0
Reserves DontCare = ⊤
Reserves Allow = ⊥
Reserves Deny = ⊥
Reserves (Gmb m) = RightRate m

-- what rates that come to n in all reserve: their sum, but at most 100,000,000, and nothing where there are none
abbrev pub reserved : ℕ → Action
reserved zero = DontCare
reserved (suc n) = Gmb (min (suc n) 100000000)

-- the rates of the atoms that a packet meets, in all
abbrev pub own_rates : List (Row Match Action) → Packet → ℕ
own_rates [] p = 0
own_rates (x ∷ xs) p = (if meets x.matching p then rate_of x.action else 0) + own_rates xs p

-- what a team gives a packet
abbrev pub given : Tree (Node (List ℕ) Match Action) → Packet → Action
given t p = eval meets DontCare join t p

-- every team reserves, or says nothing
abbrev pub EachReserves : Forest (Node (List ℕ) Match Action) → Packet → Type 0
EachReserves bare p = ⊤
EachReserves (t ▸ ts) p = Reserves (given t p) × EachReserves ts p

-- the rates of the teams, in all
abbrev pub team_rates : Forest (Node (List ℕ) Match Action) → Packet → ℕ
team_rates bare p = 0
team_rates (t ▸ ts) p = rate_of (given t p) + team_rates ts p

-- "Two teams of one studio each reserve 10 Mbit/s and expect 20 between them."
pub record BetweenThem : Type 0 where
  -- under a sibling operator that adds, a studio's teams, however many, have between them the sum of what each
  -- reserves, but at most 100,000,000, where each reserves at a rate in range or says nothing; the studio's own action
  -- stands on its left under the parent operator, as before
  pub teams : (n : Node (List ℕ) Match Action) → NinthAdds n.sibling
      → (ts : Forest (Node (List ℕ) Match Action)) (p : Packet) → EachReserves ts p
      → eval meets DontCare join (node n ts) p
      ≡ join n.parent (own meets DontCare join n.inner n.atoms p) (reserved (team_rates ts p))
  -- and so have the atoms of one node that a packet meets, under an inner operator that adds, where each of these does
  pub atoms : (i : List ℕ) → NinthAdds i → (xs : List (Row Match Action)) (p : Packet)
      → All (λ x. meets x.matching p ≡ true → Reserves x.action) xs
      → own meets DontCare join i xs p ≡ reserved (own_rates xs p)

-- a code may stand in a cell, counted from 0: 1 to 4 in each, and up to 7 in the ninth
abbrev pub Allowed : ℕ → ℕ → Type 0
Allowed i c = (1 ≤ c) × ((c ≤ 4) ⊎ ((i ≡ 8) × (c ≤ 7)))

-- a word of a file, whose first word is the number of its operators, is the cell of one, and its code may not stand
-- there
pub record WrongCode (f : List ℕ) (at : ℕ) : Type 0 where
  pub operator : ℕ
  pub named : operator < slice_index f 0
  pub cell : ℕ
  pub within : cell < 9
  pub place : at ≡ 1 + 9 * operator + cell
  pub wrong : ¬ Allowed cell (slice_index f at)

pub record Codes : Type 0 where
  -- "allowed in the ninth cell only:"
  pub allowed : (i c : ℕ) → i < 9 → (right_cell i c ≡ true) ↔ Allowed i c
  -- of an accepted file every cell has such a code, so that 7 stands in the ninth alone
  pub kept : (f : List ℕ) (l : Layout) → read_of f ≡ Ok l → (operator cell : ℕ) → operator < l.operators → cell < 9
      → Allowed cell (slice_index f (1 + 9 * operator + cell))
  -- "Refusals: 3 no longer covers code 7 in that cell.": 3 is given at no other place than that of a code that may not
  -- stand there
  pub wrong : (f : List ℕ) (at : ℕ) → read_of f ≡ Err (refusal_at WrongCell at) → WrongCode f at
  -- so not at the word of an operator's ninth cell, where that is 7
  pub ninth : (f : List ℕ) (operator : ℕ) → slice_index f (9 * suc operator) ≡ 7
      → ¬ (read_of f ≡ Err (refusal_at WrongCell (9 * suc operator)))

pub record Search : Type 0 where
  -- "The law search must still refuse exactly the lawless operators,": of those whose codes may stand in their cells
  pub exact : SearchExact
  pub shows : SearchShows
  -- "so the last entry of its list becomes GMB(4)": no answer tells which rate stands there, so it is said of the list
  pub list : shown ≡ Allow ∷ Deny ∷ Gmb 1 ∷ Gmb 2 ∷ Gmb 4 ∷ []
  -- "for every operator.": of this list all pairs, then all triples
  pub every : (o : List ℕ)
      → law_search o
      ≡ along (commutes o) (product shown shown) else along (associates o) (product shown (product shown shown))

-- as sibling, but of two rates the sum
abbrev pub adding : List ℕ
adding = 1 ∷ 2 ∷ 4 ∷ 2 ∷ 2 ∷ 2 ∷ 3 ∷ 2 ∷ 7 ∷ []

-- a studio denies 10.7.0.0/16, and its teams are joined under an operator. One team reserves a rate to the server
-- 10.7.3.9, the other the same rate to 10.7.3.8/29, in which it lies
abbrev pub teams_under : List ℕ → ℕ → List ℕ
teams_under operator rate =
    (3 ∷ sibling) ++ parent ++ operator
    ++ (3 ∷ row (dotted 10 7 0 0) 16 2 0) ++ row (dotted 10 7 3 9) 32 3 rate ++ row (dotted 10 7 3 8) 29 3 rate
    ++ (3 ∷ 0 ∷ 1 ∷ 2 ∷ 1 ∷ 2 ∷ 0 ∷ 1 ∷ 0 ∷ 1 ∷ 0 ∷ 0 ∷ 1 ∷ 0 ∷ 1 ∷ 0 ∷ [])

-- examples/teams.policy: rates are added between the teams, and each reserves 10 Mbit/s
abbrev pub teams : List ℕ
teams = teams_under adding 10000

-- three atoms of one node for every packet, each with a rate
abbrev pub thrice : ℕ → List ℕ
thrice rate =
    (1 ∷ adding) ++ (3 ∷ row 0 0 3 rate) ++ row 0 0 3 rate ++ row 0 0 3 rate ++ (1 ∷ 0 ∷ 0 ∷ 0 ∷ 3 ∷ 0 ∷ [])

-- an operator that breaks commutativity, with sums in its ninth cell
abbrev pub lawless : List ℕ
lawless = 1 ∷ 2 ∷ 4 ∷ 1 ∷ 2 ∷ 4 ∷ 3 ∷ 2 ∷ 7 ∷ []

-- one node that names it as parent alone
abbrev pub below : List ℕ
below = (2 ∷ adding) ++ lawless ++ (0 ∷ 1 ∷ 0 ∷ 1 ∷ 0 ∷ 0 ∷ 0 ∷ [])

-- Cases are numbered 1 for what is expected, 2 for the sum, and by the refusal that they are about, 0 for none
abbrev pub reserved_cases : List Case
reserved_cases =
    -- two teams, as without the sum too, and three atoms of one node
    k 1 (tree_action_of teams (to (dotted 10 7 3 9))) (Ok (Gmb 20000))
    ∷ k 1 (scan_of (left_in 7 teams) (to (dotted 10 7 3 9))) (Ok (record { action = Gmb 20000; tried = 1 }))
    ∷ k 1 (tree_action_of teams (to (dotted 10 7 3 10))) (Ok (Gmb 10000))
    ∷ k 1 (scan_of (left_in 7 teams) (to (dotted 10 7 3 10))) (Ok (record { action = Gmb 10000; tried = 3 }))
    ∷ k 1 (tree_action_of teams (to (dotted 10 7 3 16))) (Ok Deny)
    ∷ k 1 (scan_of (left_in 7 teams) (to (dotted 10 7 3 16))) (Ok (record { action = Deny; tried = 4 }))
    ∷ k 1 (tree_action_of (teams_under sibling 10000) (to (dotted 10 7 3 9))) (Ok (Gmb 10000))
    ∷ k 1 (listing_of (flat bytes_of teams))
    (flat codes
    ("rows 3 priorities 3\n"
    ∷ "3 * 0.0.0.0/0 10.7.3.9/32 * * * gmb 20000\n"
    ∷ "2 * 0.0.0.0/0 10.7.3.8/29 * * * gmb 10000\n"
    ∷ "1 * 0.0.0.0/0 10.7.0.0/16 * * * deny\n"
    ∷ []))
    ∷ k 1 (tree_action_of (thrice 10000) (to 0)) (Ok (Gmb 30000))
    ∷ k 1 (scan_of (left_in 7 (thrice 10000)) (to 0)) (Ok (record { action = Gmb 30000; tried = 1 }))
    -- the sum, the cap and one below it; rates that no file may have; the other actions
    ∷ k 2 (join adding (Gmb 10000) (Gmb 10000)) (Gmb 20000)
    ∷ k 2 (join adding (Gmb 1) (Gmb 2)) (Gmb 3)
    ∷ k 2 (join adding (Gmb 50000000) (Gmb 49999999)) (Gmb 99999999)
    ∷ k 2 (join adding (Gmb 50000000) (Gmb 50000000)) (Gmb 100000000)
    ∷ k 2 (join adding (Gmb 1) (Gmb 99999999)) (Gmb 100000000)
    ∷ k 2 (join adding (Gmb 50000001) (Gmb 50000000)) (Gmb 100000000)
    ∷ k 2 (join adding (Gmb 100000000) (Gmb 1)) (Gmb 100000000)
    ∷ k 2 (join adding (join adding (Gmb 60000000) (Gmb 60000000)) (Gmb 60000000)) (Gmb 100000000)
    ∷ k 2 (join adding (Gmb 60000000) (join adding (Gmb 60000000) (Gmb 60000000))) (Gmb 100000000)
    ∷ k 2 (join adding (Gmb 4294967295) (Gmb 4294967295)) (Gmb 100000000)
    ∷ k 2 (join adding (Gmb 4294967295) (Gmb 1)) (Gmb 100000000)
    ∷ k 2 (join adding (Gmb 0) (Gmb 0)) (Gmb 0)
    ∷ k 2 (join adding DontCare (Gmb 10000)) (Gmb 10000)
    ∷ k 2 (join adding (Gmb 10000) Allow) (Gmb 10000)
    ∷ k 2 (join adding (Gmb 10000) Deny) Deny
    ∷ k 2 (tree_action_of (teams_under adding 60000000) (to (dotted 10 7 3 9))) (Ok (Gmb 100000000))
    ∷ k 2 (tree_action_of (thrice 60000000) (to 0)) (Ok (Gmb 100000000))
    ∷ k 2 (scan_of (left_in 7 (thrice 60000000)) (to 0)) (Ok (record { action = Gmb 100000000; tried = 1 }))
    -- 7 in each cell but the ninth, and 8 in the ninth: the cell's word
    ∷ k 3 (fault (read_of (celled 7 2 4 2 2 2 3 2 7))) (3, 1)
    ∷ k 3 (fault (read_of (celled 1 7 4 2 2 2 3 2 7))) (3, 2)
    ∷ k 3 (fault (read_of (celled 1 2 7 2 2 2 3 2 7))) (3, 3)
    ∷ k 3 (fault (read_of (celled 1 2 4 7 2 2 3 2 7))) (3, 4)
    ∷ k 3 (fault (read_of (celled 1 2 4 2 7 2 3 2 7))) (3, 5)
    ∷ k 3 (fault (read_of (celled 1 2 4 2 2 7 3 2 7))) (3, 6)
    ∷ k 3 (fault (read_of (celled 1 2 4 2 2 2 7 2 7))) (3, 7)
    ∷ k 3 (fault (read_of (celled 1 2 4 2 2 2 3 7 7))) (3, 8)
    ∷ k 3 (fault (read_of (celled 1 2 4 2 2 2 3 2 8))) (3, 9)
    ∷ k 0 (fault (read_of (celled 1 2 4 2 2 2 3 2 7))) (0, 0)
    -- other cells break a law beside a 7; where a node names the operator as parent alone, the file is accepted
    ∷ k 10 (read_of (lone lawless)) (Err (refusal_at (LawBroken (Commutativity Allow Deny)) 0))
    ∷ k 0 (fault (read_of below)) (0, 0)
    ∷ []

-- EVERY SENTENCE
pub record ReservationsAddUp : Type 0 where
  pub between : BetweenThem
  pub sum : Sum
  pub codes : Codes
  pub search : Search
  pub cases : Hold reserved_cases
