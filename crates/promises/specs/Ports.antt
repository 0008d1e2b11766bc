-- Ports only where there are ports, sentence by sentence as it was asked for. It is said of the definitions that the
-- contracts cite; that the table follows the tree, the smallest numbering and what is said of hidden rows are the same
-- statements as before, over the same names, which have the new meaning.
--
--   TcpOrUdp p        its protocol is 6 or 17
--   PortMet           by which packets a port is met
--   spoken q m        the match m with the protocol q
--   CountsAsEmpty     what becomes of a match that no packet can meet
--   Follows           what follows the new meaning
--   port_cases        worked cases: calls, and what they give
use Rattle.std.specs.Prelude.{ℕ, ◌<◌, ◌≡◌, true, false, List, [], ◌∷◌, ◌++◌, Ok, Err, ◌⊎◌, codes}
use Rattle.words.specs.Words.{zeros}
use Rattle.words.specs.Records.{flat}
use Rattle.words.specs.Bytes.{bytes_of}
use Rattle.theory.specs.Rows.{kept}
use Rattle.theory.specs.declared.Row.{Row}
use Rattle.flow.specs.Packet.{protocol_limit}
use Rattle.flow.specs.Match.{protocol_flag, source_port_flag, destination_port_flag, constrains, match_of, is_empty}
use Rattle.flow.specs.Match.{right_match, fits, meets}
use Rattle.flow.specs.Theorems.{MeetsCommon, CommonNone, OverlapExactly, EmptyExactly}
use Rattle.flow.specs.declared.Match.{Match}
use Rattle.flow.specs.declared.Packet.{Packet}
use Rattle.action.specs.Operator.{sibling, parent}
use Rattle.action.specs.declared.Action.{Action}
use Rattle.action.specs.declared.Action.TheVariants.{DontCare, Deny}
use Rattle.row.specs.Row.{row_length, right_row}
use Rattle.refusal.specs.Refusals.{refusal_at}
use Rattle.refusal.specs.declared.Reason.TheVariants.{WrongRow}
use Rattle.tree.specs.Action.{tree_action_of}
use Rattle.table.specs.Table.{row_count, right_length, check_of, row_at, RightTable}
use Rattle.table.specs.Scan.{scan_of}
use Rattle.priority.specs.Numbering.{number_of, priorities_after}
use Rattle.compile.specs.Compile.{answer_of, table_after}
use Rattle.text.specs.Listing.{listing_of}
use Rattle.promises.specs.Cases.{Case, k, Hold, lent, rows_left}
use Rattle.promises.specs.Demands.{TableFollowsTree, SmallestNumbering}
use Rattle.promises.specs.Hidden.{Passed}

-- its protocol is 6 or 17
abbrev pub TcpOrUdp : Packet → Type 0
TcpOrUdp p = (p.protocol ≡ 6) ⊎ (p.protocol ≡ 17)

-- "From now on a port constraint is met only by packets of protocol 6 or 17."
pub record PortMet : Type 0 where
  pub source : (m : Match) (p : Packet) → constrains source_port_flag m ≡ true → meets m p ≡ true → TcpOrUdp p
  pub destination : (m : Match) (p : Packet) → constrains destination_port_flag m ≡ true → meets m p ≡ true → TcpOrUdp p
  -- of these packets, and of matches without such a constraint, nothing is asked but the fields, as before
  pub of_these : (m : Match) (p : Packet) → TcpOrUdp p → meets m p ≡ fits m p
  pub without : (m : Match) (p : Packet) → constrains source_port_flag m ≡ false
      → constrains destination_port_flag m ≡ false → meets m p ≡ fits m p

-- the match m with the protocol q
abbrev pub spoken : ℕ → Match → Match
spoken q m = record {
  in_port = m.in_port;
  source = m.source;
  destination = m.destination;
  protocol = q;
  source_port = m.source_port;
  destination_port = m.destination_port;
  flags = m.flags;
}

pub record CountsAsEmpty : Type 0 where
  -- "A match that no packet can meet counts as the empty match:": those, and no other
  pub exactly : EmptyExactly
  -- "allowed in an atom,": a right match stays right with every protocol in range, one without ports too; an atom makes
  -- no row then
  pub atom : (m : Match) (q : ℕ) → constrains protocol_flag m ≡ true → q < protocol_limit → right_match m ≡ true
      → right_match (spoken q m) ≡ true
  pub no_row : (r : Row Match Action) → is_empty r.matching ≡ true → kept is_empty r ≡ []
  -- "wrong in a row."
  pub row : (ws : List ℕ) → is_empty (match_of ws) ≡ true → right_row ws ≡ false
  -- "Refusals: 16 now covers such rows.": the first wrong row is named where it is such a one
  pub refused : (ws : List ℕ) (i : ℕ) → right_length ws ≡ true → i < row_count ws
      → ((j : ℕ) → j < i → right_row (row_at ws j) ≡ true)
      → is_empty (match_of (row_at ws i)) ≡ true → check_of ws ≡ Err (refusal_at WrongRow i)

pub record Follows : Type 0 where
  -- "Common matches, overlap": exactly the packets that meet both meet the common match, which is flag 16 alone where
  -- there are none; and right matches overlap exactly where there are some
  pub common : MeetsCommon
  pub no_common : CommonNone
  pub overlaps : OverlapExactly
  -- "and hidden rows follow the new meaning,": a row lies inside another by the packets in range that meet it
  pub hidden : (ws : List ℕ) → RightTable ws → Passed ws
  -- what the compiled table does, and the numbering, are read with it
  pub table_follows_tree : TableFollowsTree
  pub smallest_numbering : SmallestNumbering

-- an atom or a row that constrains protocol and ports, by their flags, with an action that has no rate
abbrev pub ported : ℕ → ℕ → ℕ → ℕ → ℕ → List ℕ
ported protocol source destination flags kind =
    0 ∷ 0 ∷ 0 ∷ protocol ∷ source ∷ destination ∷ 0 ∷ 0 ∷ flags ∷ kind ∷ 0 ∷ []

-- a packet by protocol and ports
abbrev pub sent : ℕ → ℕ → ℕ → List ℕ
sent protocol source destination = 0 ∷ 0 ∷ 0 ∷ protocol ∷ source ∷ destination ∷ []

-- a ping
abbrev pub ping : List ℕ
ping = sent 1 0 0

-- one node with n atoms
abbrev pub node : ℕ → List ℕ → List ℕ
node n atoms = (1 ∷ sibling) ++ (n ∷ atoms) ++ (1 ∷ 0 ∷ 0 ∷ 0 ∷ n ∷ 0 ∷ [])

-- a studio that denies source port 0
abbrev pub studio : List ℕ
studio = node 1 (ported 0 0 0 4 2)

-- a match that no packet meets, protocol 1 with source port 0, before an atom for every packet
abbrev pub unmet_first : List ℕ
unmet_first = node 2 (ported 1 0 0 6 2 ++ ported 0 0 0 0 1)

-- protocol 1, and apart from it destination port 5
abbrev pub apart : List ℕ
apart = node 2 (ported 1 0 0 2 1 ++ ported 0 0 5 8 2)

-- examples/pings.policy: a studio denies source port 0; its team allows pings, and denies those from source port 0,
-- which no packet is
abbrev pub pings : List ℕ
pings =
    (2 ∷ sibling) ++ parent ++ (3 ∷ ported 0 0 0 4 2) ++ ported 1 0 0 2 1 ++ ported 1 0 0 6 2
    ++ (2 ∷ 0 ∷ 1 ∷ 0 ∷ 1 ∷ 1 ∷ 0 ∷ 1 ∷ 0 ∷ 2 ∷ 0 ∷ [])

-- two siblings that deny and allow all: the sibling operator denies, the parent operator would allow
abbrev pub twins : List ℕ
twins =
    (2 ∷ sibling) ++ parent ++ (2 ∷ ported 0 0 0 0 2) ++ ported 0 0 0 0 1
    ++ (3 ∷ 0 ∷ 1 ∷ 0 ∷ 0 ∷ 2 ∷ 0 ∷ 1 ∷ 0 ∷ 1 ∷ 0 ∷ 0 ∷ 1 ∷ 0 ∷ 1 ∷ 0 ∷ [])

-- every field of a match constrained, each by another value
abbrev pub every_column : List ℕ
every_column = node 1 (7 ∷ 167772160 ∷ 168231689 ∷ 6 ∷ 1 ∷ 2 ∷ 8 ∷ 32 ∷ 15 ∷ 0 ∷ 0 ∷ [])

abbrev pub port_cases : List Case
port_cases =
    k 1 (tree_action_of studio ping) (Ok DontCare)
    ∷ k 1 (scan_of (rows_left studio) ping) (Ok (record { action = DontCare; tried = 1 }))
    ∷ k 1 (tree_action_of studio (sent 6 0 0)) (Ok Deny)
    ∷ k 1 (scan_of (rows_left studio) (sent 17 0 0)) (Ok (record { action = Deny; tried = 1 }))
    ∷ k 2 (answer_of unmet_first lent lent) (Ok 1)
    ∷ k 2 (table_after unmet_first lent lent)
    (ported 0 0 0 0 1 ++ zeros row_length ++ zeros row_length ++ zeros row_length)
    ∷ k 3 (answer_of apart lent lent) (Ok 2)
    ∷ k 3 (number_of (rows_left apart) 2 2) (Ok 1)
    ∷ k 3 (priorities_after (rows_left apart) (zeros 2) (zeros 2)) (1 ∷ 1 ∷ [])
    ∷ k 4 (listing_of (flat bytes_of pings))
    (flat codes
    ("rows 2 priorities 1\n"
    ∷ "1 * 0.0.0.0/0 0.0.0.0/0 * 0 * deny\n"
    ∷ "1 * 0.0.0.0/0 0.0.0.0/0 1 * * allow\n"
    ∷ []))
    ∷ k 5 (check_of (ported 0 0 5 8 2 ++ ported 1 0 5 10 2)) (Err (refusal_at WrongRow 1))
    ∷ k 6 (tree_action_of twins ping) (Ok Deny)
    ∷ k 6 (scan_of (rows_left twins) ping) (Ok (record { action = Deny; tried = 1 }))
    ∷ k 7 (listing_of (flat bytes_of every_column))
    (flat codes ("rows 1 priorities 1\n" ∷ "1 7 10.0.0.0/8 10.7.3.9/32 6 1 2 none\n" ∷ []))
    ∷ []

-- EVERY SENTENCE
pub record PortsOnly : Type 0 where
  pub met : PortMet
  pub counts : CountsAsEmpty
  pub follows : Follows
  pub cases : Hold port_cases
