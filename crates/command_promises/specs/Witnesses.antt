-- What is promised of a packet that is shown for two matches.
--
--   Witnesses a b p    the packet p is in range, and meets a and b
--   WitnessMeets       a packet that is shown is such a packet
--   WitnessThere       none is shown exactly where there is no such packet
--   Unset flag a b     neither a nor b constrains what a flag is for
--   Quiet a b p        p has 0 where a and b constrain nothing, and TCP for a port whose protocol may be any
--   WitnessQuiet       a packet that is shown is such a packet
--   matching_at ws i   the match of row i of a table
--   ChainWitnessed     of each two neighbours of the chain of a table's numbering one is shown
use Rattle.std.specs.Prelude.{ℕ, suc, ◌<◌, ◌≡◌, true, false, List, Some, None, ◌↔◌, slice_index_or}
use Rattle.flow.specs.Packet.{right_packet}
use Rattle.flow.specs.Match.{in_port_flag, protocol_flag, source_port_flag, destination_port_flag, port_flags}
use Rattle.flow.specs.Match.{constrains, tcp, right_match, meets}
use Rattle.flow.specs.declared.Match.{Match}
use Rattle.flow.specs.declared.Packet.{Packet}
use Rattle.row.specs.Row.{rows_in}
use Rattle.table.specs.Table.{past}
use Rattle.priority.specs.Numbering.{Ready, count, link}
use Rattle.witness.specs.Witness.{shared_of}

-- a packet in range that meets both matches
abbrev pub Witnesses : Match → Match → Packet → Type 0
Witnesses a b p = (right_packet p ≡ true) × (meets a p ≡ true) × (meets b p ≡ true)

-- a packet that is shown for two right matches is in range and meets both
abbrev pub WitnessMeets : Type 0
WitnessMeets =
    (a b : Match) (p : Packet) → right_match a ≡ true → right_match b ≡ true → shared_of a b ≡ Some p → Witnesses a b p

-- none is shown for two right matches exactly where no packet in range meets both
abbrev pub WitnessThere : Type 0
WitnessThere =
    (a b : Match) → right_match a ≡ true → right_match b ≡ true
    → (shared_of a b ≡ None) ↔ ((p : Packet) → ¬ Witnesses a b p)

-- neither match constrains what a flag is for
abbrev pub Unset : ℕ → Match → Match → Type 0
Unset flag a b = (constrains flag a ≡ false) × (constrains flag b ≡ false)

-- a value that neither match constrains is 0, but for the protocol where a port is constrained: then it is TCP
pub record Quiet (a b : Match) (p : Packet) : Type 0 where
  pub in_port : Unset in_port_flag a b → p.in_port ≡ 0
  pub source_port : Unset source_port_flag a b → p.source_port ≡ 0
  pub destination_port : Unset destination_port_flag a b → p.destination_port ≡ 0
  pub protocol : Unset protocol_flag a b → Unset port_flags a b → p.protocol ≡ 0
  pub with_port : Unset protocol_flag a b → ¬ Unset port_flags a b → p.protocol ≡ tcp

-- so it is in a packet that is shown, for all matches
abbrev pub WitnessQuiet : Type 0
WitnessQuiet = (a b : Match) (p : Packet) → shared_of a b ≡ Some p → Quiet a b p

-- the match of row i
abbrev pub matching_at : List ℕ → ℕ → Match
matching_at ws i = (slice_index_or (rows_in ws) i past).matching

-- for each two neighbours of the chain a packet in range is shown that meets both rows
abbrev pub ChainWitnessed : Type 0
ChainWitnessed = (ws ps cs : List ℕ) → Ready ws ps cs → (k : ℕ) → suc k < count ws ps cs
    → (p : Packet)
    × (shared_of (matching_at ws (link ws ps cs k)) (matching_at ws (link ws ps cs (suc k))) ≡ Some p)
    × Witnesses (matching_at ws (link ws ps cs k)) (matching_at ws (link ws ps cs (suc k))) p

-- what is promised of witnesses
abbrev pub WitnessesMeet : Type 0
WitnessesMeet = WitnessMeets × WitnessThere × WitnessQuiet × ChainWitnessed
