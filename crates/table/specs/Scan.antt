-- The scan of a table for a packet, both as words. See docs/FORMAT.md, "The scan".
--
--   met packet row            whether the packet meets the row of some words
--   found k N packet          the scan of the rows N, where k rows were tried before them
--   where_right c s           the answer s, where the table is right
--   scan_of ws packet         the scan's answer
--   scan_action, scan_tried   the action of an answer, and how many rows were tried; don't care and 0 where it is a
--                             refusal
use Rattle.std.specs.Prelude.{ℕ, ◌+◌, Bool, List, Result, Ok, Err, if◌then◌else◌}
use Rattle.theory.specs.declared.Row.{Row}
use Rattle.theory.specs.Rows.{scan, tried}
use Rattle.refusal.specs.Refusals.{refusal_at}
use Rattle.refusal.specs.declared.Reason.TheVariants.{WrongPacket}
use Rattle.refusal.specs.declared.Refusal.{Refusal}
use Rattle.flow.specs.Packet.{packet_of, right_packet_words}
use Rattle.flow.specs.Match.{match_of, meets}
use Rattle.flow.specs.declared.Match.{Match}
use Rattle.flow.specs.declared.Packet.{Packet}
use Rattle.action.specs.declared.Action.{Action}
use Rattle.action.specs.declared.Action.TheVariants.{DontCare}
use Rattle.table.specs.Table.{check_of}
use Rattle.table.specs.declared.Found.{Found}
use Rattle.row.specs.Row.{rows_in}

-- whether the packet meets the row of some words
abbrev pub met : Packet → List ℕ → Bool
met packet row = meets (match_of row) packet

-- the scan of rows before which k rows were tried
abbrev pub found : ℕ → List (Row Match Action) → Packet → Found
found k N packet = record { action = scan meets DontCare N packet; tried = k + tried meets N packet }

-- what is found where the table is right, else its refusal
abbrev pub where_right : Result ℕ Refusal → Found → Result Found Refusal
where_right (Ok n) s = Ok s
where_right (Err f) s = Err f

-- the scan: first the packet, then the table, then its rows in order
unfoldable pub scan_of : List ℕ → List ℕ → Result Found Refusal
scan_of ws packet =
    if right_packet_words packet
    then where_right (check_of ws) (found 0 (rows_in ws) (packet_of packet))
    else Err (refusal_at WrongPacket 0)

-- the action that an answer gives
abbrev pub scan_action : Result Found Refusal → Action
scan_action (Ok s) = s.action
scan_action (Err f) = DontCare

-- how many rows were tried
abbrev pub scan_tried : Result Found Refusal → ℕ
scan_tried (Ok s) = s.tried
scan_tried (Err f) = 0
