-- The scan of a right table for a packet: the theory's laws of the scan by places, over the rows that the words are. Assumes nothing.
use Prim.Native.Nat.{suc, ◌+◌}
use native.Mathlib.Omega.{arith}
use mathlib.Core.Path.{◌≡◌, refl, ap₂, ◌∙◌}
use mathlib.Core.Bool.{true}
use mathlib.Core.List.{List}
use lib.ListN.{length}
use Rattle.theory.specs.Rows.{tried}
use Rattle.theory.proofs.Places.{scan-place, scan-none}
use Rattle.flow.specs.Packet.{packet_of, right_packet_words}
use Rattle.flow.specs.Match.{meets}
use Rattle.action.specs.declared.Action.TheVariants.{DontCare}
use Rattle.table.specs.Table.{row_count, past, RightTable}
use Rattle.table.specs.Scan.{found, scan_of}
use Rattle.table.specs.Theorems.{ScanFirst, ScanUnmatched, ScanRefused}
use Rattle.table.specs.declared.Found.{Found}
use Rattle.refusal.specs.declared.Refusal.{Refusal}
use Rattle.action.specs.declared.Action.{Action}
use Rattle.std.specs.Prelude.{Result, Ok, ℕ}
use Rattle.table.proofs.Tables.{length-rows, check-exactly}
use Rattle.row.specs.Row.{rows_in}

-- what a scan gives where it is not refused
abbrev gives : Action → ℕ → Result Found Refusal
gives a n = Ok (record { action = a; tried = n })

-- a right table and a right packet are scanned
pub scan-found : (ws packet : List ℕ) → RightTable ws → right_packet_words packet ≡ true → scan_of ws packet ≡ Ok (found 0 (rows_in ws) (packet_of packet))
unfolding scan_of
scan-found ws packet t p = rw (p, (check-exactly ws (row_count ws)).1 (t, refl))

pub scan-first : ScanFirst
scan-first ws packet i t p f =
    let n : length (rows_in ws) ≡ row_count ws = length-rows ws in
    let r = scan-place meets DontCare past (rows_in ws) (packet_of packet) i (rw n f) in
    let e : 0 + tried meets (rows_in ws) (packet_of packet) ≡ suc i = omega (arith, r.2) in
    scan-found ws packet t p ∙ ap₂ gives r.0 e

pub scan-unmatched : ScanUnmatched
scan-unmatched ws packet t p f =
    let n : length (rows_in ws) ≡ row_count ws = length-rows ws in
    let r = scan-none meets DontCare past (rows_in ws) (packet_of packet) (λ i h. f i (omega arith)) in
    let e : 0 + tried meets (rows_in ws) (packet_of packet) ≡ row_count ws = omega (arith, r.2) in
    scan-found ws packet t p ∙ ap₂ gives r.0 e

pub scan-refused : ScanRefused
unfolding scan_of
scan-refused ws packet = (λ p. rw p, λ p f e. rw (p, e))
