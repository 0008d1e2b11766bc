-- What is proved of the numbering, over the words that it leaves. A law of the same name in proofs/ proves each
-- statement: earlier-higher proves EarlierHigher.
--
--   AnswerCounts          the answer is a count, no refusal
--   EarlierHigher         where some packet in range matches two rows, the earlier has the strictly higher priority
--   PrioritiesUsed        the priorities lie in 1..L, and L of them are distinct
--   FewestNumbers         every assignment of numbers that puts the earlier row higher has at least L distinct ones
--   ChainForces           the chain is as the scope has it, and of each two neighbours some packet in range matches
--                         both
--   SwitchScans           a switch that obeys any matching row of highest priority gives the scan's action
--   SwitchObeys           where some row matches, some row is obeyed
--   WordsStay             the words beyond the priorities and beyond the chain stay, and so do the lengths
--   RefusedStays          where the answer is a refusal, both buffers stay
use Rattle.std.specs.Prelude.{ℕ, suc, ◌≤◌, ◌<◌, ◌≡◌, true, List, Ok, Err, length, take, drop, slice_index, slice_index_or}
use Rattle.theory.specs.Rows.{matches_at}
use Rattle.theory.specs.Number.{Chained, distinct, Obeyed}
use Rattle.flow.specs.Packet.{packet_of, right_packet_words}
use Rattle.flow.specs.Match.{meets}
use Rattle.flow.specs.declared.Packet.{Packet}
use Rattle.table.specs.Table.{row_count, past}
use Rattle.table.specs.Scan.{scan_of, scan_action}
use Rattle.priority.specs.Numbering.{over, levels_of, number_of, priorities_after, chain_after, Ready}
use Rattle.priority.specs.Numbering.{Shared, count, priority, link}
use Rattle.refusal.specs.declared.Refusal.{Refusal}
use Rattle.row.specs.Row.{rows_in}

-- the answer is a count
abbrev pub AnswerCounts : Type 0
AnswerCounts = (ws ps cs : List ℕ) → Ready ws ps cs → number_of ws (length ps) (length cs) ≡ Ok (count ws ps cs)

-- where some packet in range matches two rows, the earlier has the strictly higher priority
abbrev pub EarlierHigher : Type 0
EarlierHigher =
    (ws ps cs : List ℕ) → Ready ws ps cs → (j i : ℕ) → j < i → i < row_count ws → Shared ws j i
    → priority ws ps cs i < priority ws ps cs j

-- the priorities lie in 1..L, and there are L distinct ones
abbrev pub PrioritiesUsed : Type 0
PrioritiesUsed = (ws ps cs : List ℕ) → Ready ws ps cs
    → ((i : ℕ) → i < row_count ws → (1 ≤ priority ws ps cs i) × (priority ws ps cs i ≤ count ws ps cs))
    × (length (distinct (take (row_count ws) (priorities_after ws ps cs))) ≡ count ws ps cs)

-- no assignment of numbers that puts the earlier row higher has fewer distinct ones
abbrev pub FewestNumbers : Type 0
FewestNumbers = (ws ps cs : List ℕ) → Ready ws ps cs → (qs : List ℕ) → length qs ≡ row_count ws
    → ((j i : ℕ) → j < i → i < row_count ws → Shared ws j i → slice_index qs i < slice_index qs j)
    → count ws ps cs ≤ length (distinct qs)

-- the first L words of the chain buffer are the chain: L places in scan order; of each two neighbours some packet in
-- range matches both
abbrev pub ChainForces : Type 0
ChainForces = (ws ps cs : List ℕ) → Ready ws ps cs
    → Chained (over ws) (levels_of ws) (take (count ws ps cs) (chain_after ws ps cs))
    × (length (take (count ws ps cs) (chain_after ws ps cs)) ≡ count ws ps cs)
    × ((k : ℕ) → suc k < count ws ps cs
    → (link ws ps cs k < link ws ps cs (suc k)) × Shared ws (link ws ps cs k) (link ws ps cs (suc k)))

-- whatever row a switch obeys, its action is the scan's
abbrev pub SwitchScans : Type 0
SwitchScans = (ws ps cs : List ℕ) → Ready ws ps cs → (packet : List ℕ) → right_packet_words packet ≡ true
    → (i : ℕ) → Obeyed meets past (rows_in ws) (priority ws ps cs) (packet_of packet) i
    → (slice_index_or (rows_in ws) i past).action ≡ scan_action (scan_of ws packet)

-- where some row matches a packet, some row is obeyed
abbrev pub SwitchObeys : Type 0
SwitchObeys =
    (ws ps cs : List ℕ) → Ready ws ps cs → (p : Packet) (k : ℕ) → k < row_count ws
    → matches_at meets past (rows_in ws) p k ≡ true
    → (i : ℕ) × Obeyed meets past (rows_in ws) (priority ws ps cs) p i

-- the words beyond stay
abbrev pub WordsStay : Type 0
WordsStay = (ws ps cs : List ℕ) → Ready ws ps cs
    → (length (priorities_after ws ps cs) ≡ length ps)
    × (length (chain_after ws ps cs) ≡ length cs)
    × (drop (row_count ws) (priorities_after ws ps cs) ≡ drop (row_count ws) ps)
    × (drop (count ws ps cs) (chain_after ws ps cs) ≡ drop (count ws ps cs) cs)

-- a refusal leaves both buffers as they were
abbrev pub RefusedStays : Type 0
RefusedStays = (ws ps cs : List ℕ) (f : Refusal) → number_of ws (length ps) (length cs) ≡ Err f
    → (priorities_after ws ps cs ≡ ps) × (chain_after ws ps cs ≡ cs)
