-- The numbering is right and none is smaller, from the numbering's theorems; and what a switch does by it.
use Rattle.std.proofs.Common.{ℕ, suc, ◌<◌, arith, ◌≡◌, sym, ap, ◌∙◌, List, length, get_or, take, get_or-take}
use Rattle.flow.specs.Packet.{packet_of}
use Rattle.table.specs.Table.{row_count, RightTable}
use Rattle.table.specs.Scan.{scan_action}
use Rattle.table.proofs.Tables.{check-exactly}
use Rattle.table.proofs.Scans.{scan-unmatched}
use Rattle.priority.specs.Numbering.{levels_of, chain_after, Ready, count, link}
use Rattle.priority.proofs.Whole.{levels-many}
use Rattle.priority.proofs.After.{answer-counts, earlier-higher, priorities-used, fewest-numbers, chain-forces, switch-scans, switch-obeys}
use Rattle.row.specs.Row.{table_rows}
use Rattle.compile.specs.Compile.{table_after}
use Rattle.text.proofs.Right.{table-right}
use Rattle.promises.specs.Demands.{SwitchObeysTree, SmallestNumbering}
use Rattle.promises.proofs.Scanned.{gives, table-scans}

module _ (ws ps cs : List ℕ) (r : Ready ws ps cs) where
  -- the chain's places are rows
  chain-rows : (k : ℕ) → k < count ws ps cs → link ws ps cs k < row_count ws
  chain-rows k h =
      let c = chain-forces ws ps cs r in
      let g : get_or (take (count ws ps cs) (chain_after ws ps cs)) k 0 < length (levels_of ws) = c.0.rows k (omega (arith, c.1)) in
      omega (arith, g, levels-many ws, get_or-take (count ws ps cs) (chain_after ws ps cs) k 0 h)

pub smallest_numbering : SmallestNumbering
smallest_numbering ws ps cs r = record {
  count = count ws ps cs;
  answer = answer-counts ws ps cs r;
  earlier_higher = earlier-higher ws ps cs r;
  used = (priorities-used ws ps cs r).1;
  fewest = fewest-numbers ws ps cs r;
  chain_length = (chain-forces ws ps cs r).1;
  chain_rows = chain-rows ws ps cs r;
  chain_order = λ k h. ((chain-forces ws ps cs r).2 k h).0;
  chain_overlaps = λ k h. ((chain-forces ws ps cs r).2 k h).1;
  chain_forces = λ q right k h.
      let c = (chain-forces ws ps cs r).2 k h in
      right (link ws ps cs k) (link ws ps cs (suc k)) c.0 (chain-rows ws ps cs r (suc k) h) c.1;
  switch = λ p i right o. switch-scans ws ps cs r p right i o;
  switch_obeys = λ p k h m. switch-obeys ws ps cs r (packet_of p) k h m;
  switch_idle = λ p right none. ap scan_action (scan-unmatched ws p r.right right none);
}

-- the compiled rows are a right table, so the switch does what the scan does, and the scan what the tree does
pub switch_obeys_tree : SwitchObeysTree
switch_obeys_tree f t s ps cs p n i q h k right o =
    let ws : List ℕ = table_rows n (table_after f t s) in
    let c : RightTable ws × (n ≡ row_count ws) = (check-exactly ws n).0 (table-right f t s n q) in
    let r : Ready ws ps cs = record { right = c.0; priorities = omega (arith, c.1); chain = omega (arith, c.1) } in
    (table-scans f t s p n q right).1 ∙ ap gives (sym (switch-scans ws ps cs r p right i o))
