-- Words that are no packet are refused, then a wrong table; a tested table is scanned.
use Rattle.std.proofs.Common.{sym, ◌∙◌}
use Rattle.std.proofs.lemmas.Result.{err_from_is_err_and}
use Rattle.flow.proofs.Words.{packet-found, packet-none}
use Rattle.table.proofs.Scans.{scan-found, scan-refused}
use Rattle.table.proofs.Tested.{tested-right}
use Rattle.table.proofs.Lying.{rows-are}
use Rattle.table.proofs.scan.Goals as goal

pub returns-in_err-packet : goal.returns-in_err-packet
returns-in_err-packet g c =
    let p = err_from_is_err_and c.from_residual.result c.from_residual.ensures.1 in
    rw (p.1, p.2) (sym ((scan-refused (g.U.Unit.words c.args.table.now) c.args.packet.now).0 (packet-none _ _ (sym c.try_from.ensures ∙ c.in_err-packet.was))))

pub returns-in_err-table : goal.returns-in_err-table
returns-in_err-table g c =
    let p = err_from_is_err_and c.from_residual-in_err-table.result c.from_residual-in_err-table.ensures.1 in
    let k = packet-found _ _ (sym c.try_from.ensures ∙ c.in_ok-packet.was) in
    let refused = rw c.in_err-table.was at c.try_from-2.ensures in
    rw (p.1, p.2) (sym ((scan-refused (g.U.Unit.words c.args.table.now) c.args.packet.now).1 k.0 _ refused))

pub returns : goal.returns
returns g c =
    let ws = g.U.Unit.words c.args.table.now in
    let k = packet-found _ _ (sym c.try_from.ensures ∙ c.in_ok-packet.was) in
    let same = rw c.in_ok-table.was at c.try_from-2.ensures in
    let rows = rows-are g.U.Row.LyingRow.row_words _ c.rows.result.now c.rows.ensures in
    rw (c.first_match.ensures, rows, ← k.1, same) (sym (scan-found ws c.args.packet.now (tested-right c.in_ok-table.table.right same) k.0))
