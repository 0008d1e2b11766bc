-- The text of a table with the priorities that the numbering stored is the table's; a refusal is its own text.
use Rattle.std.proofs.Common.{ℕ, List, refl, replicate}
use Rattle.show.specs.Sheet.{listing_room}
use Rattle.show.proofs.Listed.{table-listed, table-refused}
use Rattle.show.proofs.sheet.list_table.Goals as goal

-- both buffers before the numbering
abbrev none : List ℕ
none = replicate listing_room 0

pub returns-in-Ok : goal.returns-in-Ok
returns-in-Ok g c =
    rw (← table-listed c.args.table.now none none c.number.ensures refl refl c.in-Ok.is)
    (g.met.S.Sink.then _ _ _ _ _ c.put.ensures c.list_rows.ensures)

pub returns-in-Err : goal.returns-in-Err
returns-in-Err g c = rw (← table-refused c.args.table.now none none c.number.ensures refl refl c.in-Err.is) c.put-in-Err.ensures
