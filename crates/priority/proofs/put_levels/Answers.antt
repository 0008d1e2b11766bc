-- A turn of the loop is a row.
use Rattle.std.proofs.Common.{◌<◌, length, arith}
use Rattle.priority.proofs.Levelling.{levelling-start, levelling-below, levelling-turn, levelling-end}
use Rattle.priority.proofs.put_levels.Goals as goal

pub loop-i-init : goal.loop-i-init
loop-i-init g c = levelling-start (g.U.Unit.words c.args.table.units.now) (g.U.Unit.words c.args.levels.now)

pub level-l-requires : goal.level-l-requires
level-l-requires g c = (
  omega (arith, c.row_count-i-end.ensures),
  omega (arith, c.loop-i.invariant.within),
  omega (arith, c.loop-i.invariant.few, c.row_count-i-end.ensures, c.args.table.right.few),
  levelling-below c.loop-i.invariant,
)

pub loop-i-preserved : goal.loop-i-preserved
loop-i-preserved g c =
    let room : c.loop-i.i < length (g.U.Unit.words c.loop-i.levels) = omega (arith, c.row_count-i-end.ensures, c.requires, c.loop-i.invariant.same) in
    rw c.put.ensures (levelling-turn c.loop-i.invariant room _ c.level-l.ensures.value _ c.max-count.ensures)

pub returns : goal.returns
returns g c =
    let all = levelling-end c.loop-i.invariant c.requires (omega (arith, c.row_count-i-end.ensures, c.requires, c.loop-i.invariant.same)) in
    record { count = all.0; levels_after = all.1 }
