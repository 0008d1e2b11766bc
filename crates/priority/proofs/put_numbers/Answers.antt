-- Each part leaves what the next needs.
use Rattle.std.proofs.Common.{arith}
use Rattle.priority.proofs.Whole.{stored-many, stored-count, stored-few, stored-below, stored-priorities, stored-chain}
use Rattle.priority.proofs.put_numbers.Goals as goal

pub put_chain-requires : goal.put_chain-requires
put_chain-requires g c =
    let ws = g.U.Unit.words c.args.table.units.now in
    let levels = c.put_levels-count.ensures in (
      stored-many ws _ _ levels.count levels.levels_after,
      stored-count ws _ _ levels.count levels.levels_after,
      omega (arith, stored-few ws _ _ levels.count levels.levels_after),
    )

pub put_priorities-requires : goal.put_priorities-requires
put_priorities-requires g c =
    stored-below (g.U.Unit.words c.args.table.units.now) _ _ c.put_levels-count.ensures.count c.put_levels-count.ensures.levels_after

pub returns : goal.returns
returns g c =
    let ws = g.U.Unit.words c.args.table.units.now in
    let levels = c.put_levels-count.ensures in
    record {
      count = levels.count;
      priorities_after = stored-priorities ws _ _ levels.count levels.levels_after _ c.put_priorities.ensures;
      chain_after = stored-chain ws _ _ levels.count levels.levels_after _ _ c.put_chain.ensures;
    }
