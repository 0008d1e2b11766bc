-- A turn of the loop is a step back.
use Rattle.std.proofs.Common.{arith}
use Rattle.priority.proofs.Linking.{linking-none, linking-start, linking-turn, linked-turn, linked-end}
use Rattle.priority.proofs.put_chain.Goals as goal

pub returns-then-count-eq0 : goal.returns-then-count-eq0
returns-then-count-eq0 g c =
    let a = c.args in
    linking-none (g.U.Unit.words a.table.units.now) (g.U.Unit.words a.levels.now) (g.U.Unit.words a.chain.now) _ c.if-count-eq0.true

pub put-requires : goal.put-requires
put-requires g c =
    let a = c.args in
    let s =
    linking-start (g.U.Unit.words a.table.units.now) (g.U.Unit.words a.levels.now) (g.U.Unit.words a.chain.now) a.count _ c.requires.1
    c.if-count-eq0.false c.requires.2 c.first_of_level-at.ensures in
    omega (arith, s.row, a.table.right.few)

pub loop-l-init : goal.loop-l-init
loop-l-init g c =
    let a = c.args in
    record {
      before = g.U.Unit.words a.chain.now;
      link = linking-start (g.U.Unit.words a.table.units.now) (g.U.Unit.words a.levels.now) (g.U.Unit.words a.chain.now) a.count _ c.requires.1
          c.if-count-eq0.false c.requires.2 c.first_of_level-at.ensures;
      is = c.put.ensures;
    }

pub step_back-at-requires : goal.step_back-at-requires
step_back-at-requires g c = let k = c.loop-l.invariant.link in record { many = c.requires.0; within = omega (arith, k.row) }

pub put-requires-in-loop-l : goal.put-requires-in-loop-l
put-requires-in-loop-l g c =
    let k = c.loop-l.invariant in
    let t = linking-turn _ _ _ _ _ _ _ _ _ k.link c.loop-l-test.true k.is c.step_back-at.ensures in
    omega (arith, t.row, c.args.table.right.few)

pub loop-l-preserved : goal.loop-l-preserved
loop-l-preserved g c =
    linked-turn _ _ _ _ _ _ _ _ _ c.loop-l.invariant c.loop-l-test.true c.step_back-at.ensures c.put-in-loop-l.ensures

pub returns : goal.returns
returns g c = linked-end _ _ _ _ _ _ _ c.loop-l.invariant c.loop-l-test.false
