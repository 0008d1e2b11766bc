-- Going back over the rows gives what going forward gives.
use Rattle.std.proofs.Common.{◌-◌, arith}
use Rattle.table.proofs.Lying.{rows-count, lying-match}
use Rattle.priority.proofs.Back.{back-turn, back_end, back-stop, level-most}
use Rattle.priority.proofs.Lying.{lying-many, lying-word}
use Rattle.priority.proofs.level.Goals as goal

pub offset_bounds-rows-j : goal.offset_bounds-rows-j
offset_bounds-rows-j g c =
    let many = rows-count g.U.Row.LyingRow.row_words (g.U.Unit.words c.args.table.units.now) c.rows-rows.result.now c.rows-rows.ensures in
    omega (arith, c.requires.0, c.loop-j.invariant.0, many)

pub bounds-rows-j : goal.bounds-rows-j
bounds-rows-j g c =
    let many = rows-count g.U.Row.LyingRow.row_words (g.U.Unit.words c.args.table.units.now) c.rows-rows.result.now c.rows-rows.ensures in
    omega (arith, c.requires.0, c.loop-j.invariant.0, many)

pub raised-best-requires : goal.raised-best-requires
raised-best-requires g c =
    let ls = g.U.Unit.words c.args.levels.now in
    let word = g.U.Word.LyingWord.word in
    let many = lying-many word ls c.words-levels.result.now c.words-levels.ensures in
    let is = lying-word word ls c.words-levels.result.now c.words-levels.ensures (c.loop-j.j - 1) _ (omega (arith, c.requires.1, many)) c.index-levels-j.is in
    omega (arith, c.word.ensures, is, c.requires.2, c.requires.3 (c.loop-j.j - 1) (omega arith))

pub loop-j-preserved : goal.loop-j-preserved
loop-j-preserved g c =
    let l = c.loop-j in
    let a = c.args in
    let ws = g.U.Unit.words a.table.units.now in
    let ls = g.U.Unit.words a.levels.now in
    let word = g.U.Word.LyingWord.word in
    let words_of = g.U.Row.LyingRow.row_words in
    let rows = c.rows-rows.result.now in
    let many = lying-many word ls c.words-levels.result.now c.words-levels.ensures in
    let count = rows-count words_of ws rows c.rows-rows.ensures in
    let is = lying-word word ls c.words-levels.result.now c.words-levels.ensures (l.j - 1) _ (omega (arith, c.requires.1, many)) c.index-levels-j.is in (
      omega arith,
      back-turn ws ls a.i l.j l.best _ l.invariant.1 (omega arith) _ _
          c.match_at-m.ensures
          (lying-match words_of ws rows c.rows-rows.ensures (l.j - 1) _ (omega (arith, c.requires.0, count)) c.index-rows-j.is) _
          (rw (← is, ← c.word.ensures) c.raised-best.ensures),
    )

pub returns-else-best-count : goal.returns-else-best-count
returns-else-best-count g c =
    let l = c.loop-j in
    let a = c.args in
    let ws = g.U.Unit.words a.table.units.now in
    let ls = g.U.Unit.words a.levels.now in
    let most = level-most ws ls a.i _ _ c.requires.3 (back-stop ws ls a.i l.j _ _ l.invariant.1 _ l.invariant.0 (omega arith) c.requires.3) in
    record { value = most.0; bound = most.1 }

pub returns-after-loop-j : goal.returns-after-loop-j
returns-after-loop-j g c =
    let l = c.loop-j in
    let a = c.args in
    let ws = g.U.Unit.words a.table.units.now in
    let ls = g.U.Unit.words a.levels.now in
    let most = level-most ws ls a.i _ _ c.requires.3 (back_end ws ls a.i l.j _ _ l.invariant.1 (omega arith)) in
    record { value = most.0; bound = most.1 }
