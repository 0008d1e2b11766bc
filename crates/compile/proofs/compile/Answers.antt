-- A refused file is answered with its refusal. Of an accepted one the scratch is tested first; then what was built is counted, and cleared behind.
use Rattle.std.proofs.Common.{◌*◌, Err, refl, sym, ap, ◌∙◌, arith}
use Rattle.std.proofs.lemmas.Result.{err_from_is_err_and}
use Rattle.row.specs.Row.{row_length}
use Rattle.nodes.proofs.Walk.{start-reached}
use Rattle.compile.proofs.Ordered.{answered-in-order}
use Rattle.compile.proofs.Built.{compiles-as, room-missed, rows-stand, takes-alike}
use Rattle.compile.proofs.compile.Goals as goal

pub returns-in_err-layout : goal.returns-in_err-layout
returns-in_err-layout c =
    let p = err_from_is_err_and c.from_residual.result c.from_residual.ensures.1 in
    rw (p.1, p.2) ((answered-in-order _ _ _).file_refused _ (sym c.read.ensures ∙ c.in_err-layout.was))

pub overflow_mul-words : goal.overflow_mul-words
overflow_mul-words c = omega (arith, c.room_of-words.ensures)

pub returns-then-scratch-words : goal.returns-then-scratch-words
returns-then-scratch-words c =
    compiles-as
    ((answered-in-order _ c.args.table.now c.args.scratch.now).scratch_short _ (sym c.read.ensures ∙ c.in_ok-layout.was)
    (omega (arith, c.room_of-words.ensures, c.if-scratch-words.true)))
    (ap Err c.at.ensures) refl refl

pub subtree-built-requires : goal.subtree-built-requires
subtree-built-requires c =
    let r = start-reached _ _ (sym c.read.ensures ∙ c.in_ok-layout.was) _ c.root-start.ensures in (
      r.0,
      r.1,
      omega arith,
      takes-alike (row_length * c.room_of-words.result) c.args.scratch.now c.args.table.now
          (omega (arith, c.if-scratch-words.false)) (omega (arith, c.room_of-words.ensures)),
    )

pub returns-in_default : goal.returns-in_default
returns-in_default c =
    room-missed _ _ (sym c.read.ensures ∙ c.in_ok-layout.was) _ c.root-start.ensures _ _ _ c.room_of-words.ensures (omega (arith, c.if-scratch-words.false)) _ _
    c.subtree-built.auto.table c.subtree-built.auto.scratch c.subtree-built.ensures c.in_default.is c.at-in_default.ensures
    c.clear_from-in_default.ensures c.clear_from.ensures

pub returns : goal.returns
returns c =
    rows-stand _ _ (sym c.read.ensures ∙ c.in_ok-layout.was) _ c.root-start.ensures _ _ _ c.room_of-words.ensures (omega (arith, c.if-scratch-words.false)) _ _
    c.subtree-built.auto.table c.subtree-built.auto.scratch c.subtree-built.ensures c.in-Some.is c.clear_from-2.ensures c.clear_from.ensures
