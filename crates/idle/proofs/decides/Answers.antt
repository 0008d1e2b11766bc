-- The atom's words lie in the file.
use Rattle.std.proofs.Common.{arith}
use Rattle.idle.proofs.Replaced.{in-file, low}
use Rattle.row.specs.Row.{rows_in}
use Rattle.row.specs.Left.{rows_left}
use Rattle.idle.specs.Idle.{decides_in, decides}
use Rattle.idle.proofs.Asked.{asked, this-passes, others-pass}
use Rattle.idle.proofs.decides.Goals as goal

pub overflow_mul-from : goal.overflow_mul-from
overflow_mul-from c =
    omega (arith, c.first_atom.ensures, low c.args.file.now c.args.layout c.requires.accepted c.args.place c.requires.within)

pub overflow_add-from : goal.overflow_add-from
overflow_add-from c =
    omega (arith, c.first_atom.ensures, low c.args.file.now c.args.layout c.requires.accepted c.args.place c.requires.within)

pub overflow_add-from-2 : goal.overflow_add-from-2
overflow_add-from-2 c =
    omega (arith, c.first_atom.ensures, low c.args.file.now c.args.layout c.requires.accepted c.args.place c.requires.within)

pub offset_bounds-file-from : goal.offset_bounds-file-from
offset_bounds-file-from c =
    omega (arith, c.first_atom.ensures, low c.args.file.now c.args.layout c.requires.accepted c.args.place c.requires.within)

pub slice_bounds-read-end : goal.slice_bounds-read-end
slice_bounds-read-end c = omega (arith, c.first_atom.ensures, in-file c.args.file.now c.args.layout c.requires.accepted c.args.place c.requires.within)

pub returns-then-branch : goal.returns-then-branch
returns-then-branch c =
    let f = c.args.file.now in
    let l = c.args.layout in
    let j = c.args.place in
    let decided =
    asked f l j c.requires.accepted c.requires.within c.first_atom.result c.first_atom.ensures c.deref.result.now c.in_ok-changed.changed.items
    c.read-matching.result c.in-Some.row c.decides_in.result c.in_ok-decides_in.field-0 c.deref.ensures.value c.in_ok-changed.ensures
    c.read-matching.ensures c.decides_in.ensures c.in_ok-decides_in.was in
    this-passes (λ r. decides_in f l j r) (rows_left c.loop-row.row-iterator) (rows_left c.next.new.self) c.in-Some.row
    (decides f l (rows_in c.args.rows.now) j) c.loop-row.invariant c.in-Some.ensures.steps c.in_ok-decides_in.field-0 decided c.if-branch.true

pub loop-row-preserved : goal.loop-row-preserved
loop-row-preserved c =
    let f = c.args.file.now in
    let l = c.args.layout in
    let j = c.args.place in
    let decided =
    asked f l j c.requires.accepted c.requires.within c.first_atom.result c.first_atom.ensures c.deref.result.now c.in_ok-changed.changed.items
    c.read-matching.result c.in-Some.row c.decides_in.result c.in_ok-decides_in.field-0 c.deref.ensures.value c.in_ok-changed.ensures
    c.read-matching.ensures c.decides_in.ensures c.in_ok-decides_in.was in
    others-pass (λ r. decides_in f l j r) (rows_left c.loop-row.row-iterator) (rows_left c.next.new.self) c.in-Some.row
    (decides f l (rows_in c.args.rows.now) j) c.loop-row.invariant c.in-Some.ensures.steps c.in_ok-decides_in.field-0 decided c.if-branch.false
