-- A turn of the loop joins one atom, from the last, with the table behind it; in the end the table is laid into the other buffer.
use Rattle.std.proofs.Common.{◌∙◌, refl, ap}
use Rattle.row.specs.Left.{rows_left}
use Rattle.compile.proofs.Own.{behind-start, behind-step, behind-full, behind-end}
use Rattle.compile.proofs.rows.own_rows.Goals as goal

pub loop-atom-init : goal.loop-atom-init
loop-atom-init c =
    behind-start _ _ _
    (ap (λ s. rows_left s.iter) c.into_iter-atom-iterator.ensures.into_iter_gives ∙ ap rows_left c.rev-atom-items.ensures.source ∙ c.of.ensures)
    c.requires.0 c.requires.1

pub returns-in_err-first : goal.returns-in_err-first
returns-in_err-first c =
    rw c.from_residual.ensures
    (behind-full _ _ _ c.loop-atom.invariant c.in-Some.ensures.steps c.join_atom.ensures c.args.atoms.now _ refl c.in_err-first.was c.join_atom.auto.scratch)

pub loop-atom-preserved : goal.loop-atom-preserved
loop-atom-preserved c =
    behind-step _ _ _ c.loop-atom.invariant c.in-Some.ensures.steps c.join_atom.ensures _ c.in_ok-first.was c.join_atom.auto.table c.join_atom.auto.scratch

pub returns : goal.returns
returns c = behind-end _ c.args.atoms.now c.loop-atom.invariant c.in-None.ensures.steps.0 c.append.ensures
