-- A turn of the loop is one atom, from the last.
use Rattle.std.proofs.Common.{ap, ◌∙◌}
use mathlib.Core.List.{map}
use Rattle.std.proofs.lemmas.List.{map_push}
use Rattle.row.specs.Row.{row_of}
use Rattle.tree.proofs.Own.{atoms_left, atoms-all, atoms-none, behind-start, behind-step, behind-end}
use Rattle.tree.proofs.Query.own_action.Goals as goal

pub loop-atom-init : goal.loop-atom-init
loop-atom-init c =
    let iterator = ap (λ s. s.iter) c.into_iter-atom-iterator.ensures.into_iter_gives ∙ c.rev-atom-items.ensures.source in
    behind-start _ _ _ _ (ap atoms_left iterator ∙ ap (map row_of) c.iter.ensures.rest ∙ atoms-all _ c.as_chunks.ensures.front)

pub loop-atom-preserved : goal.loop-atom-preserved
loop-atom-preserved c = behind-step _ _ _ c.loop-atom.invariant (ap (map row_of) c.in-Some.ensures.steps ∙ map_push row_of _ _) c.with_atom-given.ensures

pub returns : goal.returns
returns c = behind-end _ _ _ c.loop-atom.invariant (atoms-none c.loop-atom.atom-iterator.iter c.in-None.ensures.steps.0)
