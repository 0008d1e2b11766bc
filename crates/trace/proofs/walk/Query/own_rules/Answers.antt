-- A turn of the loop is one atom, from the last; at the end the steps are reversed.
use Rattle.std.proofs.Common.{ap, ◌∙◌}
use mathlib.Core.List.{map}
use Rattle.std.proofs.lemmas.List.{map_push}
use Rattle.row.specs.Row.{row_of, rows_in}
use Rattle.nodes.specs.Nodes.{cells_at}
use Rattle.trace.proofs.Rules.{atoms_left, atoms-all, atoms-none, put-start, put-step, put-end}
use Rattle.trace.proofs.walk.Query.own_rules.Goals as goal

pub loop-atom-init : goal.loop-atom-init
loop-atom-init g c =
    let iterator = ap (λ s. s.iter) c.into_iter-atom-iterator.ensures.into_iter_gives ∙ c.rev-atom-items.ensures.source in
    put-start (λ m q. g.Q.Asked.meets q m) c.args.self.now.asked.now (cells_at c.args.self.now.file.words.now c.args.inner) (rows_in c.args.atoms.now)
    (atoms_left c.into_iter-atom-iterator.result.iter) c.args.rules.now.items
    (ap atoms_left iterator ∙ ap (map row_of) c.iter.ensures.rest ∙ atoms-all _ c.as_chunks.ensures.front)

pub loop-atom-preserved : goal.loop-atom-preserved
loop-atom-preserved g c =
    put-step (λ m q. g.Q.Asked.meets q m) _ _ _ c.loop-atom.invariant (ap (map row_of) c.in-Some.ensures.steps ∙ map_push row_of _ _)
    c.rule_step-step.ensures c.in_ok-push.ensures.items

pub returns : goal.returns
returns g c =
    put-end (λ m q. g.Q.Asked.meets q m) _ _ _ c.loop-atom.invariant (atoms-none c.loop-atom.atom-iterator.iter c.in-None.ensures.steps.0)
    (c.len-first.ensures ∙ c.args.rules.now.ok.0) c.reverse_from.ensures
