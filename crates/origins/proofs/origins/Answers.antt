-- A turn is an atom: its place is stored behind those before it, or it is passed over.
use Rattle.std.proofs.Common.{◌≡◌, ◌∙◌, ap, arith, length}
use Rattle.row.specs.Row.{rows_in}
use Rattle.table.proofs.Tables.{length-rows}
use Rattle.origins.proofs.Turns.{found, one-more, none-more}
use Rattle.origins.proofs.origins.Goals as goal
use Rattle.origins.proofs.origins.Goals.{then-lies_inside+in_ok-push, else-lies_inside}

pub loop-place-preserved : goal.loop-place-preserved
loop-place-preserved c =
    let ws = c.args.atoms.now in
    let h = c.loop-place-test.true in
    elim c.if-lies_inside.branch [
      | then-lies_inside+in_ok-push w ↦
          one-more ws _ _ h _ _ c.read-atom.ensures c.lies_inside.ensures w.if-lies_inside.true _ _ c.loop-place.invariant
          (ap (λ v. v.items) w.places-is ∙ w.in_ok-push.ensures.items)
      | else-lies_inside w ↦
          ap (λ v. v.items) w.places-is ∙ none-more ws _ _ h _ _ c.read-atom.ensures c.lies_inside.ensures w.if-lies_inside.false _ c.loop-place.invariant
    ]

pub returns : goal.returns
returns c =
    let ws = c.args.atoms.now in
    let all : c.loop-place.place ≡ length (rows_in ws) = omega (arith, c.loop-place.auto.place-end, c.loop-place-test.false, length-rows ws) in
    c.loop-place.invariant ∙ ap (found ws c.args.matching) all
