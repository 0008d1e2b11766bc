-- The code goes the definition's way: past a don't care on the left, past one on the right, or to the cell.
use Rattle.std.proofs.Common.{rules, ◌≡◌, ◌∙◌, ap}
use Rattle.action.specs.Operator.{coded}
use Rattle.action.specs.declared.Action.TheVariants.{DontCare}
use Rattle.action.proofs.Joined.{join-left-none, join-right-none, join-coded}
use Rattle.action.proofs.join_by.Goals as goal

pub returns-then-eq : goal.returns-then-eq
returns-then-eq c =
    let e : c.args.left ≡ DontCare = search rules in
    join-left-none _ _ _ e

pub returns-then-eq-2 : goal.returns-then-eq-2
returns-then-eq-2 c =
    let e : c.args.right ≡ DontCare = search rules in
    join-right-none _ _ _ e

pub returns : goal.returns
returns c =
    let left : c.args.left ≡ DontCare → ⊥ = search rules in
    let right : c.args.right ≡ DontCare → ⊥ = search rules in
    join-coded _ _ _ _ _ c.kind.ensures.kind c.kind-2.ensures.kind _ left right
    (c.coded.ensures ∙ ap (λ n. coded n c.args.left c.args.right) c.word.ensures)
