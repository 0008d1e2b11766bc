-- The words from the first atom on, as many as the atoms have, if they are all there.
use Rattle.std.proofs.Common.{◌≤◌, ap, ◌∙◌, refl, arith}
use Rattle.std.proofs.Math.Nat.{le-min}
use Rattle.nodes.proofs.Places.{part-or-none, atoms-part}
use Rattle.nodes.proofs.File.atoms_at.Goals as goal

pub returns : goal.returns
returns c =
    let order : c.args.from ≤ c.saturating_add-end.result = rw c.saturating_add-end.ensures (le-min (omega arith) (omega arith)) in
    ap (λ b. b.now) c.unwrap_or.ensures
    ∙ part-or-none c.args.self.words.now c.args.from _ c.get.result _ c.get.ensures.lookup refl order
    ∙ atoms-part c.args.self.words.now c.args.from c.args.count _ (omega arith) c.saturating_add-end.ensures
