-- The node's words are those from its place on.
use Rattle.std.proofs.Common.{ap, ◌∙◌, refl, arith}
use Rattle.nodes.proofs.Places.{part-or-none, node-read}
use Rattle.nodes.proofs.File.node_at.Goals as goal

pub returns : goal.returns
returns c =
    node-read _ _ _ c.node_place-at.ensures.place
    (ap (λ b. b.now) c.unwrap_or.ensures ∙ part-or-none c.args.self.words.now _ _ c.get.result _ c.get.ensures.lookup refl (omega arith)) c.read.ensures
