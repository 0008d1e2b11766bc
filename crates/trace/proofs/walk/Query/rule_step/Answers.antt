-- The test picks the same side in the definition.
use Rattle.nodes.specs.Nodes.{cells_at}
use Rattle.trace.proofs.Rules.{step-met, step-unmet}
use Rattle.trace.proofs.walk.Query.rule_step.Goals as goal

pub returns-then-met : goal.returns-then-met
returns-then-met g c =
    step-met (λ m q. g.Q.Asked.meets q m) c.args.self.now.asked.now (cells_at c.args.self.now.file.words.now c.args.inner) c.args.atom.now c.args.rest
    c.read.ensures c.meets_match-met.ensures c.row_action.ensures c.if-met.true c.join_at-made.ensures

pub returns-else-met : goal.returns-else-met
returns-else-met g c =
    step-unmet (λ m q. g.Q.Asked.meets q m) c.args.self.now.asked.now (cells_at c.args.self.now.file.words.now c.args.inner) c.args.atom.now c.args.rest
    c.read.ensures c.meets_match-met.ensures c.if-met.false
