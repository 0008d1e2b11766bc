use Rattle.std.proofs.Common.{sym}
use Rattle.translate.proofs.MadeSteps.{laid}
use Rattle.translate.proofs.made.from_words.Goals as goal

pub made_policy-requires-clause-few_operators : goal.made_policy-requires-clause-few_operators
made_policy-requires-clause-few_operators c = (laid c.args.words.now c.in-Ok.layout (sym c.in-Ok.ensures)).few_operators

pub made_policy-requires-clause-few_atoms : goal.made_policy-requires-clause-few_atoms
made_policy-requires-clause-few_atoms c = (laid c.args.words.now c.in-Ok.layout (sym c.in-Ok.ensures)).few_atoms

pub made_policy-requires-clause-operators : goal.made_policy-requires-clause-operators
made_policy-requires-clause-operators c = (laid c.args.words.now c.in-Ok.layout (sym c.in-Ok.ensures)).operators

pub made_policy-requires-clause-atoms : goal.made_policy-requires-clause-atoms
made_policy-requires-clause-atoms c = (laid c.args.words.now c.in-Ok.layout (sym c.in-Ok.ensures)).atoms

pub made_policy-requires-clause-nodes : goal.made_policy-requires-clause-nodes
made_policy-requires-clause-nodes c = (laid c.args.words.now c.in-Ok.layout (sym c.in-Ok.ensures)).nodes
