-- The definition drops the words before the operator, and all of them where it stands outside.
use Rattle.std.proofs.Common.{ap, ◌∙◌, drop, arith}
use Rattle.std.proofs.lemmas.List.{drop_min, length-drop}
use lib.Seq.{take_all}
use Rattle.nodes.specs.Nodes.{from_operator}
use Rattle.nodes.proofs.File.from_operator.Goals as goal

pub returns : goal.returns
unfolding from_operator
returns c =
    let f = c.args.self.words.now in
    take_all _ (drop c.min.result f) (rw length-drop (omega arith)) ∙ ap (λ n. drop n f) c.min.ensures ∙ drop_min _ f
