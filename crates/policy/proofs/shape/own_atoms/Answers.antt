-- The own-atom counts of the nodes that the words hold, each a number of 32 bits.
use Rattle.std.proofs.Common.{rules, tests, of_calls, ◌∙◌}
use Rattle.std.proofs.lemmas.Iterator.{YieldsList-from_map}
use Rattle.std.proofs.lemmas.Iterator.Consumers.{YieldsList-at, YieldsList-from_first, sum_by_from_yields_List, fits_by_from_yields_list}
use Rattle.policy.specs.declared.nodes.Node.{Node}
use Rattle.policy.specs.Node.{nodes_held, nodes_left}
use Rattle.policy.proofs.NodeWords.{sum-own, sum-fits}
use Rattle.policy.proofs.shape.own_atoms.Goals as goal

pub sum-requires : goal.sum-requires
sum-requires c = record {
  can = search of_calls;
  finite = search of_calls;
  fits = fits_by_from_yields_list (λ (n : Node). n.own) (nodes_held c.args.nodes.now) c.map.result _
      (YieldsList-from_map _ (λ (n : Node). n.own)
      (YieldsList-at c.map.ensures.source
      (YieldsList-from_first (λ x. x) nodes_left {s = c.of.result} (nodes_held c.args.nodes.now) c.of.ensures))
      c.map.ensures.closure (λ x r q k. search (rules, tests)))
      (sum-fits c.args.nodes.now (λ k. (c.type_inv.nodes k).fits) c.requires);
}

pub returns : goal.returns
returns c =
    sum_by_from_yields_List (λ (n : Node). n.own) (nodes_held c.args.nodes.now) c.map.result _ c.sum.ensures.ran
    (YieldsList-from_map _ (λ (n : Node). n.own)
    (YieldsList-at c.map.ensures.source
    (YieldsList-from_first (λ x. x) nodes_left {s = c.of.result} (nodes_held c.args.nodes.now) c.of.ensures))
    c.map.ensures.closure (λ x r q k. search (rules, tests)))
    ∙ sum-own c.args.nodes.now
