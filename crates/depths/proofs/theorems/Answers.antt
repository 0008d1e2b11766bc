-- Each statement by the law of its name.
use Rattle.depths.proofs.Stacks.{nested-tree, tree-nested, nested-back, few-children}
use Rattle.depths.proofs.Grown.{nested-grows, tree-depths}
use Rattle.depths.proofs.Written.{words-same}
use Rattle.depths.proofs.theorems.Goals as goal

pub returns : goal.returns
returns g c = record {
  nested_tree = nested-tree;
  tree_nested = tree-nested;
  nested_back = nested-back;
  few_children = few-children;
  nested_grows = nested-grows;
  tree_depths = tree-depths;
  words_same = words-same;
}
