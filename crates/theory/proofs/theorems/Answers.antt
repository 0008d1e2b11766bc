-- Each statement by the law of its name.
use Rattle.theory.proofs.Join.{scan-join, join-size}
use Rattle.theory.proofs.Compile.{scan-compile, node-chain}
use Rattle.theory.proofs.Nodes.{list-plant, plant-list}
use Rattle.theory.proofs.ShuffleNodes.{atoms-shuffled, children-shuffled}
use Rattle.theory.proofs.Places.{scan-place, scan-none}
use Rattle.theory.proofs.Levels.{priorities-right, priorities-range}
use Rattle.theory.proofs.Fewest.{fewest-priorities, priorities-count}
use Rattle.theory.proofs.Chain.{chain-holds}
use Rattle.theory.proofs.Switch.{switch-scan, switch-priorities, switch-first}
use Rattle.theory.proofs.Where.{has-where, where-rises}
use Rattle.theory.proofs.HiddenLaws.{scan-hidden, hidden-exactly, one-exactly, none_hidden, hidden-again, hidden-step, hidden-less}
use Rattle.theory.proofs.theorems.Goals as goal

pub returns : goal.returns
returns g c = record {
  scan_join = λ meets dont_care joined common empty. scan-join;
  scan_compile = λ meets dont_care joined common empty. scan-compile;
  node_chain = λ meets dont_care joined common empty. node-chain;
  join_size = join-size;
  list_plant = list-plant;
  plant_list = plant-list;
  atoms_shuffled = atoms-shuffled;
  children_shuffled = children-shuffled;
  scan_place = scan-place;
  scan_none = scan-none;
  priorities_right = priorities-right;
  priorities_range = priorities-range;
  priorities_count = priorities-count;
  fewest_priorities = fewest-priorities;
  chain_holds = chain-holds;
  switch_scan = switch-scan;
  switch_priorities = switch-priorities;
  switch_first = switch-first;
  scan_hidden = scan-hidden;
  hidden_exactly = hidden-exactly g.row.A.Denot;
  one_exactly = one-exactly g.row.A.Denot;
  none_hidden = none_hidden g.row.A.Denot;
  hidden_again = hidden-again g.row.A.Denot;
  hidden_step = hidden-step g.row.A.Denot;
  hidden_less = hidden-less g.row.A.Denot;
  has_where = has-where;
  where_rises = where-rises;
}
