-- The whole walk gives eval of the file's tree, and the answer goes by what reading said. Assumes nothing.
use Prim.Native.Nat.{ℕ}
use mathlib.Core.Path.{◌≡◌, ap₂, ◌∙◌}
use mathlib.Core.Bool.{true, false}
use mathlib.Core.List.{List}
use Rattle.std.specs.Prelude.{Ok, Err}
use Rattle.refusal.specs.Refusals.{refusal_at}
use Rattle.refusal.specs.declared.Reason.TheVariants.{WrongPacket}
use Rattle.flow.specs.Packet.{packet_of, right_packet_words}
use Rattle.flow.specs.declared.Packet.{Packet}
use Rattle.action.specs.declared.Action.{Action}
use Rattle.policy.specs.Read.{read_of}
use Rattle.policy.specs.File.{tree_of}
use Rattle.policy.specs.declared.Layout.{Layout}
use Rattle.nodes.specs.Nodes.{root_spot}
use Rattle.nodes.specs.declared.Spot.{Spot}
use Rattle.nodes.proofs.Walk.{root-tree}
use Rattle.tree.specs.Action.{eval_tree, accepted_action, tree_action_of}
use Rattle.tree.specs.Steps.{TreeGave}
use Rattle.tree.specs.Theorems.{ActionEval, ActionRefused, ActionPacket}

-- what the walk from the root gives
pub root-gave : (f : List ℕ) (l : Layout) → read_of f ≡ Ok l → (at : Spot) → at ≡ root_spot l → (p : Packet) {q : Packet} {r : Action} {next : Spot} → q ≡ p
    → TreeGave f at q r next → r ≡ eval_tree (tree_of f l) p
root-gave f l e at start p same t = t.action ∙ ap₂ eval_tree (root-tree f l e at start) same

-- by the packet's test
module _ (f : List ℕ) (l : Layout) (p : List ℕ) where
  pub accepted-gives : {x : Action} → right_packet_words p ≡ true → x ≡ eval_tree (tree_of f l) (packet_of p) → Ok x ≡ accepted_action f l p
  unfolding accepted_action
  accepted-gives {x} h e = rw (h, e)

  pub accepted-refuses : right_packet_words p ≡ false → Err (refusal_at WrongPacket 0) ≡ accepted_action f l p
  unfolding accepted_action
  accepted-refuses h = rw h

pub action-eval : ActionEval
unfolding tree_action_of accepted_action
action-eval f p l e right = rw (e, right)

pub action-refused : ActionRefused
unfolding tree_action_of
action-refused f p r e = rw e

pub action-packet : ActionPacket
unfolding tree_action_of accepted_action
action-packet f p l e wrong = rw (e, wrong)
