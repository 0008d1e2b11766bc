-- The tree's action, for every list of words and every packet: the file's refusals come first, then the packet's. See
-- docs/FORMAT.md, "The tree's action".
--
--   eval_tree             eval of Figure 1 on a policy tree
--   accepted_action       of an accepted file: the packet is tested, then eval
--   action_after          what reading answered, carried on
--   tree_action_of        the tree's action
--   given                 the action of an answer
use Rattle.std.specs.Prelude.{ℕ, List, Result, Ok, Err, if◌then◌else◌}
use Rattle.theory.specs.Tree.{eval}
use Rattle.refusal.specs.Refusals.{refusal_at}
use Rattle.refusal.specs.declared.Reason.TheVariants.{WrongPacket}
use Rattle.refusal.specs.declared.Refusal.{Refusal}
use Rattle.flow.specs.Packet.{packet_of, right_packet_words}
use Rattle.flow.specs.Match.{meets}
use Rattle.flow.specs.declared.Packet.{Packet}
use Rattle.action.specs.Operator.{join}
use Rattle.action.specs.declared.Action.{Action}
use Rattle.action.specs.declared.Action.TheVariants.{DontCare}
use Rattle.policy.specs.Read.{read_of}
use Rattle.policy.specs.File.{PolicyTree, tree_of}
use Rattle.policy.specs.declared.Layout.{Layout}

-- eval of Figure 1, at the matches, actions and operators of a policy file
abbrev pub eval_tree : PolicyTree → Packet → Action
eval_tree t p = eval meets DontCare join t p

-- an accepted file's tree and a right packet: eval of the tree
unfoldable pub accepted_action : List ℕ → Layout → List ℕ → Result Action Refusal
accepted_action f l p =
    if right_packet_words p then Ok (eval_tree (tree_of f l) (packet_of p)) else Err (refusal_at WrongPacket 0)

-- what reading answered, carried on
abbrev pub action_after : List ℕ → List ℕ → Result Layout Refusal → Result Action Refusal
action_after f p (Ok l) = accepted_action f l p
action_after f p (Err r) = Err r

-- THE TREE'S ACTION
unfoldable pub tree_action_of : List ℕ → List ℕ → Result Action Refusal
tree_action_of f p = action_after f p (read_of f)

-- the action of an answer: don't care where it is a refusal
abbrev pub given : Result Action Refusal → Action
given (Ok a) = a
given (Err r) = DontCare
