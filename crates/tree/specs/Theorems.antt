-- What is proved of the tree's action. Each statement is proved in proofs/ under the name given behind it.
use Rattle.std.specs.Prelude.{ℕ, ◌≡◌, true, false, List, Ok, Err}
use Rattle.refusal.specs.Refusals.{refusal_at}
use Rattle.refusal.specs.declared.Reason.TheVariants.{WrongPacket}
use Rattle.refusal.specs.declared.Refusal.{Refusal}
use Rattle.flow.specs.Packet.{packet_of, right_packet_words}
use Rattle.policy.specs.Read.{read_of}
use Rattle.policy.specs.File.{tree_of}
use Rattle.policy.specs.declared.Layout.{Layout}
use Rattle.tree.specs.Action.{eval_tree, tree_action_of}

-- of an accepted file and a right packet, the answer is eval of Figure 1 on the tree that the file holds (action-eval)
abbrev pub ActionEval : Type 0
ActionEval =
    (f p : List ℕ) (l : Layout) → read_of f ≡ Ok l → right_packet_words p ≡ true
    → tree_action_of f p ≡ Ok (eval_tree (tree_of f l) (packet_of p))

-- a refused file is refused so, whatever the packet is (action-refused)
abbrev pub ActionRefused : Type 0
ActionRefused = (f p : List ℕ) (r : Refusal) → read_of f ≡ Err r → tree_action_of f p ≡ Err r

-- a wrong packet is refused where the file is accepted (action-packet)
abbrev pub ActionPacket : Type 0
ActionPacket =
    (f p : List ℕ) (l : Layout) → read_of f ≡ Ok l → right_packet_words p ≡ false
    → tree_action_of f p ≡ Err (refusal_at WrongPacket 0)
