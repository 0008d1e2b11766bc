use Rattle.std.proofs.Common.{◌+◌, ◌-◌, ◌*◌, ◌≡◌, length, take, drop, sym, ap, subst, ◌∙◌, arith, length-drop}
use Rattle.words.specs.Records.{records}
use Rattle.policy.specs.Numbers.{node_length}
use Rattle.policy.specs.Read.{atoms_at, nodes_at}
use Rattle.policy.specs.Whole.{own_atoms}
use Rattle.notation.specs.Right.{RightEntries}
use Rattle.notation.specs.Views.{operator_entries, node_entries}
use Rattle.translate.proofs.FromFile.{from-right}
use Rattle.translate.proofs.MadeSteps.{laid, behind, policy-made}
use Rattle.translate.proofs.made.made_policy.Goals as goal

pub made_nodes-requires-clause-atoms : goal.made_nodes-requires-clause-atoms
made_nodes-requires-clause-atoms c =
    let f = c.args.words.now in
    let l = c.args.layout in
    let n = 1 + l.operators * 9 + 1 + l.atoms * 11 + 1 in
    let m = 1 + l.operators * 9 + 1 in
    let taken : own_atoms (records l.nodes node_length (take (length f - n) (drop n f))) ≡ l.atoms =
    ap (λ ws. own_atoms (records l.nodes node_length ws)) (behind n (nodes_at l.operators l.atoms + 1) f (omega arith))
    ∙ (laid f l c.requires.accepted).taken in
    rw (taken, behind m (atoms_at l.operators + 1) f (omega arith), length-drop (atoms_at l.operators + 1) f) (omega (arith, c.requires.atoms))

pub new-requires : goal.new-requires
new-requires c =
    let f = c.args.words.now in
    let l = c.args.layout in
    let n = 1 + l.operators * 9 + 1 + l.atoms * 11 + 1 in
    let m = 1 + l.operators * 9 + 1 in
    subst RightEntries
    (sym (policy-made f l (laid f l c.requires.accepted) _ _ _ (behind 1 1 f (omega arith)) (behind n (nodes_at l.operators l.atoms + 1) f (omega arith))
    (behind m (atoms_at l.operators + 1) f (omega arith)) (operator_entries c.in_ok-operators.operators.items) (node_entries c.in_ok-nodes.nodes.items)
    c.in_ok-operators.ensures c.in_ok-nodes.ensures))
    (from-right f l c.requires.accepted)

pub returns : goal.returns
returns c =
    let f = c.args.words.now in
    let l = c.args.layout in
    let n = 1 + l.operators * 9 + 1 + l.atoms * 11 + 1 in
    let m = 1 + l.operators * 9 + 1 in
    rw (c.new.ensures.operators, c.new.ensures.nodes)
    (policy-made f l (laid f l c.requires.accepted) _ _ _ (behind 1 1 f (omega arith)) (behind n (nodes_at l.operators l.atoms + 1) f (omega arith))
    (behind m (atoms_at l.operators + 1) f (omega arith)) (operator_entries c.in_ok-operators.operators.items) (node_entries c.in_ok-nodes.nodes.items)
    c.in_ok-operators.ensures c.in_ok-nodes.ensures)
