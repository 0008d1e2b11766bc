-- In an accepted file the order of a node's atoms and of its children is free: reading has found that its inner and sibling operators keep the laws, its
-- codes are right and its rates in range. Assumes nothing.
use Rattle.std.proofs.Common.{ℕ, suc, arith, ◌≡◌, refl, subst, sym, true, List, [], ◌∷◌, drop, Ok}
use Rattle.logic.specs.Lists.{All}
use Rattle.logic.proofs.Lists.{all_then}
use Rattle.theory.specs.declared.Row.{Row}
use Rattle.theory.specs.Tree.{EveryNode, GoodNode}
use Rattle.theory.specs.Shuffle.{StaysInRange, Sound}
use Rattle.theory.proofs.Every.{listed-every, every_both}
use Rattle.flow.specs.declared.Match.{Match}
use Rattle.action.specs.Action.{in_range}
use Rattle.action.specs.Operator.{join, RightCodes}
use Rattle.action.specs.declared.Action.{Action}
use Rattle.action.specs.declared.Action.TheVariants.{DontCare}
use Rattle.action.proofs.Ranged.{join-range}
use Rattle.policy.specs.Sections.{own_of}
use Rattle.policy.specs.Meaning.{KeepsLaws, LawsKept}
use Rattle.policy.specs.Read.{read_of, operator_records, node_records}
use Rattle.policy.specs.File.{PolicyNode, held, tree_of, atoms_of}
use Rattle.policy.specs.declared.Layout.{Layout}
use Rattle.policy.proofs.Accepted.{accepted-exactly, accepted-tree}
use Rattle.compile.proofs.RightRows.{RightAtom, good}

-- an action whose rate, if it has one, is in range
abbrev pub InRange : Action → Type 0
InRange a = in_range a ≡ true

-- don't care is in range, and right codes stay in it
pub stays : StaysInRange DontCare join RightCodes InRange
unfolding in_range
stays = record { none = refl; keeps = λ o r a b p q. join-range o r a b p q }

-- the inner and the sibling operator of a node keep the laws
abbrev Lawful : PolicyNode → Type 0
Lawful n = KeepsLaws n.inner × KeepsLaws n.sibling

held-lawful : (os : List (List ℕ)) (xs : List (Row Match Action)) (rs : List (List ℕ)) → LawsKept os rs → All (λ n. Lawful n.what) (held os xs rs)
held-lawful os xs [] h = tt
held-lawful os xs (r ∷ rs) h = (h 0 (omega arith), held-lawful os (drop (own_of r) xs) rs (λ i l. h (suc i) (omega arith)))

-- THE NODES OF AN ACCEPTED FILE ARE SOUND
pub sound : (f : List ℕ) (l : Layout) → read_of f ≡ Ok l → EveryNode (Sound join RightCodes InRange) (tree_of f l)
sound f l e =
    let os : List (List ℕ) = operator_records f l.operators in
    let ns : List (List ℕ) = node_records f l.operators l.atoms l.nodes in
    let lawful : EveryNode Lawful (tree_of f l) =
    listed-every Lawful (tree_of f l)
    (subst (All (λ n. Lawful n.what)) (sym (accepted-tree f l e).lists) (held-lawful os (atoms_of f l) ns ((accepted-exactly f l).0 e).lawful)) in
    every_both (GoodNode RightCodes RightAtom) Lawful (Sound join RightCodes InRange)
    (λ n g h. record {
      good = record {
        inner = g.inner;
        parent = g.parent;
        sibling = g.sibling;
        atoms = all_then RightAtom (λ r. InRange r.action) (λ r a. a.1) n.atoms g.atoms;
      };
      inner = record { commutes = h.0.0; associates = h.0.1 };
      sibling = record { commutes = h.1.0; associates = h.1.1 };
    })
    (tree_of f l) (good f l e) lawful
