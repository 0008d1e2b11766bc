-- A packet has the same action without an atom that it does not meet, and without one that does not decide in the first row that it meets. Assumes nothing.
use Rattle.std.proofs.Common.{ℕ, ◌<◌, ◌≡◌, refl, sym, ◌∙◌, true, false, List, length, get_or, arith, Ok}
use lib.ListN.{length-map}
use mathlib.Core.Bool.{false≢true}
use Rattle.logic.specs.Lists.{All}
use Rattle.logic.proofs.Lists.{all-at, all_from, all_then}
use Rattle.logic.proofs.Tests.{by-test}
use Rattle.theory.specs.declared.Row.{Row}
use Rattle.flow.specs.Match.{none, unmet, is_empty, meets, inside}
use Rattle.flow.specs.declared.Match.{Match}
use Rattle.flow.specs.declared.Packet.{Packet}
use Rattle.flow.proofs.Tests.{meets-empty}
use Rattle.action.specs.Operator.{join}
use Rattle.action.specs.declared.Action.{Action}
use Rattle.action.specs.declared.Action.TheVariants.{DontCare}
use Rattle.action.specs.Laws.{same}
use Rattle.action.proofs.Same.{same-eq}
use Rattle.row.specs.Row.{row_of}
use Rattle.policy.specs.Read.{read_of, atom_records}
use Rattle.policy.specs.File.{tree_of, atoms_of}
use Rattle.policy.specs.declared.Layout.{Layout}
use Rattle.table.specs.Table.{past}
use Rattle.tree.specs.Action.{eval_tree}
use Rattle.origins.specs.Origins.{holds, action_inside}
use Rattle.idle.specs.Idle.{without, decides_in}
use Rattle.idle.proofs.Alike.{eval-alike}
use Rattle.idle.proofs.Replaced.{atoms-many}
use Rattle.idle.proofs.Trees.{without-alike, without-self}

-- no packet meets the match that no packet meets
none-empty : is_empty none ≡ true
unfolding is_empty unmet
none-empty = refl

none-unmet : (p : Packet) → meets none p ≡ false
none-unmet p = meets-empty none p none-empty

-- and no other lies inside it
none-holds : (q : Match) → is_empty q ≡ false → holds none q ≡ false
unfolding inside
none-holds q e = rw (e, none-empty) refl

module _ (f : List ℕ) (l : Layout) (j : ℕ) (e : read_of f ≡ Ok l) (h : j < l.atoms) (p : Packet) where
  abbrev atom : Row Match Action
  atom = get_or (atoms_of f l) j past

  -- it is there
  pub within : j < length (atoms_of f l)
  within = omega (arith, h, length-map (atom_records f l.operators l.atoms) row_of, atoms-many f l j e h)

  -- one packet, with the atom and without it
  abbrev Alone : Row Match Action → Row Match Action → Type 0
  Alone x y = (x.action ≡ y.action) × (meets x.matching p ≡ meets y.matching p)

  -- WITHOUT AN ATOM THAT IT DOES NOT MEET
  pub unmet-silent : meets atom.matching p ≡ false → eval_tree (tree_of f l) p ≡ eval_tree (tree_of (without f l j) l) p
  unmet-silent u =
      eval-alike Alone meets meets DontCare join p p (λ x y r. r.0) (λ x y r. r.1) (tree_of f l) (tree_of (without f l j) l)
      (without-alike Alone f l j e h (all_from (λ x. Alone x x) past (atoms_of f l) (λ i k. (refl, refl))) (refl, u ∙ sym (none-unmet p)))

  module _ (r : Row Match Action) (full : is_empty r.matching ≡ false)
      (agree : All (λ a. meets a.matching p ≡ holds a.matching r.matching) (atoms_of f l)) where
    -- the packet, and the row's match in its place
    abbrev Placed : Row Match Action → Row Match Action → Type 0
    Placed x y = (x.action ≡ y.action) × (meets x.matching p ≡ holds y.matching r.matching)

    -- without the atom the packet has the action over the atoms that the row's match lies inside
    placed : eval_tree (tree_of (without f l j) l) p ≡ action_inside (tree_of (without f l j) l) r.matching
    placed =
        eval-alike Placed meets holds DontCare join p r.matching (λ x y s. s.0) (λ x y s. s.1) (tree_of (without f l j) l) (tree_of (without f l j) l)
        (without-self Placed f l j e h (all_then _ (λ x. Placed x x) (λ x g. (refl, g)) (atoms_of f l) agree)
        (refl, none-unmet p ∙ sym (none-holds r.matching full)))

    -- WITHOUT ONE THAT DOES NOT DECIDE IN A ROW whose atoms are those that it meets
    pub row-silent : decides_in f l j r ≡ false → eval_tree (tree_of f l) p ≡ r.action
        → eval_tree (tree_of f l) p ≡ eval_tree (tree_of (without f l j) l) p
    unfolding decides_in
    row-silent idle acts =
        by-test (inside r.matching atom.matching)
        (λ t.
        let acts_so : same (action_inside (tree_of (without f l j) l) r.matching) r.action ≡ true =
        by-test (same (action_inside (tree_of (without f l j) l) r.matching) r.action) (λ s. s) (λ s. absurd (false≢true (sym idle ∙ rw (t, s) refl))) in
        acts ∙ sym (same-eq _ _ acts_so) ∙ sym placed)
        (λ t. unmet-silent (all-at _ past (atoms_of f l) j agree within ∙ t))
