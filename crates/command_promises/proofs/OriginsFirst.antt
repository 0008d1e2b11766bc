-- The first row of a file's table that a packet meets lies inside exactly the atoms of the file that the packet meets; where none is met, no atom is.
-- Assumes nothing.
use Rattle.std.proofs.Common.{ℕ, ◌<◌, ◌≡◌, ap, subst, ◌∙◌, true, false, List, length, get_or, Ok}
use Rattle.std.specs.Prelude.{⊤}
use Rattle.logic.specs.Lists.{All}
use Rattle.logic.proofs.Lists.{all_then, all-at}
use Rattle.theory.specs.declared.Row.{Row}
use Rattle.theory.specs.Rows.{matches_at}
use Rattle.theory.specs.Number.{FirstPlace}
use Rattle.theory.specs.Nodes.{list_tree, all_atoms}
use Rattle.theory.specs.Tree.{GoodNode}
use Rattle.theory.specs.Hidden.{staying}
use Rattle.theory.proofs.Every.{every_both}
use Rattle.flow.specs.Match.{meets, inside, right_match}
use Rattle.flow.specs.declared.Match.{Match}
use Rattle.flow.specs.declared.Packet.{Packet}
use Rattle.action.specs.Operator.{join, RightCodes}
use Rattle.action.specs.declared.Action.{Action}
use Rattle.table.specs.Table.{past}
use Rattle.policy.specs.Read.{read_of}
use Rattle.policy.specs.File.{atoms_of, tree_of}
use Rattle.policy.specs.declared.Layout.{Layout}
use Rattle.policy.proofs.Accepted.{accepted-tree, accepted-atoms}
use Rattle.compile.specs.Compile.{compiled_rows}
use Rattle.compile.proofs.RightRows.{RightAtom, good}
use Rattle.origins.specs.Marked.{RightAtoms}
use Rattle.origins.proofs.Matches.{match-laws}
use Rattle.origins.proofs.First as first

module _ (f : List ℕ) (l : Layout) (e : read_of f ≡ Ok l) where
  -- the atoms of the file's tree have right matches, and are those of the file
  pub right-nodes : RightAtoms (λ m. right_match m ≡ true) (tree_of f l)
  right-nodes =
      every_both (GoodNode RightCodes RightAtom) (GoodNode RightCodes RightAtom) (GoodNode (λ o. ⊤) (λ x. right_match x.matching ≡ true))
      (λ n a b. record { inner = tt; parent = tt; sibling = tt; atoms = all_then RightAtom (λ x. right_match x.matching ≡ true) (λ x g. g.0) n.atoms a.atoms })
      (tree_of f l) (good f l e) (good f l e)

  pub atoms-in_order : all_atoms (list_tree (tree_of f l)) ≡ atoms_of f l
  atoms-in_order = ap all_atoms (accepted-tree f l e).lists ∙ accepted-atoms f l e

  -- what all atoms of the tree have, each of the file has
  each-atom : (T : Row Match Action → Type 0) → All T (all_atoms (list_tree (tree_of f l))) → (k : ℕ) → k < length (atoms_of f l)
      → T (get_or (atoms_of f l) k past)
  each-atom T g k h = all-at T past (atoms_of f l) k (subst (All T) atoms-in_order g) h

  -- the first row that is met
  pub first-row : let N : List (Row Match Action) = compiled_rows f l in
      (p : Packet) (i : ℕ) → FirstPlace (matches_at meets past N p) (length N) i → (k : ℕ) → k < length (atoms_of f l)
      → meets (get_or (atoms_of f l) k past).matching p ≡ inside (get_or N i past).matching (get_or (atoms_of f l) k past).matching
  unfolding compiled_rows
  first-row p i h =
      each-atom (λ x. meets x.matching p ≡ inside (get_or (compiled_rows f l) i past).matching x.matching)
      (first.first-row join match-laws (tree_of f l) right-nodes p past i h)

  -- where no row is met
  pub no-row : let N : List (Row Match Action) = compiled_rows f l in
      (p : Packet) → ((i : ℕ) → i < length N → matches_at meets past N p i ≡ false) → (k : ℕ) → k < length (atoms_of f l)
      → meets (get_or (atoms_of f l) k past).matching p ≡ false
  unfolding compiled_rows
  no-row p h = each-atom (λ x. meets x.matching p ≡ false) (first.no-row join match-laws (tree_of f l) right-nodes p past h)

  -- the same of the rows that stay
  pub first-kept : let K : List (Row Match Action) = staying inside (compiled_rows f l) in
      (p : Packet) (i : ℕ) → FirstPlace (matches_at meets past K p) (length K) i → (k : ℕ) → k < length (atoms_of f l)
      → meets (get_or (atoms_of f l) k past).matching p ≡ inside (get_or K i past).matching (get_or (atoms_of f l) k past).matching
  unfolding compiled_rows
  first-kept p i h =
      each-atom (λ x. meets x.matching p ≡ inside (get_or (staying inside (compiled_rows f l)) i past).matching x.matching)
      (first.first-kept join match-laws (tree_of f l) right-nodes p past i h)

  pub none-kept : let K : List (Row Match Action) = staying inside (compiled_rows f l) in
      (p : Packet) → ((i : ℕ) → i < length K → matches_at meets past K p i ≡ false) → (k : ℕ) → k < length (atoms_of f l)
      → meets (get_or (atoms_of f l) k past).matching p ≡ false
  unfolding compiled_rows
  none-kept p h = each-atom (λ x. meets x.matching p ≡ false) (first.none-kept join match-laws (tree_of f l) right-nodes p past h)
