-- The rows of an accepted file are right: right codes keep rates in their range as they are joined, common matches of right ones are right, and every row is
-- made by joining atoms. Assumes nothing.
use Rattle.std.proofs.Common.{ℕ, suc, ◌+◌, ◌<◌, arith, ◌≡◌, sym, subst, true, List, [], ◌∷◌, length, get_or, drop, Ok}
use Rattle.logic.specs.Lists.{All}
use Rattle.logic.proofs.Lists.{all_take, all_drop, all_map, all_then}
use Rattle.words.proofs.RecordLaws.{length-records}
use Rattle.theory.specs.declared.Row.{Row}
use Rattle.theory.specs.Tree.{EveryNode, GoodNode}
use Rattle.theory.proofs.Every.{listed-every, compile-every}
use Rattle.flow.specs.Match.{is_empty, common, right_match}
use Rattle.flow.specs.declared.Match.{Match}
use Rattle.flow.proofs.Laws.{common-right}
use Rattle.action.specs.Action.{in_range}
use Rattle.action.specs.Operator.{join, RightCodes}
use Rattle.action.specs.declared.Action.{Action}
use Rattle.action.proofs.Ranged.{join-range}
use Rattle.row.proofs.RowLaws.{action-read}
use Rattle.row.specs.Row.{row_of, right_row_match, RightRow}
use Rattle.policy.specs.Numbers.{atom_length, node_length}
use Rattle.policy.specs.Sections.{own_of}
use Rattle.policy.specs.Due.{RightNode}
use Rattle.policy.specs.Meaning.{operator_at}
use Rattle.policy.proofs.Named.{right-codes}
use Rattle.policy.specs.Read.{read_of, nodes_at, operator_records, atom_records, node_records}
use Rattle.policy.specs.Read as read
use Rattle.policy.specs.File.{held, tree_of, atoms_of}
use Rattle.policy.specs.WellFormed.{WellFormed}
use Rattle.policy.specs.declared.Layout.{Layout}
use Rattle.policy.proofs.Accepted.{accepted-exactly, accepted-tree}
use Rattle.compile.specs.Compile.{compiled_rows}
use Rattle.compile.specs.Theorems.{RowsRight}

-- an atom whose match is right and whose rate lies in its range; its match may be empty
abbrev pub RightAtom : Row Match Action → Type 0
RightAtom r = (right_match r.matching ≡ true) × (in_range r.action ≡ true)

-- the nodes of a file with right codes and right atoms
held-good : (os : List (List ℕ)) (a : ℕ) → ((i : ℕ) → i < a → RightCodes (operator_at os i)) → (xs : List (Row Match Action)) → All RightAtom xs
    → (rs : List (List ℕ)) → ((i : ℕ) → i < length rs → RightNode a (get_or rs i [])) → All (λ n. GoodNode RightCodes RightAtom n.what) (held os xs rs)
held-good os a k xs f [] h = tt
held-good os a k xs f (r ∷ rs) h =
    let n : RightNode a r = h 0 (omega arith) in (
      record { inner = k _ n.inner; parent = k _ n.parent; sibling = k _ n.sibling; atoms = all_take RightAtom (own_of r) xs f },
      held-good os a k (drop (own_of r) xs) (all_drop RightAtom (own_of r) xs f) rs (λ i l. h (suc i) (omega arith)),
    )

module _ (f : List ℕ) (l : Layout) (e : read_of f ≡ Ok l) where
  -- the file's records, which reading has found right
  well : WellFormed f l
  well = (accepted-exactly f l).0 e

  pub right-atoms : All RightAtom (atoms_of f l)
  unfolding right_row_match
  right-atoms =
      let xs : List (List ℕ) = atom_records f l.operators l.atoms in
      let many : length xs ≡ l.atoms = length-records l.atoms atom_length (drop (read.atoms_at l.operators + 1) f) in
      all_map RightAtom row_of [] xs (λ i h. (well.otherwise.matches i (omega arith), action-read (get_or xs i []) (well.otherwise.actions i (omega arith))))

  -- so the nodes of its tree are good
  pub good : EveryNode (GoodNode RightCodes RightAtom) (tree_of f l)
  good =
      let os : List (List ℕ) = operator_records f l.operators in
      let ns : List (List ℕ) = node_records f l.operators l.atoms l.nodes in
      let many : length ns ≡ l.nodes = length-records l.nodes node_length (drop (nodes_at l.operators l.atoms + 1) f) in
      listed-every (GoodNode RightCodes RightAtom) (tree_of f l)
      (subst (All (λ n. GoodNode RightCodes RightAtom n.what)) (sym (accepted-tree f l e).lists)
      (held-good os l.operators (λ i h. right-codes (get_or os i []) (λ j. well.otherwise.cells i j h)) (atoms_of f l) right-atoms ns
      (λ i h. well.otherwise.right_nodes i (omega arith))))

-- EVERY ROW IS RIGHT
pub rows-right : RowsRight
unfolding compiled_rows
rows-right f l e =
    all_then _ RightRow (λ r h. record { matching = h.0.0; not_empty = h.1; action = h.0.1 }) (compiled_rows f l)
    (compile-every join common is_empty RightCodes RightAtom
    (λ o r s k p q. (common-right r.matching s.matching p.0 q.0, join-range o k r.action s.action p.1 q.1)) (tree_of f l) (good f l e))
