-- What is proved of where rows come from, over any matches, packets, actions and operators. A law of the same name in
-- proofs/ proves each statement: first-row proves FirstRow.
--
--   MeetsAs, MeetsNone    the atoms that a packet meets are those that the first row which it meets lies inside; where
--                         it meets no row, it meets no atom
--   FirstRow, NoRow       so it is with the compiled rows
--   FirstKept, NoneKept   and with those that stay once the hidden ones are out
--   RowsComeFrom          a row that stays comes from exactly the atoms that its match lies inside, and has the action
--                         of the tree over these alone
use Rattle.std.specs.Prelude.{ℕ, ◌<◌, ◌≡◌, Bool, false, List, length, slice_index_or}
use Rattle.logic.specs.Lists.{All}
use Rattle.theory.specs.declared.Row.{Row}
use Rattle.theory.specs.Rows.{matches_at}
use Rattle.theory.specs.Number.{FirstPlace}
use Rattle.theory.specs.Nodes.{list_tree, all_atoms}
use Rattle.theory.specs.Hidden.{staying}
use Rattle.theory.specs.Tree.{Tree, Node}
use Rattle.origins.specs.Marked.{InsideLaws, Identity, RightAtoms, rows, RowsFrom}

module _ {M P A O : Type 0} (meets : M → P → Bool) (inside : M → M → Bool) (common : M → M → M) (empty : M → Bool)
    (Right : M → Type 0) (joined : O → A → A → A) where
  -- where row i of a table is the first that a packet meets, the packet meets the atoms that the row lies inside, and
  -- no other
  abbrev pub MeetsAs : List (Row M A) → Tree (Node O M A) → P → Type 0
  MeetsAs N t p = (d : Row M A) (i : ℕ) → FirstPlace (matches_at meets d N p) (length N) i
      → All (λ x. meets x.matching p ≡ inside (slice_index_or N i d).matching x.matching) (all_atoms (list_tree t))

  -- where a packet meets no row of a table, it meets no atom
  abbrev pub MeetsNone : List (Row M A) → Tree (Node O M A) → P → Type 0
  MeetsNone N t p = (d : Row M A) → ((i : ℕ) → i < length N → matches_at meets d N p i ≡ false)
      → All (λ x. meets x.matching p ≡ false) (all_atoms (list_tree t))

  -- of the compiled rows
  abbrev pub FirstRow : Type 0
  FirstRow = InsideLaws meets inside common empty Right → (t : Tree (Node O M A)) → RightAtoms Right t
      → (p : P) → MeetsAs (rows joined common empty t) t p

  abbrev pub NoRow : Type 0
  NoRow = InsideLaws meets inside common empty Right → (t : Tree (Node O M A)) → RightAtoms Right t
      → (p : P) → MeetsNone (rows joined common empty t) t p

  -- of those that stay
  abbrev pub FirstKept : Type 0
  FirstKept = InsideLaws meets inside common empty Right → (t : Tree (Node O M A)) → RightAtoms Right t
      → (p : P) → MeetsAs (staying inside (rows joined common empty t)) t p

  abbrev pub NoneKept : Type 0
  NoneKept = InsideLaws meets inside common empty Right → (t : Tree (Node O M A)) → RightAtoms Right t
      → (p : P) → MeetsNone (staying inside (rows joined common empty t)) t p

  -- where the rows that stay come from
  abbrev pub RowsComeFrom : A → Type 0
  RowsComeFrom dont_care = InsideLaws meets inside common empty Right → Identity dont_care joined
      → (t : Tree (Node O M A)) → RightAtoms Right t → RowsFrom joined common empty t inside dont_care
