-- What a tested table tells of the words that were asked about. Assumes nothing.
use Prim.Native.Nat.{ℕ}
use mathlib.Core.Path.{◌≡◌, refl}
use mathlib.Core.List.{List}
use Rattle.std.specs.Prelude.{Ok}
use Rattle.table.specs.Table.{row_count, check_of, RightTable}
use Rattle.table.proofs.Tables.{check-exactly}

-- its words are right
pub tested-right : {ws ws' : List ℕ} → RightTable ws' → ws' ≡ ws → RightTable ws
tested-right t e = rw (← e) t

-- and the check passes them
pub tested-passes : {ws ws' : List ℕ} → RightTable ws' → ws' ≡ ws → check_of ws ≡ Ok (row_count ws)
tested-passes {ws} t e = (check-exactly ws (row_count ws)).1 (tested-right t e, refl)
