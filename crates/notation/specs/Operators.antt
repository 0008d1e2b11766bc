-- Reading an operator: its name, and its cells unless it is one of the two that are there from the start. See
-- docs/NOTATION.md, "Operators".
--
--   builtin_of                 the cells of sibling and parent
--   operator_place             where an operator of a name stands
--   new_name                   a name that was not given before
--   cell_at, line_at, table_at a cell, a line of three, and the nine cells in their braces
--   operator_at, operators_at  an operator behind its word, and all of them, where there is room for so many more
use Rattle.std.specs.Prelude.{ℕ, zero, suc, List, [], ◌∷◌, ◌++◌, Option, Some, None, Result, Ok}
use Rattle.std.specs.Prelude.{if◌then◌else◌, bytes_eq}
use Rattle.action.specs.Operator.{sibling, parent, largest_code, largest_rate_code}
use Rattle.tokens.specs.Tokens.{Token, word, at, next, is}
use Rattle.values.specs.Numbers.{up_to}
use Rattle.values.specs.Words.{code_of, is_name}
use Rattle.notation.specs.declared.fault.Fault.{Fault}
use Rattle.notation.specs.declared.fault.Reason.TheVariants.{Twice, TooManyOperators}
use Rattle.notation.specs.declared.fault.Wanted.{Wanted}
use Rattle.notation.specs.declared.fault.Wanted.TheVariants as wanted
use Rattle.notation.specs.Reads.{Read, ◌>>=◌, fails, wrong, taken, some_or}
use Rattle.notation.specs.Words.{operator_word, allow_word, deny_word, reserve_word, sibling_word, parent_word}
use Rattle.notation.specs.Words.{open_mark, close_mark}
use Rattle.notation.specs.Policy.{OperatorEntry}

-- the cells of the operators that are there from the start
unfoldable pub builtin_of : List ℕ → Option (List ℕ)
builtin_of w =
    if bytes_eq w sibling_word then Some sibling else (if bytes_eq w parent_word then Some parent else None)

-- where the operator of a name stands
abbrev pub operator_place : List ℕ → List OperatorEntry → Option ℕ
operator_place w [] = None
operator_place w (o ∷ os) = if bytes_eq o.name w then Some o.at else operator_place w os

-- a name that is not given yet: seen is the place of the same name
abbrev pub unseen : Option ℕ → List Token → Read (List ℕ)
unseen None ts = Ok (word ts, next ts)
unseen (Some place) ts = fails (Twice place) ts

-- a name that is one, and is not given yet
unfoldable pub new_name : Wanted → Option ℕ → List Token → Read (List ℕ)
new_name wanted seen ts = if is_name (word ts) then unseen seen ts else wrong wanted ts

-- a cell whose code is no more than the largest
unfoldable pub cell_at : ℕ → Wanted → List Token → Read ℕ
cell_at largest wanted ts = some_or wanted (up_to largest (code_of (word ts))) ts

-- a line: the word of the left action's kind, and three cells, of which the last may have other codes
unfoldable pub line_at : List ℕ → Wanted → ℕ → Wanted → List Token → Read (List ℕ)
line_at w heading largest last ts = do
  b ← taken w heading ts
  x ← cell_at largest_code wanted.Cell b
  y ← cell_at largest_code wanted.Cell x.1
  z ← cell_at largest last y.1
  Ok (x.0 ∷ y.0 ∷ z.0 ∷ [], z.1)

-- the words of the columns: the right action's kinds
unfoldable pub columns_at : List Token → Result (List Token) Fault
columns_at ts = do
  o ← taken open_mark wanted.Table ts
  a ← taken allow_word wanted.AllowHeading o
  d ← taken deny_word wanted.DenyHeading a
  taken reserve_word wanted.ReserveHeading d

-- the nine cells in their braces
unfoldable pub table_at : List Token → Read (List ℕ)
table_at ts = do
  c ← columns_at ts
  a ← line_at allow_word wanted.AllowHeading largest_code wanted.Cell c
  d ← line_at deny_word wanted.DenyHeading largest_code wanted.Cell a.1
  r ← line_at reserve_word wanted.ReserveHeading largest_rate_code wanted.RateCell d.1
  e ← taken close_mark wanted.TableEnd r.1
  Ok (a.0 ++ (d.0 ++ r.0), e)

-- the cells of an operator of a name: they are written, unless it is there from the start
abbrev pub cells_or : Option (List ℕ) → List Token → Read (List ℕ)
cells_or (Some cells) ts = Ok (cells, ts)
cells_or None ts = table_at ts

-- an operator behind its word
unfoldable pub operator_at : List OperatorEntry → List Token → Read OperatorEntry
operator_at os ts = do
  n ← new_name wanted.OperatorName (operator_place (word ts) os) ts
  c ← cells_or (builtin_of n.0) n.1
  Ok (record { name = n.0; at = at ts; cells = c.0 }, c.1)

-- the operators, where there is room for so many more
unfoldable pub operators_at : ℕ → List OperatorEntry → List Token → Read (List OperatorEntry)
operators_at zero os ts = if is operator_word ts then fails TooManyOperators ts else Ok (os, ts)
operators_at (suc room) os ts =
    if is operator_word ts
    then (operator_at os (next ts) >>= λ o. operators_at room (os ++ o.0 ∷ []) o.1)
    else Ok (os, ts)
