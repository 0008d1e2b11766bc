-- How a program ends.
use Rattle.std.specs.Prelude.{ℕ, None, Some}
use Rattle.std.specs.declared.option.Option.{Option}
use Rattle.std.specs.declared.io.Error.{Error}

-- the exit status where a read or a write failed; the script `list` has the same
abbrev pub no_answer : ℕ
no_answer = 2

-- the exit status, by the errors by which a read and a write failed
abbrev pub status_of : Option Error → Option Error → ℕ
status_of None None = 0
status_of None (Some error) = no_answer
status_of (Some error) write = no_answer
