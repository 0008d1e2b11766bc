-- What a call that failed may have done to known bytes, and by which error it may fail.
use Rattle.std.specs.Prelude.{ℕ, ◌≢◌, ◌<◌, List, length, take, IfSome}
use Rattle.std.specs.declared.option.Option.{Option}
use Rattle.std.specs.declared.io.Error.{Error}
use Rattle.std.specs.declared.io.ErrorKind.TheVariants.{Interrupted}
use Rattle.std.specs.IoError.{error_kind}
use Rattle.std.specs.Io.KnownBytes.{Appends, Consumes}

-- the first bytes of a text came behind those that were held: none, some or all
abbrev pub AppendsStart : Option (List ℕ) → Option (List ℕ) → List ℕ → Type 0
AppendsStart a b text = (n : ℕ) × Appends a b (take n text)

-- the same, but not all came
abbrev pub AppendsPart : Option (List ℕ) → Option (List ℕ) → List ℕ → Type 0
AppendsPart a b text = (n : ℕ) × (n < length text) × Appends a b (take n text)

-- the first bytes of those that were left are gone: none or some, fewer than a buffer takes
abbrev pub ConsumesPart : Option (List ℕ) → Option (List ℕ) → ℕ → Type 0
ConsumesPart a b room = (bytes : List ℕ) × (length bytes < room) × Consumes a b bytes

-- an error that is kept is not that of a call that was interrupted
abbrev pub NotInterrupted : Option Error → Type 0
NotInterrupted failure = IfSome failure (λ error. error_kind error ≢ Interrupted)
