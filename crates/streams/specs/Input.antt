-- What an input is after its buffers were filled.
--
--   read_failure i                  the error by which a read failed
--   left remaining i                the bytes that its reader has left, where they are known
--   NothingRead r i                 an input of the reader r from which nothing was read
--   ReadsBytes a b buf n            so many bytes were read to the start of a buffer
--   Reads remaining a b buf n       so many bytes were read, or a read failed
--   Fills remaining a b buf n       the same, and zeros stand behind them
use Rattle.std.specs.Prelude.{ℕ, ◌≡◌, ◌≤◌, ◌-◌, ◌⊎◌, ◌↔◌, ◌++◌, List, length, take, replicate}
use Rattle.std.specs.Prelude.{None, unwrap_or, IfSome, IsSome, IsNone}
use Rattle.std.specs.declared.option.Option.{Option}
use Rattle.std.specs.declared.io.Error.{Error}
use Rattle.std.specs.Io.KnownBytes.{Consumes, IsAtEnd}
use Rattle.streams.specs.Parts.{ConsumesPart, NotInterrupted}
use Rattle.streams.specs.declared.input.Input.{Input}

-- the error by which a read failed
abbrev pub read_failure : {R : Type 0} → Input R → Option Error
read_failure i = i.failure

-- the bytes that its reader has left, where they are known
abbrev pub left : {R : Type 0} → (R → Option (List ℕ)) → Input R → Option (List ℕ)
left remaining i = remaining i.inner

-- an input of a reader from which nothing was read
abbrev pub NothingRead : {R : Type 0} → R → Input R → Type 0
NothingRead r i = i ≡ record { inner = r; failure = None }

-- so many bytes were read to the start of a buffer: fewer than it has only at the end
pub record ReadsBytes (a b : Option (List ℕ)) (buf : List ℕ) (n : ℕ) : Type 0 where
  pub within : n ≤ length buf
  pub bytes : Consumes a b (take n buf)
  pub end : (n ≡ length buf) ⊎ IsAtEnd b

-- so many bytes were read, or a read failed
pub record Reads {R : Type 0} (remaining : R → Option (List ℕ)) (a b : Input R)
    (buf : List ℕ) (n : Option ℕ) : Type 0 where
  pub read : IfSome n (ReadsBytes (left remaining a) (left remaining b) buf)
  pub failed : IsNone n ↔ IsSome b.failure
  pub lost : IsNone a.failure → IsNone n → ConsumesPart (left remaining a) (left remaining b) (length buf)
  pub ended : IsSome a.failure → b ≡ a
  pub not_interrupted : IsNone a.failure → NotInterrupted b.failure

-- the same, and zeros stand behind them
pub record Fills {R : Type 0} (remaining : R → Option (List ℕ)) (a b : Input R)
    (buf : List ℕ) (n : Option ℕ) : Type 0 where
  pub reads : Reads remaining a b buf n
  pub behind : buf ≡ take (unwrap_or n 0) buf ++ replicate (length buf - unwrap_or n 0) 0
