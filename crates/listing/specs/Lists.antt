-- What a run of the program reads and writes.
use Rattle.std.specs.Prelude.{ℕ, ◌≡◌, List, ◌++◌, drop, Some, IfSome, IsSome, IsNone}
use Rattle.std.specs.declared.option.Option.{Option}
use Rattle.std.specs.Io.KnownBytes.{Appends}
use Rattle.streams.specs.Parts.{AppendsStart, ConsumesPart}
use Rattle.streams.specs.declared.input.Input.{Input}
use Rattle.streams.specs.declared.output.Output.{Output}
use Rattle.streams.specs.Input.{read_failure, left, NothingRead}
use Rattle.streams.specs.Output.{write_failure, held, waiting, given, NothingPut, HandsOn}
use Rattle.text.specs.declared.TheConstants.{INPUT_ROOM}
use Rattle.text.specs.Listing.{listing_of}

-- WHAT IS LISTED: where no read and no write failed, the writer holds the whole listing of the whole input, behind what
-- had been put in. Where a write failed, what came is a start of it; where a read failed, nothing is put in or written.
-- No more of the input is read than an array of INPUT_ROOM bytes takes, and where a read failed, fewer.
pub record Lists {R W : Type 0} (remaining : R → Option (List ℕ)) (contents : W → Option (List ℕ))
    (before after : Input R) (a b : Output W) : Type 0 where
  pub whole :
      IsNone (read_failure after) → IsNone (write_failure b)
      → IfSome (left remaining before) (λ all. Appends (given contents a) (held contents b) (listing_of all))
  pub start :
      IsNone (read_failure after)
      → IfSome (left remaining before)
      (λ all. AppendsStart (held contents a) (held contents b) (waiting a ++ listing_of all))
  pub handed :
      IsNone (read_failure after)
      → IfSome (left remaining before) (λ all. HandsOn contents a (listing_of all) b)
  pub taken :
      IsNone (read_failure after)
      → IfSome (left remaining before) (λ all. left remaining after ≡ Some (drop INPUT_ROOM all))
  pub lost :
      IsNone (read_failure before) → IsSome (read_failure after)
      → ConsumesPart (left remaining before) (left remaining after) INPUT_ROOM
  pub ended : IsSome (read_failure before) → after ≡ before
  pub nothing : IsSome (read_failure after) → b ≡ a

-- WHAT THE PROGRAM DOES, by the bytes of its reader and its writer themselves: where its input and its output are new
-- and it ends with the status 0, the writer holds what it held, and then the listing of all that the reader had.
abbrev pub ListsAnew : {R W : Type 0} → (R → Option (List ℕ)) → (W → Option (List ℕ)) → Input R → Output W → Output W
    → ℕ → Type 0
ListsAnew {R} {W} remaining contents before a b status =
    (r : R) (w : W) → NothingRead r before → NothingPut w a → status ≡ 0
    → IfSome (remaining r) (λ all. Appends (contents w) (contents b.inner) (listing_of all))
