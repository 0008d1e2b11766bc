-- What is answered to an input.
--
--   Turn           one call was taken from the input, its reply was given, and all was handed on
--   Turned         so many turns, one behind the other, and it went on behind each
--   TurnsOut       turns, up to one behind which it does not go on
--   AnswersAll     the replies to all calls of the input, call after call
use Rattle.std.specs.Prelude.{ℕ, ◌≡◌, ◌<◌, ◌+◌, ◌-◌, ◌^◌, ◌&&◌, Bool, true, false, List, ◌++◌, length}
use Rattle.std.specs.Prelude.{IfSome, IsNone, is_some, is_none}
use Rattle.std.specs.declared.option.Option.{Option}
use Rattle.std.specs.Io.KnownBytes.{Appends}
use Rattle.streams.specs.Parts.{AppendsStart}
use Rattle.streams.specs.declared.input.Input.{Input}
use Rattle.streams.specs.declared.output.Output.{Output}
use Rattle.streams.specs.Input.{read_failure, left}
use Rattle.streams.specs.Output.{write_failure, held, waiting, given, HandsOn}
use Rattle.calls.specs.Calls.{Call}
use Rattle.calls.specs.Taken.{call_in, Takes, reply_to}
use Rattle.calls.specs.Session.{session}

-- one call, or none, was taken, its reply was put in and handed on; it goes on if there was one and no write failed
pub record Turn {R W : Type 0} (remaining : R → Option (List ℕ)) (contents : W → Option (List ℕ))
    (a b : Input R) (s t : Output W) (on : Bool) : Type 0 where
  pub call : Option Call
  pub taken : Takes remaining call_in a b call
  pub handed : HandsOn contents s (reply_to call) t
  pub told : on ≡ (is_some call && is_none (write_failure t))

-- so many turns were made, each from the input and the output that the one before left, and it went on behind each
pub data Turned {R W : Type 0} (remaining : R → Option (List ℕ)) (contents : W → Option (List ℕ))
    (a : Input R) (s : Output W) : ℕ → Input R → Output W → Type 0 where
  no_turn : Turned remaining contents a s 0 a s
  one_more : {n : ℕ} {b c : Input R} {t u : Output W} → Turned remaining contents a s n b t
      → Turn remaining contents b c t u true → Turned remaining contents a s (n + 1) c u

-- turns were made up to the first behind which it does not go on, or as many as are made at most, and nothing else was
-- done: so a reply is handed on before the next call is taken, and none is taken behind a failed read or write
pub data TurnsOut {R W : Type 0} (remaining : R → Option (List ℕ)) (contents : W → Option (List ℕ))
    (a : Input R) (s : Output W) : Input R → Output W → Type 0 where
  stopped : {n : ℕ} {b c : Input R} {t u : Output W} → Turned remaining contents a s n b t
      → Turn remaining contents b c t u false → TurnsOut remaining contents a s c u
  used_up : {b : Input R} {t : Output W} → Turned remaining contents a s (2 ^ 64 - 1) b t
      → TurnsOut remaining contents a s b t

-- WHAT IS ANSWERED: turn after turn is made. Where no read and no write failed, the writer holds the replies to all
-- calls of the whole input, up to where it ends or is no call, behind what had been put in. Where one failed, what came
-- is a start of them.
pub record AnswersAll {R W : Type 0} (remaining : R → Option (List ℕ)) (contents : W → Option (List ℕ))
    (before after : Input R) (a b : Output W) : Type 0 where
  pub turns : TurnsOut remaining contents before a after b
  pub whole :
      IsNone (read_failure after) → IsNone (write_failure b)
      → IfSome (left remaining before)
      (λ all. length all < 2 ^ 64 → Appends (given contents a) (held contents b) (session all))
  pub start :
      IfSome (left remaining before)
      (λ all. AppendsStart (held contents a) (held contents b) (waiting a ++ session all))
