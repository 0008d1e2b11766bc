-- What is proved of the calls that are found in bytes, in proofs/Found.antt and proofs/Sessions.antt; all of it is the
-- contract of `theorems`.
--
--   CallFound     a call as it is sent is found
--   FoundCall     what is found is a call as it is sent
--   CallShorter   each call takes bytes
--   SessionStep   the replies are those to call after call
use Rattle.std.specs.Prelude.{ℕ, ◌≡◌, ◌+◌, ◌≤◌, List, ◌++◌, length, Some}
use Rattle.words.specs.Bytes.{word_bytes}
use Rattle.words.specs.Theorems.{EveryByte}
use Rattle.calls.specs.Calls.{Call, IsCall}
use Rattle.calls.specs.Taken.{call_in}
use Rattle.calls.specs.Session.{replies_then, session}

-- a call as it is sent is found, with what stands behind it left
abbrev pub CallFound : Type 0
CallFound = (call : Call) (sent rest : List ℕ) → IsCall call sent → call_in (sent ++ rest) ≡ (Some call, rest)

-- and what is found is a call as it is sent, with what is left behind it
abbrev pub FoundCall : Type 0
FoundCall = (bytes rest : List ℕ) (call : Call) → EveryByte bytes → call_in bytes ≡ (Some call, rest)
    → (sent : List ℕ) × IsCall call sent × (bytes ≡ sent ++ rest)

-- each call takes at least its number from the bytes
abbrev pub CallShorter : Type 0
CallShorter = (bytes rest : List ℕ) (call : Call) → call_in bytes ≡ (Some call, rest)
    → length rest + word_bytes ≤ length bytes

-- the replies are the one to the first call, and those to the calls behind it
abbrev pub SessionStep : Type 0
SessionStep = (bytes : List ℕ) → session bytes ≡ replies_then (call_in bytes) session

-- all of these
pub record Theorems : Type 0 where
  pub call_found : CallFound
  pub found_call : FoundCall
  pub call_shorter : CallShorter
  pub session_step : SessionStep
