-- What is answered to all the bytes that come in.
--
--   replies_then o more     the reply to a call that was found, and more for the bytes behind it
--   session_up_to n b       the replies to the first n calls of bytes
--   session b               the replies to all
use Rattle.std.specs.Prelude.{ℕ, zero, suc, List, [], ◌++◌, length, Option, Some, None}
use Rattle.calls.specs.Calls.{Call, reply_of}
use Rattle.calls.specs.Taken.{call_in}

-- the reply to a call that was found, and more for the bytes behind it; none where none was found
abbrev pub replies_then : Option Call × List ℕ → (List ℕ → List ℕ) → List ℕ
replies_then (None, rest) more = []
replies_then (Some call, rest) more = reply_of call ++ more rest

-- the replies to the first n calls
unfoldable pub session_up_to : ℕ → List ℕ → List ℕ
session_up_to zero b = []
session_up_to (suc n) b = replies_then (call_in b) (session_up_to n)

-- THE REPLIES to the calls that stand in bytes, call after call, up to where the bytes end or are no call. There are no
-- more calls than bytes. That it is the reply to the first call, and then those to the calls behind it, is SessionStep.
unfoldable pub session : List ℕ → List ℕ
session b = session_up_to (length b) b
