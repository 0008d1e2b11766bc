-- Refusals: the number of each reason, which stands here alone, and what a refusal tells beside it. See docs/FORMAT.md,
-- "Numbers a caller can get back".
--
--   law_broken          the number of a broken law
--   reason_number why   the number of a reason
--   failure_of why      the broken law and the actions that show it, if the reason is that
--   refusal_at why at   the refusal for a reason at a place
--   refusal_number r    the number of a refusal
--   answer_number x     the number of an answer, 0 where it is no refusal; answer_place x its place, so too
--   answer_failure x    the broken law that an answer names, if it does
use Rattle.std.specs.Prelude.{ℕ, Option, Some, None, Result, Ok, Err}
use Rattle.action.specs.declared.LawFailure.{LawFailure}
use Rattle.refusal.specs.declared.Reason.{Reason}
use Rattle.refusal.specs.declared.Reason.TheVariants.{ShortFile, WrongCount, WrongCell, WrongMatch, WrongAction, WrongNode}
use Rattle.refusal.specs.declared.Reason.TheVariants.{ExtraWords, NoTree, WrongSum, LawBroken, WrongPacket, NoRoom, NoScratch}
use Rattle.refusal.specs.declared.Reason.TheVariants.{WrongTable, WrongRow, ShortBuffer, WrongInput, WrongCapture, ShortAnswers, WrongBytes}
use Rattle.refusal.specs.declared.Refusal.{Refusal}

-- a law is broken
abbrev pub law_broken : ℕ
law_broken = 10

-- the number of each reason
abbrev pub reason_number : Reason → ℕ
reason_number ShortFile = 1
reason_number WrongCount = 2
reason_number WrongCell = 3
reason_number WrongMatch = 4
reason_number WrongAction = 5
reason_number WrongNode = 6
reason_number ExtraWords = 7
reason_number NoTree = 8
reason_number WrongSum = 9
reason_number (LawBroken f) = law_broken
reason_number WrongPacket = 11
reason_number NoRoom = 12
reason_number NoScratch = 13
reason_number WrongTable = 15
reason_number WrongRow = 16
reason_number ShortBuffer = 17
reason_number WrongInput = 18
reason_number WrongCapture = 19
reason_number ShortAnswers = 20
reason_number WrongBytes = 21

-- the broken law and the actions that show it, if the reason is that
abbrev pub failure_of : Reason → Option LawFailure
failure_of (LawBroken f) = Some f
failure_of why = None

-- the refusal for a reason at a place
abbrev pub refusal_at : Reason → ℕ → Refusal
refusal_at why at = record { reason = why; place = at }

-- the number of a refusal
abbrev pub refusal_number : Refusal → ℕ
refusal_number r = reason_number r.reason

-- the number of an answer: 0 where it is no refusal
abbrev pub answer_number : {X : Type 0} → Result X Refusal → ℕ
answer_number (Ok x) = 0
answer_number (Err r) = refusal_number r

-- the place of an answer: 0 where it is no refusal
abbrev pub answer_place : {X : Type 0} → Result X Refusal → ℕ
answer_place (Ok x) = 0
answer_place (Err r) = r.place

-- the broken law that an answer names, with the actions that show it
abbrev pub answer_failure : {X : Type 0} → Result X Refusal → Option LawFailure
answer_failure (Ok x) = None
answer_failure (Err r) = failure_of r.reason
