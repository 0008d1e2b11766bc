-- Which numbers are given: one for each reason. Assumes nothing.
use Rattle.std.proofs.Common.{arith, inl, inr}
use Rattle.refusal.specs.Theorems.{NumbersGiven}
use Rattle.refusal.specs.declared.Reason.TheVariants.{ShortFile, WrongCount, WrongCell, WrongMatch, WrongAction, WrongNode, ExtraWords, NoTree}
use Rattle.refusal.specs.declared.Reason.TheVariants.{WrongSum, LawBroken, WrongPacket, NoRoom, NoScratch, WrongTable, WrongRow, ShortBuffer, WrongInput, WrongCapture, ShortAnswers, WrongBytes}

pub numbers-given : NumbersGiven
numbers-given ShortFile = inl (omega arith, omega arith)
numbers-given WrongCount = inl (omega arith, omega arith)
numbers-given WrongCell = inl (omega arith, omega arith)
numbers-given WrongMatch = inl (omega arith, omega arith)
numbers-given WrongAction = inl (omega arith, omega arith)
numbers-given WrongNode = inl (omega arith, omega arith)
numbers-given ExtraWords = inl (omega arith, omega arith)
numbers-given NoTree = inl (omega arith, omega arith)
numbers-given WrongSum = inl (omega arith, omega arith)
numbers-given (LawBroken f) = inl (omega arith, omega arith)
numbers-given WrongPacket = inl (omega arith, omega arith)
numbers-given NoRoom = inl (omega arith, omega arith)
numbers-given NoScratch = inl (omega arith, omega arith)
numbers-given WrongTable = inr (omega arith, omega arith)
numbers-given WrongRow = inr (omega arith, omega arith)
numbers-given ShortBuffer = inr (omega arith, omega arith)
numbers-given WrongInput = inr (omega arith, omega arith)
numbers-given WrongCapture = inr (omega arith, omega arith)
numbers-given ShortAnswers = inr (omega arith, omega arith)
numbers-given WrongBytes = inr (omega arith, omega arith)
