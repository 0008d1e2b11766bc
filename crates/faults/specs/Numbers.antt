-- The number of a fault. See docs/NOTATION.md, "Faults".
use Rattle.std.specs.Prelude.{ℕ}
use Rattle.notation.specs.declared.fault.Fault.{Fault}
use Rattle.notation.specs.declared.fault.Reason.{Reason}
use Rattle.notation.specs.declared.fault.Reason.TheVariants as reasons
use Rattle.notation.specs.declared.fault.Wanted.{Wanted}
use Rattle.notation.specs.declared.fault.Wanted.TheVariants as wanted

-- the number where another word was wanted
abbrev pub wanted_number : Wanted → ℕ
wanted_number wanted.Start = 1
wanted_number wanted.OperatorName = 2
wanted_number wanted.Table = 3
wanted_number wanted.AllowHeading = 4
wanted_number wanted.DenyHeading = 5
wanted_number wanted.ReserveHeading = 6
wanted_number wanted.Cell = 7
wanted_number wanted.RateCell = 8
wanted_number wanted.TableEnd = 9
wanted_number wanted.NodeName = 10
wanted_number wanted.Block = 11
wanted_number wanted.Line = 12
wanted_number wanted.NodeOrEnd = 13
wanted_number wanted.Action = 14
wanted_number wanted.Rate = 15
wanted_number wanted.Unit = 16
wanted_number wanted.Match = 17
wanted_number wanted.Port = 18
wanted_number wanted.Protocol = 19
wanted_number wanted.Prefix = 20
wanted_number wanted.End = 21

-- the number of what is wrong
abbrev pub reason_number : Reason → ℕ
reason_number (reasons.Unexpected w) = wanted_number w
reason_number (reasons.Twice place) = 22
reason_number (reasons.Unknown place) = 23
reason_number (reasons.HostBits prefix) = 24
reason_number reasons.WrongRate = 25
reason_number reasons.TooManyOperators = 26
reason_number reasons.TooManyRules = 27
reason_number reasons.TooManyNodes = 28
reason_number reasons.TooDeep = 29
reason_number (reasons.Unclosed place) = 30

-- THE NUMBER OF A FAULT
abbrev pub fault_number : Fault → ℕ
fault_number f = reason_number f.reason
