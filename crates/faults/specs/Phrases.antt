-- The phrases of messages: what was wanted, and what to do. See docs/NOTATION.md, "Messages".
--
--   wanted_text   what was wanted
--   advice_text   what to do
use Rattle.std.specs.Prelude.{ℕ, List, codes}
use Rattle.notation.specs.declared.fault.Wanted.{Wanted}
use Rattle.notation.specs.declared.fault.Wanted.TheVariants as wanted
use Rattle.faults.specs.declared.cure.Advice.{Advice}
use Rattle.faults.specs.declared.cure.Advice.TheVariants as advice

-- what was wanted
abbrev pub wanted_text : Wanted → List ℕ
wanted_text wanted.Start = codes "`operator` or `node`"
wanted_text wanted.OperatorName = codes "a name for the operator"
wanted_text wanted.Table = codes "`{` before the operator's cells"
wanted_text wanted.AllowHeading = codes "the heading `allow`"
wanted_text wanted.DenyHeading = codes "the heading `deny`"
wanted_text wanted.ReserveHeading = codes "the heading `reserve`"
wanted_text wanted.Cell = codes "a cell: `allow`, `deny`, `left` or `right`"
wanted_text wanted.RateCell = codes "the last cell: `allow`, `deny`, `left`, `right`, `larger`, `smaller` or `sum`"
wanted_text wanted.TableEnd = codes "`}` behind the operator's nine cells"
wanted_text wanted.NodeName = codes "a name for the node"
wanted_text wanted.Block = codes "`inside`, `between`, `below` or `{`"
wanted_text wanted.Line = codes "a rule (NAME: ..), `node` or `}`"
wanted_text wanted.NodeOrEnd = codes "`node` or `}`"
wanted_text wanted.Action = codes "an action: `allow`, `deny`, `reserve` or `none`"
wanted_text wanted.Rate = codes "a rate, a number below 4,294,967,296"
wanted_text wanted.Unit = codes "a unit: `kbit/s`, `Mbit/s` or `Gbit/s`"
wanted_text wanted.Match = codes "a match: `any`, `never`, or `in`, a protocol, `from` or `to`"
wanted_text wanted.Port = codes "a port, a number of at most 65,535"
wanted_text wanted.Protocol = codes "a protocol, a number of at most 255"
wanted_text wanted.Prefix = codes "a prefix (as 10.7.0.0/16), an address or `port`"
wanted_text wanted.End = codes "the end of the text"

-- what to do
abbrev pub advice_text : Advice → List ℕ
advice_text advice.ByteOrderMark = codes "the text begins with a byte order mark; save it without one"
advice_text advice.Words = codes "this looks like a policy file in decimal words, which is no text of the notation"
advice_text advice.OwnCells = codes "sibling and parent have no cells of their own; give the operator another name"
advice_text advice.LetterFirst = codes "a name begins with a letter"
advice_text advice.NameBytes = codes "a name has letters, digits, - and _"
advice_text advice.NoBlanks = codes "a name has no blanks"
advice_text advice.Headings = codes "the headings are allow, deny, reserve, in this order"
advice_text advice.LastCell = codes "larger, smaller and sum stand only in the last cell"
advice_text advice.ClauseOrder = codes "they stand in the order inside, between, below"
advice_text advice.Label = codes "a rule has a name and : before its action"
advice_text advice.Colon = codes "is a : missing behind it?"
advice_text advice.PartOrder = codes "the parts of a match stand in the order in, protocol, from, to"
advice_text advice.OnePrefix = codes "a side has one prefix; write a rule for each"
advice_text advice.PortBefore = codes "write port before it"
advice_text advice.RulesFirst = codes "a node's rules stand before the nodes inside it"
advice_text advice.OperatorsFirst = codes "operators stand before the root"
advice_text advice.ReserveBefore = codes "write reserve before it"
advice_text advice.ActionFirst = codes "an action stands before the match"
advice_text advice.NoMarks = codes "write the number without marks"
advice_text advice.NoZeros = codes "write it without zeros before it"
advice_text advice.SmallerUnit = codes "write it in a smaller unit"
advice_text advice.UnitBlank = codes "put a blank before the unit"
advice_text advice.SideBefore = codes "write from or to before it"
advice_text advice.NumberBefore = codes "write in, protocol or port before it"
advice_text advice.AnyPacket = codes "write any for every packet"
advice_text advice.ProtocolName = codes "write it without protocol before it"
advice_text advice.Length = codes "a length is at most 32"
advice_text advice.Octets = codes "an address is four numbers of at most 255 with dots between them"
advice_text advice.AnyAddress = codes "leave the side out, or write its port alone"
advice_text advice.OneRoot = codes "a policy has one root; put the node inside it"
advice_text advice.TooManyEnds = codes "there is a } too many"
advice_text advice.RuleInside = codes "a rule stands inside the braces of its node"
advice_text advice.CloseNode = codes "a } is missing"
