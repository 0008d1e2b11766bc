-- The rows that an iterator over rows still has to give.
use Rattle.std.specs.Prelude.{List}
use Rattle.words.specs.Left.{left}
use Rattle.words.specs.declared.spelling.Records.{Records}
use Rattle.theory.specs.declared.Row.{Row}
use Rattle.flow.specs.declared.Match.{Match}
use Rattle.action.specs.declared.Action.{Action}
use Rattle.row.specs.Row.{rows_in}

abbrev pub rows_left : {R : Type 0} → Records R → List (Row Match Action)
rows_left s = rows_in (left s)
