-- The range of the value that a named command carries.
use Rattle.std.specs.Prelude.{ℕ, ◌<◌, ◌≡◌, true, List, [], ◌∷◌}
use Rattle.codes.specs.Table.{Row, one, two, table, meaning_of}
use Rattle.codes.specs.OneOf.{one_of}
use Rattle.codes.specs.declared.Command.{Command}

-- The codes of the table's rows of two bytes.
unfoldable pub codes_of : List Row → List ℕ
codes_of [] = []
codes_of (one first last means ∷ rows) = codes_of rows
codes_of (two code gives ∷ rows) = code ∷ codes_of rows

-- A command carries a value in its range.
abbrev pub CommandInRange : Command → Type 0
CommandInRange (Command.ColumnLow low) = low < 16
CommandInRange (Command.ColumnHigh high) = high < 16
CommandInRange (Command.ResistorRatio ratio) = ratio < 8
CommandInRange (Command.PowerControl power) = power < 8
CommandInRange (Command.StartLine line) = line < 64
CommandInRange (Command.Contrast contrast) = contrast < 64
CommandInRange (Command.ColumnDirection direction) = direction < 2
CommandInRange (Command.Bias bias) = bias < 2
CommandInRange (Command.EntireOn entire) = entire < 2
CommandInRange (Command.Reverse reverse) = reverse < 2
CommandInRange (Command.Multiplex multiplex) = multiplex < 64
CommandInRange (Command.HeldByte byte) = byte < 256
CommandInRange (Command.QuarterBias bias) = bias < 2
CommandInRange Command.IndicatorOff = Unit {0}
CommandInRange (Command.IndicatorMode mode) = mode < 4
CommandInRange (Command.DisplayOn on) = on < 2
CommandInRange (Command.Page page) = page < 9
CommandInRange Command.NoPage = Unit {0}
CommandInRange (Command.RowDirection direction) = direction < 2
CommandInRange (Command.Offset offset) = offset < 64
CommandInRange (Command.FramePhases phases) = phases < 4
CommandInRange Command.EnterReadModifyWrite = Unit {0}
CommandInRange Command.SoftwareReset = Unit {0}
CommandInRange Command.Nothing = Unit {0}
CommandInRange Command.LeaveReadModifyWrite = Unit {0}
CommandInRange (Command.Await code) = one_of (codes_of table) code ≡ true
CommandInRange Command.NotAllowed = Unit {0}
CommandInRange Command.NotAwaited = Unit {0}
CommandInRange Command.TestMode = Unit {0}
CommandInRange Command.Outside = Unit {0}

-- Every command byte, named, carries a value in its range, whatever code is awaited.
abbrev pub InRange : Type 0
InRange = (awaited b : ℕ) → b < 256 → CommandInRange (meaning_of awaited b)
