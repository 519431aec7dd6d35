-- Document 01, "Command bytes (hex)": its table, row by row, with B9-BF after the pages that they do not name and document 02's test mode (Order 6) at its end, and how a byte is looked up in it.
use Rattle.std.specs.Prelude.{ℕ, ◌/◌, ◌%◌, cond, ◌&&◌, List, [], ◌∷◌, leb, eqb}
use Rattle.codes.specs.OneOf.{one_of}
use Rattle.codes.specs.declared.Command.{Command}

-- A row of the table: a command of one byte, any of those from the first to the last, or a command of two, a code and the n after it.
pub data Row : Type 0 where
  one : (first last : ℕ) → (ℕ → Command) → Row
  two : (code : ℕ) → (ℕ → Command) → Row

-- D3 takes an n of at most 3F.
unfoldable pub offset_of : ℕ → Command
offset_of n = cond (leb n 0x3F) (Command.Offset n) Command.NotAllowed

-- D4 takes 00, 10, 20 or 30.
unfoldable pub frame_phases_of : ℕ → Command
frame_phases_of n = cond (one_of (0x00 ∷ 0x10 ∷ 0x20 ∷ 0x30 ∷ []) n) (Command.FramePhases (n / 16)) Command.NotAllowed

-- The table of document 01 in its order, and the two rows that it has not, B9-BF and F0-FF; b is the command byte, n the byte after it.
unfoldable pub table : List Row
table =
    one 0x00 0x0F (λ b. Command.ColumnLow (b % 16)) ∷
    one 0x10 0x1F (λ b. Command.ColumnHigh (b % 16)) ∷
    one 0x20 0x27 (λ b. Command.ResistorRatio (b % 8)) ∷
    one 0x28 0x2F (λ b. Command.PowerControl (b % 8)) ∷
    one 0x40 0x7F (λ b. Command.StartLine (b % 64)) ∷
    two 0x81 (λ n. Command.Contrast (n % 64)) ∷
    one 0xA0 0xA1 (λ b. Command.ColumnDirection (b % 2)) ∷
    one 0xA2 0xA3 (λ b. Command.Bias (b % 2)) ∷
    one 0xA4 0xA5 (λ b. Command.EntireOn (b % 2)) ∷
    one 0xA6 0xA7 (λ b. Command.Reverse (b % 2)) ∷
    two 0xA8 (λ n. Command.Multiplex (n % 64)) ∷
    two 0xA9 (λ n. Command.HeldByte n) ∷
    one 0xAA 0xAB (λ b. Command.QuarterBias (b % 2)) ∷
    one 0xAC 0xAC (λ b. Command.IndicatorOff) ∷
    two 0xAD (λ n. Command.IndicatorMode (n % 4)) ∷
    one 0xAE 0xAF (λ b. Command.DisplayOn (b % 2)) ∷
    one 0xB0 0xB8 (λ b. Command.Page (b % 16)) ∷
    one 0xB9 0xBF (λ b. Command.NoPage) ∷
    one 0xC0 0xC7 (λ b. Command.RowDirection 0) ∷
    one 0xC8 0xCF (λ b. Command.RowDirection 1) ∷
    two 0xD3 offset_of ∷
    two 0xD4 frame_phases_of ∷
    one 0xE0 0xE0 (λ b. Command.EnterReadModifyWrite) ∷
    one 0xE2 0xE2 (λ b. Command.SoftwareReset) ∷
    one 0xE3 0xE3 (λ b. Command.Nothing) ∷
    one 0xEE 0xEE (λ b. Command.LeaveReadModifyWrite) ∷
    one 0xF0 0xFF (λ b. Command.TestMode) ∷
    []

-- The command that a byte is by the first row that has it; a code that wants n is awaited; a byte in no row is one of the remaining bytes outside.
unfoldable pub command_by : List Row → ℕ → Command
command_by [] b = Command.Outside
command_by (one first last means ∷ rows) b = cond (leb first b && leb b last) (means b) (command_by rows b)
command_by (two code gives ∷ rows) b = cond (eqb b code) (Command.Await b) (command_by rows b)

-- What n gives by the first row of two bytes that has the code; a code in no such row awaits no n.
unfoldable pub operand_by : List Row → ℕ → ℕ → Command
operand_by [] code n = Command.NotAwaited
operand_by (one first last means ∷ rows) code n = operand_by rows code n
operand_by (two awaited gives ∷ rows) code n = cond (eqb code awaited) (gives n) (operand_by rows code n)

unfoldable pub command_of : ℕ → Command
command_of = command_by table

unfoldable pub operand_of : ℕ → ℕ → Command
operand_of = operand_by table

-- What a command byte is: a command where no code is awaited, else the n of the awaited code, even if it looks like a command.
unfoldable pub meaning_of : ℕ → ℕ → Command
meaning_of awaited b = cond (eqb awaited 0) (command_of b) (operand_of awaited b)
