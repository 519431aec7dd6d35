-- Document 01, "Command bytes" and "Display memory": what each of the four events answers, and the memory that a write leaves.
use Rattle.std.specs.Prelude.{ℕ, ◌+◌, ◌*◌, ◌/◌, ◌%◌, Bool, true, false, cond, List, leb, ltb, eqb, length, get_or, set}
use Rattle.codes.specs.Table.{meaning_of}
use Rattle.codes.specs.declared.Command.{Command}
use Rattle.constants.specs.Sizes.{last_column, pages, memory_size}
use Rattle.constants.specs.Numbers.{taken, too_short, out_of_range, outside_table, no_page, not_allowed, code_awaited, column_above, test_mode}
use Rattle.bus.specs.Places.{page, column, start_line, offset, multiplex, contrast, ratio, power, bias, quarter, held, phases, column_direction, row_direction, entire, reverse, on, indicator, mode, awaited, modify, saved, fresh}
use Rattle.bus.specs.Registers.{◌with◌≔◌, power_on}
use Rattle.bus.specs.Memory.{address, kept, onward}
use Rattle.bus.specs.declared.registers.Registers.{Registers}
use Rattle.bus.specs.Answer.{Answer}

-- The number, the byte and the dummy mark that each case of an answer stands for.
unfoldable pub number_of : Answer → ℕ
number_of (Answer.Taken after) = taken
number_of (Answer.Refused number) = number

unfoldable pub byte_of : Answer → ℕ
byte_of (Answer.Taken after) = after.byte
byte_of (Answer.Refused number) = 0

unfoldable pub dummy_of : Answer → Bool
dummy_of (Answer.Taken after) = after.dummy
dummy_of (Answer.Refused number) = false

-- A taken event that is no read answers byte 0 and not "dummy".
abbrev pub silently : Registers → Answer
silently r = Answer.Taken (record { registers = r; byte = 0; dummy = false })

-- Every command byte taken sets fresh to 1.
abbrev pub command_taken : Registers → Answer
command_taken r = silently (r with fresh ≔ 1)

-- E2 sets these; the rest stays.
abbrev pub software_reset : Registers → Registers
software_reset r =
    r with page ≔ 0 with column ≔ 0 with start_line ≔ 0 with row_direction ≔ 0 with ratio ≔ 4 with contrast ≔ 32 with indicator ≔ 0 with mode ≔ 0 with modify ≔ 0 with saved ≔ 0

-- E0 enters read-modify-write, saving the column; no effect if already in it.
abbrev pub enter : Registers → Registers
enter r = cond (eqb r.modify 1) r (r with modify ≔ 1 with saved ≔ r.column)

-- EE leaves it, column := saved, saved := 0; no effect outside it.
abbrev pub leave : Registers → Registers
leave r = cond (eqb r.modify 1) (r with modify ≔ 0 with column ≔ r.saved with saved ≔ 0) r

-- What each command does, in the table's order; an n where the code is none of the seven is out of range, which a call has asked before.
unfoldable pub obeyed : Command → Registers → Answer
obeyed (Command.ColumnLow low) r = command_taken (r with column ≔ r.column / 16 * 16 + low)
obeyed (Command.ColumnHigh high) r = command_taken (r with column ≔ high * 16 + r.column % 16)
obeyed (Command.ResistorRatio value) r = command_taken (r with ratio ≔ value)
obeyed (Command.PowerControl value) r = command_taken (r with power ≔ value)
obeyed (Command.StartLine value) r = command_taken (r with start_line ≔ value)
obeyed (Command.Contrast value) r = command_taken (r with contrast ≔ value)
obeyed (Command.ColumnDirection value) r = command_taken (r with column_direction ≔ value)
obeyed (Command.Bias value) r = command_taken (r with bias ≔ value)
obeyed (Command.EntireOn value) r = command_taken (r with entire ≔ value)
obeyed (Command.Reverse value) r = command_taken (r with reverse ≔ value)
obeyed (Command.Multiplex value) r = command_taken (r with multiplex ≔ value)
obeyed (Command.HeldByte value) r = command_taken (r with held ≔ value)
obeyed (Command.QuarterBias value) r = command_taken (r with quarter ≔ value)
obeyed Command.IndicatorOff r = command_taken (r with indicator ≔ 0 with mode ≔ 0)
obeyed (Command.IndicatorMode value) r = command_taken (r with indicator ≔ 1 with mode ≔ value)
obeyed (Command.DisplayOn value) r = command_taken (r with on ≔ value)
obeyed (Command.Page value) r = command_taken (r with page ≔ value)
obeyed Command.NoPage r = Answer.Refused no_page
obeyed (Command.RowDirection value) r = command_taken (r with row_direction ≔ value)
obeyed (Command.Offset value) r = command_taken (r with offset ≔ value)
obeyed (Command.FramePhases value) r = command_taken (r with phases ≔ value)
obeyed Command.EnterReadModifyWrite r = command_taken (enter r)
obeyed Command.SoftwareReset r = command_taken (software_reset r)
obeyed Command.Nothing r = command_taken r
obeyed Command.LeaveReadModifyWrite r = command_taken (leave r)
obeyed (Command.Await code) r = command_taken (r with awaited ≔ code)
obeyed Command.NotAllowed r = Answer.Refused not_allowed
obeyed Command.NotAwaited r = Answer.Refused out_of_range
obeyed Command.TestMode r = Answer.Refused test_mode
obeyed Command.Outside r = Answer.Refused outside_table

-- A command byte: once it is taken the awaited code is 00, as it was where none was awaited, unless the byte itself is a code that awaits n.
unfoldable pub command : ℕ → Registers → Answer
command b r = obeyed (meaning_of r.awaited b) (r with awaited ≔ 0)

-- What a data write or read meets, at a memory of so many bytes: 6 while a code is awaited, then 7 with the column above 131. The first and the last case are for registers and memory that no call has asked (DECISIONS 21): 1 for a memory that is too short, 2 for a page that is none.
unfoldable pub access : Registers → ℕ → ℕ
access r size =
    cond (ltb size memory_size) too_short
    (cond (ltb r.page pages) (cond (eqb r.awaited 0) (cond (leb r.column last_column) taken column_above) code_awaited) out_of_range)

-- The registers with the column moved on.
abbrev pub moved : Registers → Registers
moved r = r with column ≔ onward r.column

-- A data byte written sets fresh to 1 and moves the column on.
unfoldable pub write : Registers → ℕ → Answer
write r size = cond (eqb (access r size) taken) (silently (moved r with fresh ≔ 1)) (Answer.Refused (access r size))

-- The memory after it: one byte is stored, and no other changes.
unfoldable pub written : ℕ → Registers → List ℕ → List ℕ
written b r memory = cond (eqb (access r (length memory)) taken) (set memory (address r.page r.column) (kept r.page b)) memory

-- The dummy read answers "dummy", byte 0, sets fresh to 0 and moves nothing.
abbrev pub dummy_read : Registers → Answer
dummy_read r = Answer.Taken (record { registers = r with fresh ≔ 0; byte = 0; dummy = true })

-- Any other read answers the byte and moves the column on, except in read-modify-write.
abbrev pub byte_read : Registers → List ℕ → Answer
byte_read r memory =
    Answer.Taken (record { registers = cond (eqb r.modify 1) r (moved r); byte = kept r.page (get_or memory (address r.page r.column) 0); dummy = false })

-- A data byte read.
unfoldable pub read : Registers → List ℕ → Answer
read r memory =
    cond (eqb (access r (length memory)) taken) (cond (eqb r.fresh 1) (dummy_read r) (byte_read r memory)) (Answer.Refused (access r (length memory)))

-- A pulse on the reset pin gives the power-on state.
unfoldable pub reset_pin : Registers → Answer
reset_pin r = silently power_on
