-- What a recording says of the bus, event by event: a read event has the byte that the firmware read.
use Rattle.std.specs.Prelude.{ℕ, cond, ◌||◌, List, eqb}
use Rattle.constants.specs.Numbers.{read_differs}
use Rattle.bus.specs.Chip.{Chip, Event, command_byte, data_written, data_read, step}
use Rattle.bus.specs.Result.{Result, refuses, gives}
use Rattle.bus.specs.declared.registers.Registers.{Registers}
use Rattle.bus.specs.Answer.{Answer}

-- What was recorded: a bus event, or a read event with the byte that the firmware read.
pub data Recorded : Type 0 where
  event : Event → Recorded
  read_as : ℕ → Recorded

-- A command byte, and a data byte written, as recorded.
abbrev pub recorded_command : ℕ → Recorded
recorded_command byte = event (command_byte byte)

abbrev pub recorded_write : ℕ → Recorded
recorded_write byte = event (data_written byte)

-- The chip with these registers and this memory.
abbrev pub chip_of : Registers → List ℕ → Chip
chip_of r left = record { registers = r; memory = left }

-- The chip after an event.
unfoldable pub happened : Answer → List ℕ → Result Chip
happened (Answer.Taken after) memory = gives (chip_of after.registers memory)
happened (Answer.Refused number) memory = refuses number

-- A read is compared with the byte that the firmware read, a dummy read is not; one that differs has not happened.
unfoldable pub compared : ℕ → Answer → List ℕ → Result Chip
compared byte (Answer.Taken after) memory = cond (after.dummy || eqb after.byte byte) (gives (chip_of after.registers memory)) (refuses read_differs)
compared byte (Answer.Refused number) memory = refuses number

-- The chip after what was recorded.
unfoldable pub replay : Recorded → Chip → Result Chip
replay (event e) c = let outcome = step e c.registers c.memory in happened outcome.answer outcome.memory
replay (read_as byte) c = let outcome = step data_read c.registers c.memory in compared byte outcome.answer outcome.memory
