-- Document 01, "Sample events", 9 and 11 as document 02's Order 2 has them: the twelve as a single table over the meanings, from power-on with zero memory unless said.
use Rattle.std.specs.Prelude.{ℕ, ◌≡◌, cond, ◌&&◌, ◌||◌, List, [], ◌∷◌, ◌++◌, map, leb, eqb, get_or, replicate}
use Rattle.constants.specs.Sizes.{width, memory_size, frame_rows, frame_size}
use Rattle.bus.specs.Registers.{power_on}
use Rattle.bus.specs.Memory.{address}
use Rattle.bus.specs.Events.{number_of}
use Rattle.bus.specs.Chip.{Chip, Event, command_byte, data_written, step, after_events}
use Rattle.picture.specs.Scan.{ram_row}
use Rattle.picture.specs.Frame.{bit, line, grid, frame, row_of}
use Rattle.picture.specs.Demand3.{Full}

-- The chip at power-on, with a memory.
abbrev pub started : List ℕ → Chip
started content = record { registers = power_on; memory = content }

-- The chip after events from power-on with zero memory.
abbrev pub from_power_on : List Event → Chip
from_power_on events = after_events events (started (replicate memory_size 0))

-- A byte of its memory.
abbrev pub memory_byte : ℕ → Chip → ℕ
memory_byte place chip = get_or chip.memory place 0

-- The number that it gives an event.
unfoldable pub number_for : Event → Chip → ℕ
number_for event chip = number_of (step event chip.registers chip.memory).answer

-- The frame that it draws.
unfoldable pub picture : Chip → List ℕ
picture chip = frame chip.registers chip.memory

-- Command bytes one after the other.
abbrev pub commands : List ℕ → List Event
commands bytes = map command_byte bytes

-- After events, from power-on with any memory, panel row p shows RAM row n.
abbrev pub Shows : List Event → ℕ → ℕ → Type 0
Shows events p n = (memory : List ℕ) → row_of width p (picture (after_events events (started memory))) ≡ line width (bit address memory (ram_row n))

-- Events that several statements take.
abbrev pub to_last_column : List Event
to_last_column = commands (0x03 ∷ 0x18 ∷ [])

abbrev pub column_five : List Event
column_five = commands (0x05 ∷ 0x10 ∷ [])

abbrev pub two_writes : ℕ → ℕ → List Event
two_writes a b = data_written a ∷ data_written b ∷ []

abbrev pub start_three_offset_two : List Event
start_three_offset_two = commands (0x43 ∷ 0xD3 ∷ 0x02 ∷ 0xAF ∷ [])

pub record Samples : Type 0 where
  -- 1. Data 03: memory byte 0 is 03, column 1.
  pub sample1 : (memory_byte 0 (from_power_on (data_written 0x03 ∷ [])) ≡ 0x03) × ((from_power_on (data_written 0x03 ∷ [])).registers.column ≡ 1)
  -- 2. Commands 03 18 give column 131; data AA goes to byte 131, column 0, page 0.
  pub sample2 : ((from_power_on to_last_column).registers.column ≡ 131) × (memory_byte 131 (from_power_on (to_last_column ++ data_written 0xAA ∷ [])) ≡ 0xAA)
      × ((from_power_on (to_last_column ++ data_written 0xAA ∷ [])).registers.column ≡ 0) × ((from_power_on (to_last_column ++ data_written 0xAA ∷ [])).registers.page ≡ 0)
  -- 3. Commands 0F 18 give column 143; data AA: 7.
  pub sample3 : ((from_power_on (commands (0x0F ∷ 0x18 ∷ []))).registers.column ≡ 143) × (number_for (data_written 0xAA) (from_power_on (commands (0x0F ∷ 0x18 ∷ []))) ≡ 7)
  -- 4. B8 taken; B9: 4.
  pub sample4 : (number_for (command_byte 0xB8) (from_power_on []) ≡ 0) × (number_for (command_byte 0xB9) (from_power_on (commands (0xB8 ∷ []))) ≡ 4)
  -- 5. B8, data FF: byte 1,056 is 01.
  pub sample5 : memory_byte 1056 (from_power_on (command_byte 0xB8 ∷ data_written 0xFF ∷ [])) ≡ 0x01
  -- 6. Column 5, E0, two writes, EE: column 5. Without E0 and EE: 7.
  pub sample6 : (a b : ℕ) → ((from_power_on (column_five ++ command_byte 0xE0 ∷ two_writes a b ++ command_byte 0xEE ∷ [])).registers.column ≡ 5)
      × ((from_power_on (column_five ++ two_writes a b)).registers.column ≡ 7)
  -- 7. 81, data 00: 6; then C5: contrast 5.
  pub sample7 : (number_for (data_written 0x00) (from_power_on (commands (0x81 ∷ []))) ≡ 6) × ((from_power_on (command_byte 0x81 ∷ data_written 0x00 ∷ command_byte 0xC5 ∷ [])).registers.contrast ≡ 5)
  -- 8. D3 40: 5; then 3F: offset 63.
  pub sample8 : (number_for (command_byte 0x40) (from_power_on (commands (0xD3 ∷ []))) ≡ 5) × ((from_power_on (commands (0xD3 ∷ 0x40 ∷ 0x3F ∷ []))).registers.offset ≡ 63)
  -- 9. A8 0F, AF, A5: lit are panel rows 24 to 39 and the icons (Order 2).
  pub sample9 : picture (from_power_on (commands (0xA8 ∷ 0x0F ∷ 0xAF ∷ 0xA5 ∷ []))) ≡ grid width frame_rows (λ y x. cond ((leb 24 y && leb y 39) || eqb y 64) 1 0)
  -- 10. Start line 3, offset 2, M = 64: panel row 0 shows RAM row 5, row 63 shows 4. Rows reversed: 0 and 1.
  pub sample10 : Shows start_three_offset_two 0 5 × Shows start_three_offset_two 63 4 × Shows (start_three_offset_two ++ commands (0xC8 ∷ [])) 0 0 × Shows (start_three_offset_two ++ commands (0xC8 ∷ [])) 63 1
  -- 11. A8 0F, rows reversed: panel row 24 shows RAM row 15 (Order 2).
  pub sample11 : Shows (commands (0xA8 ∷ 0x0F ∷ 0xC8 ∷ 0xAF ∷ [])) 24 15
  -- 12. A5 with display off: all dark.
  pub sample12 : picture (from_power_on (commands (0xA5 ∷ []))) ≡ replicate frame_size 0

-- Demand 3 speaks of a setting that the chip reaches: AF from power-on.
abbrev pub Reached : Type 0
Reached = Full (from_power_on (commands (0xAF ∷ []))).registers
