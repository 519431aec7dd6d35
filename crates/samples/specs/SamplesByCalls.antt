-- The twelve sample events once more, of the calls: each event's call on lent images, one after another, from the image of power-on with zero memory unless said, and the call that draws into any lent frame.
use Rattle.std.specs.Prelude.{ℕ, ◌≤◌, ◌<◌, ◌≡◌, cond, ◌&&◌, ◌||◌, List, [], ◌∷◌, ◌++◌, leb, eqb, length, get_or, drop, replicate}
use Rattle.constants.specs.Sizes.{width, memory_size, frame_rows, frame_size}
use Rattle.constants.specs.Numbers.{taken}
use Rattle.bus.specs.Places.{page, column, contrast, offset}
use Rattle.bus.specs.Registers.{image_of, power_on}
use Rattle.bus.specs.Memory.{address}
use Rattle.bus.specs.Chip.{Event, command_byte, data_written}
use Rattle.bus.specs.Calls.{call}
use Rattle.bus.specs.CallsOnChip.{Lent, after_calls}
use Rattle.picture.specs.Scan.{ram_row}
use Rattle.picture.specs.Frame.{bit, line, grid, row_of}
use Rattle.picture.specs.Draw.{drawn, draw}
use Rattle.samples.specs.Samples.{commands, to_last_column, column_five, two_writes, start_three_offset_two}

-- The state and memory that the calls of events leave, from the image of power-on with zero memory.
abbrev pub left : List Event → Lent
left events = after_calls events (image_of power_on) (replicate memory_size 0)

-- A byte of the state, at the place of a register, and a byte of the memory.
abbrev pub register : ℕ → Lent → ℕ
register place lent = get_or lent.state place 0

abbrev pub memory_byte : ℕ → Lent → ℕ
memory_byte place lent = get_or lent.memory place 0

-- The number that the next event's call answers.
abbrev pub answer_to : Event → Lent → ℕ
answer_to event lent = (call event lent.state lent.memory).reply.number

-- Drawing then is taken, and leaves these places in any lent frame, the bytes past them as they were.
abbrev pub Draws : List Event → List ℕ → Type 0
Draws events places = (was : List ℕ) → frame_size ≤ length was → draw (left events).state (left events).memory was ≡ drawn taken (places ++ drop frame_size was)

-- From power-on with any memory, panel row p of the frame that is drawn then shows RAM row n.
abbrev pub Shows : List Event → ℕ → ℕ → Type 0
Shows events p n = (memory was : List ℕ) → memory_size ≤ length memory → frame_size ≤ length was → row_of width p (draw (after_calls events (image_of power_on) memory).state (after_calls events (image_of power_on) memory).memory was).frame ≡ line width (bit address memory (ram_row n))

pub record SamplesByCalls : Type 0 where
  -- 1. Data 03: memory byte 0 is 03, column 1.
  pub sample1 : (memory_byte 0 (left (data_written 0x03 ∷ [])) ≡ 0x03) × (register column (left (data_written 0x03 ∷ [])) ≡ 1)
  -- 2. Commands 03 18 give column 131; data AA goes to byte 131, column 0, page 0.
  pub sample2 : (register column (left to_last_column) ≡ 131) × (memory_byte 131 (left (to_last_column ++ data_written 0xAA ∷ [])) ≡ 0xAA)
      × (register column (left (to_last_column ++ data_written 0xAA ∷ [])) ≡ 0) × (register page (left (to_last_column ++ data_written 0xAA ∷ [])) ≡ 0)
  -- 3. Commands 0F 18 give column 143; data AA: 7.
  pub sample3 : (register column (left (commands (0x0F ∷ 0x18 ∷ []))) ≡ 143) × (answer_to (data_written 0xAA) (left (commands (0x0F ∷ 0x18 ∷ []))) ≡ 7)
  -- 4. B8 taken; B9: 4.
  pub sample4 : (answer_to (command_byte 0xB8) (left []) ≡ 0) × (answer_to (command_byte 0xB9) (left (commands (0xB8 ∷ []))) ≡ 4)
  -- 5. B8, data FF: byte 1,056 is 01.
  pub sample5 : memory_byte 1056 (left (command_byte 0xB8 ∷ data_written 0xFF ∷ [])) ≡ 0x01
  -- 6. Column 5, E0, two writes, EE: column 5. Without E0 and EE: 7.
  pub sample6 : (a b : ℕ) → a < 256 → b < 256 → (register column (left (column_five ++ command_byte 0xE0 ∷ two_writes a b ++ command_byte 0xEE ∷ [])) ≡ 5)
      × (register column (left (column_five ++ two_writes a b)) ≡ 7)
  -- 7. 81, data 00: 6; then C5: contrast 5.
  pub sample7 : (answer_to (data_written 0x00) (left (commands (0x81 ∷ []))) ≡ 6) × (register contrast (left (command_byte 0x81 ∷ data_written 0x00 ∷ command_byte 0xC5 ∷ [])) ≡ 5)
  -- 8. D3 40: 5; then 3F: offset 63.
  pub sample8 : (answer_to (command_byte 0x40) (left (commands (0xD3 ∷ []))) ≡ 5) × (register offset (left (commands (0xD3 ∷ 0x40 ∷ 0x3F ∷ []))) ≡ 63)
  -- 9. A8 0F, AF, A5: lit are panel rows 24 to 39 and the icons (Order 2).
  pub sample9 : Draws (commands (0xA8 ∷ 0x0F ∷ 0xAF ∷ 0xA5 ∷ [])) (grid width frame_rows (λ y x. cond ((leb 24 y && leb y 39) || eqb y 64) 1 0))
  -- 10. Start line 3, offset 2, M = 64: panel row 0 shows RAM row 5, row 63 shows 4. Rows reversed: 0 and 1.
  pub sample10 : Shows start_three_offset_two 0 5 × Shows start_three_offset_two 63 4 × Shows (start_three_offset_two ++ commands (0xC8 ∷ [])) 0 0 × Shows (start_three_offset_two ++ commands (0xC8 ∷ [])) 63 1
  -- 11. A8 0F, rows reversed: panel row 24 shows RAM row 15 (Order 2).
  pub sample11 : Shows (commands (0xA8 ∷ 0x0F ∷ 0xC8 ∷ 0xAF ∷ [])) 24 15
  -- 12. A5 with display off: all dark.
  pub sample12 : Draws (commands (0xA5 ∷ [])) (replicate frame_size 0)
