-- Document 00, demand 3, over the very definition of the frame that drawing meets.
use Rattle.std.specs.Prelude.{ℕ, ◌+◌, ◌-◌, ◌/◌, ◌%◌, ◌^◌, ◌≤◌, ◌<◌, ◌≡◌, ◌≢◌, ◌↔◌, true, cond, List, eqb, length, get_or, set}
use Rattle.std.specs.Int.Bits.{bit_xor}
use Rattle.constants.specs.Sizes.{width, memory_size, height, frame_rows}
use Rattle.bus.specs.Places.{start_line, on}
use Rattle.bus.specs.Registers.{image_of, power_on, ◌with◌≔◌}
use Rattle.bus.specs.Memory.{address}
use Rattle.bus.specs.Image.{legal}
use Rattle.bus.specs.declared.registers.Registers.{Registers}
use Rattle.picture.specs.Scan.{ram_row}
use Rattle.picture.specs.Rows.{rows_in_use}
use Rattle.picture.specs.Frame.{bit, turned, frame, row_of, place_of}
use Rattle.picture.specs.declared.rows.RamRow.{RamRow}

-- A setting with all 64 rows in use, the panel on and not forced all-lit; its registers are in their ranges.
pub record Full (r : Registers) : Type 0 where
  pub in_range : legal (image_of r) ≡ true
  pub all_rows : rows_in_use r ≡ height
  pub on : r.on ≡ 1
  pub not_lit : r.entire ≡ 0

-- The memory with the bit of a RAM row in a column flipped, and no other.
unfoldable pub flipped : RamRow → ℕ → List ℕ → List ℕ
flipped row column memory =
    set memory (address (row.0 / 8) column) (bit_xor (get_or memory (address (row.0 / 8) column) 0) (2 ^ (row.0 % 8)))

-- A bit shows in row y at segment x: flipping it changes that place, and no other, in every memory.
pub record ShowsAt (r : Registers) (row column y x : ℕ) : Type 0 where
  pub changes : (memory : List ℕ) → memory_size ≤ length memory → place_of width y x (frame r (flipped (ram_row row) column memory)) ≢ place_of width y x (frame r memory)
  pub no_other : (memory : List ℕ) → memory_size ≤ length memory → (y' x' : ℕ) → y' < frame_rows → x' < width → ((y' ≡ y) × (x' ≡ x) → ⊥)
      → place_of width y' x' (frame r (flipped (ram_row row) column memory)) ≡ place_of width y' x' (frame r memory)

-- A place is lit exactly when a bit, turned round by reverse, is 1, in every memory.
abbrev pub LitBy : Registers → ℕ → ℕ → ℕ → ℕ → Type 0
LitBy r row column y x = (memory : List ℕ) → (place_of width y x (frame r memory) ≡ 1) ↔ (turned r.reverse (bit address memory (ram_row row) column) ≡ 1)

-- A bit shows at exactly one place, which is lit by it.
pub record OnePlace (r : Registers) (row column : ℕ) : Type 0 where
  pub y : ℕ
  pub x : ℕ
  pub y_in : y < frame_rows
  pub x_in : x < width
  pub shows : ShowsAt r row column y x
  pub lit : LitBy r row column y x
  pub only : (y' x' : ℕ) → y' < frame_rows → x' < width → ShowsAt r row column y' x' → (y' ≡ y) × (x' ≡ x)

-- A place shows a bit, and is lit by it.
pub record SomeBit (r : Registers) (y x : ℕ) : Type 0 where
  pub row : ℕ
  pub column : ℕ
  pub row_in : row < frame_rows
  pub column_in : column < width
  pub shows : ShowsAt r row column y x
  pub lit : LitBy r row column y x

-- The start line raised by n, modulo 64.
unfoldable pub raised : ℕ → Registers → Registers
raised n r = r with start_line ≔ (r.start + n) % height

-- Raising the start line by n moves the dot rows up by n, round the 64, or down where rows are reversed, and the icon line stays.
pub record Scrolls (r : Registers) (n : ℕ) (memory : List ℕ) : Type 0 where
  pub up : r.row_direction ≡ 0 → (p : ℕ) → p < height → row_of width p (frame (raised n r) memory) ≡ row_of width ((p + n) % height) (frame r memory)
  pub down : r.row_direction ≡ 1 → (p : ℕ) → p < height → row_of width ((p + n) % height) (frame (raised n r) memory) ≡ row_of width p (frame r memory)
  pub icons : row_of width height (frame (raised n r) memory) ≡ row_of width height (frame r memory)

-- What a display memory can hold: 1,188 bytes.
pub record Content (memory : List ℕ) : Type 0 where
  pub size : length memory ≡ memory_size
  pub bytes : (i : ℕ) → get_or memory i 0 < 256

-- Start line plus offset where rows are normal, start line minus offset where they are reversed, modulo 64.
unfoldable pub scroll : Registers → ℕ
scroll r = cond (eqb r.row_direction 0) ((r.start + r.offset) % height) ((r.start + height - r.offset) % height)

-- Two settings agree in all that demand 3 names.
pub record Agree (r s : Registers) : Type 0 where
  pub columns : r.column_direction ≡ s.column_direction
  pub rows : r.row_direction ≡ s.row_direction
  pub reverse : r.reverse ≡ s.reverse
  pub line : scroll r ≡ scroll s

-- The demand.
pub record Demand3 : Type 0 where
  -- There is such a setting: power-on with the display on.
  pub once_on : Full (power_on with on ≔ 1)
  -- Each of the 8,580 memory bits shows at exactly one place of the frame, and each place shows a bit.
  pub each_bit : (r : Registers) → Full r → (row column : ℕ) → row < frame_rows → column < width → OnePlace r row column
  pub each_place : (r : Registers) → Full r → (y x : ℕ) → y < frame_rows → x < width → SomeBit r y x
  -- Raising the start line by any amount moves the rows.
  pub scrolls : (r : Registers) → Full r → (n : ℕ) (memory : List ℕ) → Scrolls r n memory
  -- Two settings draw the same frame from every memory content exactly when they agree.
  pub same : (r s : Registers) → Full r → Full s → ((memory : List ℕ) → Content memory → frame r memory ≡ frame s memory) ↔ Agree r s
