-- How the whole frame is drawn at once: what each row shows, and the memory as it is shown, from left to right and dark and lit as they are.
use Rattle.std.specs.Prelude.{ℕ, ◌*◌, ◌≤◌, ◌<◌, ◌≡◌, List, length, get_or, Option, None}
use Rattle.std.specs.Int.Bits.{bit_xor}
use Rattle.constants.specs.Sizes.{width, frame_rows}
use Rattle.bus.specs.Memory.{address}
use Rattle.bus.specs.declared.registers.Registers.{Registers}
use Rattle.picture.specs.Shown.{Shown, shown_of}
use Rattle.picture.specs.Scan.{panel_row, column_of, row_shows}
use Rattle.picture.specs.Rows.{scan_of}
use Rattle.picture.specs.Frame.{bit}
use Rattle.picture.specs.declared.rows.RamRow.{RamRow}

-- The RAM row that is shown, if any, is at most h.
abbrev pub WithinRam : ℕ → Shown → Type 0
WithinRam h Shown.Dark = Unit
WithinRam h (Shown.Ram row) = row.0 ≤ h

-- The RAM row that each row of the frame shows, or none.
pub record RowsOf (r : Registers) (rows : List (Option RamRow)) : Type 0 where
  pub all : length rows ≡ frame_rows
  pub each : (y : ℕ) → y < frame_rows → shown_of (get_or rows y None) ≡ row_shows (scan_of r) (panel_row y)

-- The byte of a page that segment x shows, by the column direction; reverse, 0 or 1, turns all its bits round.
unfoldable pub upright_byte : ℕ → ℕ → List ℕ → ℕ → ℕ → ℕ
upright_byte direction reverse memory p x = bit_xor (get_or memory (address p (column_of width direction x)) 0) (255 * reverse)

-- Segment x of a row by what it shows, from such a memory.
unfoldable pub seen : List ℕ → Shown → ℕ → ℕ
seen upright Shown.Dark x = 0
seen upright (Shown.Ram row) x = bit address upright row x
