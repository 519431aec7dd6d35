-- Document 01, "The frame": what each place shows, and the frame as one definition of registers and memory.
use Rattle.std.specs.Prelude.{ℕ, zero, suc, ◌+◌, ◌*◌, ◌/◌, ◌%◌, ◌^◌, cond, List, [], ◌∷◌, ◌++◌, eqb, get_or, take, drop}
use Rattle.constants.specs.Sizes.{width, frame_rows}
use Rattle.bus.specs.Memory.{address}
use Rattle.bus.specs.declared.registers.Registers.{Registers}
use Rattle.picture.specs.Scan.{panel_row, row_shows, column_of}
use Rattle.picture.specs.Rows.{scan_of}
use Rattle.picture.specs.declared.rows.RamRow.{RamRow}
use Rattle.picture.specs.Shown.{Shown}

-- Bit b of page p is RAM row 8p + b, bit 0 the least: the bit of a RAM row in a column, where a rule says at which byte a page and a column lie.
unfoldable pub bit : (ℕ → ℕ → ℕ) → List ℕ → RamRow → ℕ → ℕ
bit place memory row column = get_or memory (place (row.0 / 8) column) 0 / 2 ^ (row.0 % 8) % 2

-- Reverse, 0 or 1, turns a bit round.
unfoldable pub turned : ℕ → ℕ → ℕ
turned reverse b = (b + reverse) % 2

-- Segment x of a RAM row as it is shown.
unfoldable pub shown_bit : Registers → List ℕ → RamRow → ℕ → ℕ
shown_bit r memory row x = turned r.reverse (bit address memory row (column_of width r.column_direction x))

-- Segment x of a row while the display is on. A dark row is not turned round; entire on lights any other, reverse or no.
unfoldable pub while_on : Registers → List ℕ → Shown → ℕ → ℕ
while_on r memory Shown.Dark x = 0
while_on r memory (Shown.Ram row) x = cond (eqb r.entire 1) 1 (shown_bit r memory row x)

-- Segment x of a row: 0 dark, 1 lit. Display off makes all dark, before any other rule.
unfoldable pub segment : Registers → List ℕ → Shown → ℕ → ℕ
segment r memory shown x = cond (eqb r.on 0) 0 (while_on r memory shown x)

-- A row of w places.
unfoldable pub line : ℕ → (ℕ → ℕ) → List ℕ
line zero f = []
line (suc w) f = line w f ++ f w ∷ []

-- Rows 0 to h - 1 of w places each, one after the other.
unfoldable pub grid : ℕ → ℕ → (ℕ → ℕ → ℕ) → List ℕ
grid w zero f = []
grid w (suc h) f = grid w h f ++ line w (f h)

-- The frame: panel rows 0 to 63, then the icon line, each 132 wide.
unfoldable pub frame : Registers → List ℕ → List ℕ
frame r memory = grid width frame_rows (λ y. segment r memory (row_shows (scan_of r) (panel_row y)))

-- Row y of a frame of rows w wide.
unfoldable pub row_of : ℕ → ℕ → List ℕ → List ℕ
row_of w y places = take w (drop (y * w) places)

-- What stands in row y at segment x of such a frame.
unfoldable pub place_of : ℕ → ℕ → ℕ → List ℕ → ℕ
place_of w y x places = get_or places (y * w + x) 0
