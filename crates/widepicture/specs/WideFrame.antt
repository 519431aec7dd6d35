-- Document 02, Order 4: the frame of the wide terminal is 65 rows of 264, left then right.
use Rattle.std.specs.Prelude.{ℕ, zero, suc, List, [], ◌++◌, take, drop}
use Rattle.constants.specs.Sizes.{width, frame_rows, wide_width}
use Rattle.bus.specs.Chip.{Chip}
use Rattle.picture.specs.Frame.{frame, row_of}
use Rattle.widebus.specs.Pair.{Pair}
use Rattle.widebus.specs.declared.selection.Side.{Side}

-- Rows 0 to h - 1, one after the other.
unfoldable pub row_by_row : ℕ → (ℕ → List ℕ) → List ℕ
row_by_row zero row = []
row_by_row (suc h) row = row_by_row h row ++ row h

-- Two frames of h rows w wide, side by side: each row is the left one's, then the right one's.
abbrev pub side_by_side : ℕ → ℕ → List ℕ → List ℕ → List ℕ
side_by_side w h left right = row_by_row h (λ y. row_of w y left ++ row_of w y right)

-- The frame of a chip.
abbrev pub frame_of : Chip → List ℕ
frame_of chip = frame chip.registers chip.memory

-- The wide frame.
unfoldable pub wide_frame : Pair Chip → List ℕ
wide_frame chips = side_by_side width frame_rows (frame_of chips.left) (frame_of chips.right)

-- The place of a row at which a chip's half begins.
abbrev pub first_column : Side → ℕ
first_column Side.Left = 0
first_column Side.Right = width

-- Row y of a chip's half: the 132 places that row y of a wide frame has from there on.
unfoldable pub half_row : Side → ℕ → List ℕ → List ℕ
half_row side y places = take width (drop (first_column side) (row_of wide_width y places))

-- A chip's half of a wide frame: its rows of 132 places, one after the other.
unfoldable pub half_of : Side → List ℕ → List ℕ
half_of side places = row_by_row frame_rows (λ y. half_row side y places)
