-- The call that draws one row: what it leaves of the lent part, as one function of what is lent.
use Rattle.std.specs.Prelude.{ℕ, Bool, cond, ◌&&◌, List, leb, ltb, eqb, length}
use Rattle.constants.specs.Sizes.{width, memory_size, frame_rows}
use Rattle.bus.specs.declared.registers.Registers.{Registers}
use Rattle.picture.specs.Scan.{row_shows}
use Rattle.picture.specs.Rows.{scan_of}
use Rattle.picture.specs.Frame.{segment, line}
use Rattle.picture.specs.declared.rows.PanelRow.{PanelRow}

-- The row is one of the frame's 65, the memory has 1,188 bytes, and the part is the 132 bytes of one row.
abbrev pub one_row : List ℕ → PanelRow → List ℕ → Bool
one_row memory row was = ltb row.0 frame_rows && leb memory_size (length memory) && eqb (length was) width

-- That row of the frame; else nothing is written.
unfoldable pub draw_line : Registers → List ℕ → PanelRow → List ℕ → List ℕ
draw_line r memory row was = cond (one_row memory row was) (line width (segment r memory (row_shows (scan_of r) row))) was
