-- Drawing asks the 1,188 bytes of a memory, and none that follow them.
-- Assumes nothing.
use mathlib.Core.Path.{◌≡◌, refl}
use mathlib.Core.List.{List, ◌++◌}
use Prim.Native.Nat.{ℕ, ◌/◌, ◌<◌}
use native.Mathlib.Omega.{arith}
use lib.ListN.{take, drop, take-append-drop}
use lib.Seq.{get_or-take}
use Rattle.constants.specs.Sizes.{width, memory_size, height, frame_rows}
use Rattle.bus.specs.Memory.{address}
use Rattle.bus.specs.declared.registers.Registers.{Registers}
use Rattle.picture.specs.Shown.{Shown}
use Rattle.picture.specs.Scan.{panel_row, column_of, row_shows}
use Rattle.picture.specs.Rows.{scan_of}
use Rattle.picture.specs.Frame.{bit, shown_bit, while_on, segment, line, frame}
use Rattle.picture.specs.Upright.{WithinRam}
use Rattle.picture.specs.declared.rows.PanelRow.{PanelRow}
use Rattle.picture.proofs.Lines.{line_same, grid_same}
use Rattle.picture.proofs.RamRows.{shows_within}
use Rattle.picture.proofs.Upright.{column_within}

-- a part that is as it was lent leaves all as it was
pub put_back : (n : ℕ) (was : List ℕ) {part : List ℕ} → part ≡ take n was → part ++ drop n was ≡ was
put_back n was e = rw e (take-append-drop n was)

module _ (r : Registers) (memory : List ℕ) where
  segment_first : (shown : Shown) (x : ℕ) → WithinRam height shown → x < width → segment r (take memory_size memory) shown x ≡ segment r memory shown x
  unfolding segment while_on shown_bit bit
  segment_first Shown.Dark x within l = refl
  segment_first (Shown.Ram row) x within l =
      let inside = column_within r.column_direction x l in
      let room : address (row.0 / 8) (column_of width r.column_direction x) < memory_size = omega arith in
      rw (get_or-take memory_size memory (address (row.0 / 8) (column_of width r.column_direction x)) 0 room)

  pub line_first : (row : PanelRow) → line width (segment r (take memory_size memory) (row_shows (scan_of r) row)) ≡ line width (segment r memory (row_shows (scan_of r) row))
  line_first row = line_same width _ _ (λ x l. segment_first (row_shows (scan_of r) row) x (shows_within (scan_of r) (omega arith) row) l)

  pub frame_first : frame r (take memory_size memory) ≡ frame r memory
  unfolding frame
  frame_first = grid_same width frame_rows _ _ (λ y x k l. segment_first (row_shows (scan_of r) (panel_row y)) x (shows_within (scan_of r) (omega arith) (panel_row y)) l)
