-- Laws on the frame: its length, each of its rows and places, and what decides two frames.
-- Assumes nothing.
use mathlib.Core.Path.{◌≡◌, sym, ◌∙◌, ap}
use mathlib.Core.List.{List}
use Prim.Native.Nat.{ℕ, ◌*◌, ◌<◌}
use native.Mathlib.Nat.{add-zero, mod-mod}
use lib.ListN.{length, get_or, drop, replicate}
use lib.Seq.{get_or-take, get_or-drop}
use Rattle.constants.specs.Sizes.{width, frame_rows, frame_size}
use Rattle.bus.specs.Memory.{address}
use Rattle.bus.specs.declared.registers.Registers.{Registers}
use Rattle.picture.specs.Scan.{panel_row, ram_row, row_shows, column_of}
use Rattle.picture.specs.Rows.{scan_of}
use Rattle.picture.specs.Frame.{bit, turned, shown_bit, while_on, segment, line, frame, row_of, place_of}
use Rattle.picture.specs.declared.rows.RamRow.{RamRow}
use Rattle.picture.proofs.Lines.{line_same, line_at, grid_length, grid_row, grid_same, grid_alike}
use Rattle.picture.specs.Shown.{Shown}

pub frame_length : (r : Registers) (memory : List ℕ) → length (frame r memory) ≡ frame_size
unfolding frame
frame_length r memory = grid_length width frame_rows _

pub frame_row : (r : Registers) (memory : List ℕ) (y : ℕ) → y < frame_rows → row_of width y (frame r memory) ≡ line width (segment r memory (row_shows (scan_of r) (panel_row y)))
unfolding frame row_of
frame_row r memory y l = grid_row width frame_rows _ y l

pub frame_place : (r : Registers) (memory : List ℕ) (y x : ℕ) → y < frame_rows → x < width → place_of width y x (frame r memory) ≡ segment r memory (row_shows (scan_of r) (panel_row y)) x
unfolding row_of place_of
frame_place r memory y x l k =
    sym (get_or-drop (y * width) (frame r memory) x 0) ∙
    sym (get_or-take width (drop (y * width) (frame r memory)) x 0 k) ∙
    ap (λ row. get_or row x 0) (frame_row r memory y l) ∙
    line_at width (segment r memory (row_shows (scan_of r) (panel_row y))) x k

-- where the display is on and not forced all-lit, a RAM row shows its bits
pub bits_show : (r : Registers) (memory : List ℕ) (row : RamRow) (x : ℕ) → r.on ≡ 1 → r.entire ≡ 0 → segment r memory (Shown.Ram row) x ≡ shown_bit r memory row x
unfolding segment while_on
bits_show r memory row x on entire = rw (on, entire)

-- with columns normal and not reversed, they are the memory's own
pub row_plain : (r : Registers) (memory : List ℕ) (p n : ℕ) → p < frame_rows → r.on ≡ 1 → r.entire ≡ 0 → r.column_direction ≡ 0 → r.reverse ≡ 0 → row_shows (scan_of r) (panel_row p) ≡ Shown.Ram (ram_row n) → row_of width p (frame r memory) ≡ line width (bit address memory (ram_row n))
unfolding bit shown_bit column_of turned
row_plain r memory p n l on entire columns reverse shows =
    frame_row r memory p l ∙
    line_same width _ _ (λ x k. rw shows (bits_show r memory (ram_row n) x on entire ∙ rw (columns, reverse, add-zero, mod-mod)))

-- display off makes all dark
pub off_dark : (r : Registers) (memory : List ℕ) → r.on ≡ 0 → frame r memory ≡ replicate frame_size 0
unfolding frame segment
off_dark r memory off = grid_same width frame_rows _ _ (λ y x l k. rw off) ∙ grid_alike width frame_rows 0
