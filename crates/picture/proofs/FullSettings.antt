-- Demand 3's settings of this chip: what they hold of the registers, and what each place of the frame then shows.
-- Assumes nothing.
use mathlib.Core.Path.{◌≡◌, ◌∙◌, ap}
use mathlib.Core.List.{List}
use Prim.Native.Nat.{ℕ, ◌%◌, ◌<◌}
use native.Mathlib.Omega.{arith}
use lib.Dec.{eqb}
use Rattle.constants.specs.Sizes.{width, height, frame_rows}
use Rattle.bus.specs.Places
use Rattle.bus.specs.Registers.{largest_values}
use Rattle.bus.specs.Memory.{address}
use Rattle.bus.proofs.Kept.{legal_facts, bound}
use Rattle.bus.specs.declared.registers.Registers.{Registers}
use Rattle.picture.specs.Scan.{panel_row, ram_row, row_shows, column_of}
use Rattle.picture.specs.Rows.{rows_in_use, shift, scan_of}
use Rattle.picture.specs.Frame.{bit, turned, shown_bit, frame, place_of}
use Rattle.picture.specs.Demand3.{Full, scroll}
use Rattle.picture.proofs.Bijection.{Bijection}
use Rattle.picture.proofs.Turns.{turn_of, back_of, amount, amount_below}
use Rattle.picture.proofs.Places.{frame_place, bits_show}
use Rattle.picture.specs.Shown.{Shown}
use Rattle.picture.proofs.AllRows.{leaving_icons, rows_bijection, scroll_of, rows_shown}

-- what demand 3's settings hold of the registers that a frame depends on
pub record Bounds (r : Registers) : Type 0 where
  pub start : r.start < height
  pub offset : r.offset < height
  pub columns : r.column_direction < 2
  pub rows : r.row_direction < 2
  pub reverse : r.reverse < 2
  pub all_rows : rows_in_use r ≡ height
  pub on : r.on ≡ 1
  pub entire : r.entire ≡ 0

pub bounds : (r : Registers) → Full r → Bounds r
unfolding largest_values
bounds r full =
    let held = bound r (legal_facts r full.in_range) in
    record {
      start = omega (arith, held Places.start_line (omega arith));
      offset = omega (arith, held Places.offset (omega arith));
      columns = omega (arith, held Places.column_direction (omega arith));
      rows = omega (arith, held Places.row_direction (omega arith));
      reverse = omega (arith, held Places.reverse (omega arith));
      all_rows = full.all_rows;
      on = full.on;
      entire = full.not_lit;
    }

pub scroll_below : (r : Registers) → scroll r < height
unfolding scroll
scroll_below r = amount_below height (eqb r.row_direction 0) r.start r.offset (omega arith)

-- the RAM row that a row of the frame shows, and the row of the frame that shows a RAM row
abbrev pub ram_of : Registers → ℕ → ℕ
ram_of r = leaving_icons height (turn_of height (eqb r.row_direction 0) (scroll r))

abbrev pub row_showing : Registers → ℕ → ℕ
row_showing r = leaving_icons height (back_of height (eqb r.row_direction 0) (scroll r))

pub rows_both_ways : (r : Registers) → Bijection frame_rows (ram_of r) (row_showing r)
rows_both_ways r = rows_bijection height (eqb r.row_direction 0) (scroll r) (scroll_below r)

module _ (r : Registers) (b : Bounds r) where
  -- this chip's shift, with all rows in use, is the offset modulo 64
  full_shift : shift r % height ≡ r.offset
  full_shift = omega (arith, b.offset, b.all_rows)

  full_scroll : scroll_of (scan_of r) ≡ scroll r
  unfolding scroll
  full_scroll = ap (amount height (eqb r.row_direction 0) r.start) full_shift

  pub row_shows_lem : (y : ℕ) → row_shows (scan_of r) (panel_row y) ≡ Shown.Ram (ram_row (ram_of r y))
  row_shows_lem y = rows_shown (scan_of r) b.all_rows b.start y ∙ ap (λ c. Shown.Ram (ram_row (leaving_icons height (turn_of height (eqb r.row_direction 0) c) y))) full_scroll

  -- what stands at a place
  pub place_shows : (memory : List ℕ) (y x : ℕ) → y < frame_rows → x < width → place_of width y x (frame r memory) ≡ turned r.reverse (bit address memory (ram_row (ram_of r y)) (column_of width r.column_direction x))
  unfolding shown_bit
  place_shows memory y x l k = frame_place r memory y x l k ∙ rw (row_shows_lem y) (bits_show r memory (ram_row (ram_of r y)) x b.on b.entire)
