-- Drawing ignores the registers that draw nothing, and all but bit 0 of page 8's bytes: for every setting and every memory.
-- Assumes nothing.
use mathlib.Core.Path.{◌≡◌, refl, sym, ◌∙◌, ap}
use mathlib.Core.List.{List, [], ◌∷◌}
use Prim.Native.Nat.{ℕ, ◌/◌, ◌%◌, ◌^◌, ◌≤◌, ◌<◌}
use native.Mathlib.Omega.{arith}
use native.Mathlib.Decide.{dec_lt}
use lib.ListN.{get_or, set}
use Rattle.constants.specs.Sizes.{width, height, frame_rows}
use Rattle.bus.specs.Places.{start_line, offset, multiplex, column_direction, row_direction, entire, reverse, on}
use Rattle.bus.specs.Registers.{image_of, registers_of}
use Rattle.bus.specs.Memory.{address}
use Rattle.bus.specs.declared.registers.Registers.{Registers}
use Rattle.picture.specs.Scan.{panel_row, com_of, used, ram_row_of, panel_shows, row_shows, column_of}
use Rattle.picture.specs.Rows.{scan_of}
use Rattle.picture.specs.Frame.{bit, shown_bit, while_on, segment, frame}
use Rattle.picture.specs.Ignored.{draw_nothing, DrawAlike, SameBits, Ignored}
use Rattle.picture.specs.declared.rows.RamRow.{RamRow}
use Rattle.picture.specs.Shown.{Shown}
use Rattle.picture.proofs.Lines.{grid_same}
use Rattle.picture.proofs.RamRows.{ram_within}
use Rattle.picture.proofs.AllRows.{columns_bijection}

-- the registers with those that draw nothing cleared
abbrev cleared : List ℕ → List ℕ → List ℕ
cleared [] image = image
cleared (place ∷ places) image = cleared places (set image place 0)

abbrev seen : Registers → Registers
seen r = registers_of (cleared draw_nothing (image_of r))

seen_alike : (r s : Registers) → DrawAlike r s → seen r ≡ seen s
seen_alike r s a =
    let by-start : r.start ≡ s.start = a start_line refl in
    let by-offset : r.offset ≡ s.offset = a offset refl in
    let by-multiplex : r.multiplex ≡ s.multiplex = a multiplex refl in
    let by-columns : r.column_direction ≡ s.column_direction = a column_direction refl in
    let by_rows : r.row_direction ≡ s.row_direction = a row_direction refl in
    let by-entire : r.entire ≡ s.entire = a entire refl in
    let by-reverse : r.reverse ≡ s.reverse = a reverse refl in
    let by-on : r.on ≡ s.on = a on refl in
    rw (by-start, by-offset, by-multiplex, by-columns, by_rows, by-entire, by-reverse, by-on)

-- drawing asks no other
segment_seen : (r : Registers) (memory : List ℕ) (shown : Shown) (x : ℕ) → segment r memory shown x ≡ segment (seen r) memory shown x
unfolding segment while_on shown_bit column_of
segment_seen r memory Shown.Dark x = refl
segment_seen r memory (Shown.Ram row) x = refl

frame_seen : (r : Registers) (memory : List ℕ) → frame r memory ≡ frame (seen r) memory
unfolding frame row_shows panel_shows used ram_row_of com_of
frame_seen r memory = grid_same width frame_rows _ _ (λ y x l k. segment_seen r memory (row_shows (scan_of r) (panel_row y)) x)

-- settings that draw alike draw the same frame from every memory
held_draw_nothing : (r s : Registers) → DrawAlike r s → (memory : List ℕ) → frame r memory ≡ frame s memory
held_draw_nothing r s a memory = frame_seen r memory ∙ ap (λ seen. frame seen memory) (seen_alike r s a) ∙ sym (frame_seen s memory)

-- a RAM row's bit in a column
bit_same : (memory other : List ℕ) → SameBits memory other → (row : RamRow) (column : ℕ) → row.0 ≤ height → column < width → bit address memory row column ≡ bit address other row column
unfolding bit
bit_same memory other e row column l k = by (dec_lt row.0 height)
  where
    by : Dec (row.0 < height) → get_or memory (address (row.0 / 8) column) 0 / 2 ^ (row.0 % 8) % 2 ≡ get_or other (address (row.0 / 8) column) 0 / 2 ^ (row.0 % 8) % 2
    by (yes m) = ap (λ byte. byte / 2 ^ (row.0 % 8) % 2) (e.pages (address (row.0 / 8) column) (omega arith))
    by (no n) =
        let icons : row.0 ≡ height = omega arith in
        rw icons (omega (arith, e.icons column k))

-- memories with the same bits are drawn as the same frame by every setting
rest_ignored : (r : Registers) (memory other : List ℕ) → SameBits memory other → frame r memory ≡ frame r other
unfolding frame segment while_on shown_bit
rest_ignored r memory other e = grid_same width frame_rows _ _ (λ y x l k. place y x k (row_shows (scan_of r) (panel_row y)) refl)
  where
    place : (y x : ℕ) → x < width → (shown : Shown) → row_shows (scan_of r) (panel_row y) ≡ shown → segment r memory (row_shows (scan_of r) (panel_row y)) x ≡ segment r other (row_shows (scan_of r) (panel_row y)) x
    place y x k Shown.Dark q = rw q
    place y x k (Shown.Ram row) q = rw (q, bit_same memory other e row (column_of width r.column_direction x) (ram_within (scan_of r) (omega arith) (panel_row y) q) ((columns_bijection width r.column_direction).there_in x k))

pub ignored : Ignored
ignored = record { settings = held_draw_nothing; rest_of_page8 = rest_ignored }
