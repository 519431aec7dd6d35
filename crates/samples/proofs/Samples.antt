-- The twelve sample events hold.
-- Assumes nothing.
use mathlib.Core.Path.{◌≡◌, refl}
use mathlib.Core.Bool.{Bool, true, false, cond, ◌&&◌, ◌||◌}
use mathlib.Core.List.{List}
use Prim.Native.Nat.{ℕ, ◌+◌, ◌%◌, ◌<◌}
use native.Mathlib.Decide.{dec_lt}
use borrow.Author.Tests.{lt-ltb, le-ltb, le-leb, lt-leb, ne_eqb}
use lib.Dec.{leb, ltb, eqb}
use Rattle.constants.specs.Sizes.{width, height, frame_rows}
use Rattle.bus.specs.declared.registers.Registers.{Registers}
use Rattle.picture.specs.Frame.{while_on, segment, grid, frame}
use Rattle.picture.specs.declared.rows.RamRow.{RamRow}
use Rattle.picture.proofs.Lines.{grid_same}
use Rattle.codes.specs.Table.{table, offset_of, frame_phases_of, command_by, operand_by, command_of, operand_of, meaning_of}
use Rattle.bus.specs.Registers.{ranges, largest_values, power_on}
use Rattle.bus.specs.Memory.{kept, onward}
use Rattle.bus.specs.Events.{number_of, obeyed, command, access, write, written}
use Rattle.bus.specs.Image.{within, awaited_codes, legal}
use Rattle.bus.specs.Chip.{step, registers_after, chip_after, after_events}
use native.Mathlib.Omega.{arith}
use Rattle.picture.specs.Scan.{panel_row, ram_row, com_of, used, ram_row_of, panel_shows, row_shows}
use Rattle.picture.specs.Rows.{scan_of}
use Rattle.samples.specs.Samples.{Samples, number_for, picture, Reached}
use Rattle.picture.proofs.Places.{row_plain, off_dark}
use Rattle.picture.specs.Shown.{Shown}

-- where the display is on, entire on lights a row that shows a RAM row, and no other
shade : (r : Registers) (memory : List ℕ) (row : RamRow) (x : ℕ) → r.on ≡ 1 → r.entire ≡ 1 → (t : Bool) → segment r memory (cond t (Shown.Ram row) Shown.Dark) x ≡ cond (t || false) 1 0
unfolding segment while_on
shade r memory row x on entire true = rw (on, entire)
shade r memory row x on entire false = rw on

-- with 16 rows in use and no offset, those are rows 24 to 39: their COMs are y - 24, those of the rows above y + 40
sixteen_used : (r : Registers) (y : ℕ) → y < height → r.offset ≡ 0 → r.multiplex ≡ 15 → used (scan_of r) (com_of (scan_of r) (panel_row y)) ≡ (leb 24 y && leb y 39)
unfolding com_of used
sixteen_used r y l offset multiplex = rw (offset, multiplex) (either (dec_lt y 24) (dec_lt y 40))
  where
    either : Dec (y < 24) → Dec (y < 40) → ltb ((y + 40) % 64) 16 ≡ (leb 24 y && leb y 39)
    either (yes k) _ = rw (le-ltb ((y + 40) % 64) 16 (omega arith), lt-leb 24 y k)
    either (no k) (yes h) = rw (lt-ltb ((y + 40) % 64) 16 (omega arith), le-leb 24 y (omega arith), le-leb y 39 (omega arith))
    either (no k) (no h) = rw (le-ltb ((y + 40) % 64) 16 (omega arith), le-leb 24 y (omega arith), lt-leb y 39 (omega arith))

-- entire on lights them and the icons
sixteen_lit : (r : Registers) (memory : List ℕ) → r.on ≡ 1 → r.entire ≡ 1 → r.offset ≡ 0 → r.multiplex ≡ 15 → frame r memory ≡ grid width frame_rows (λ y x. cond ((leb 24 y && leb y 39) || eqb y 64) 1 0)
unfolding frame row_shows panel_shows
sixteen_lit r memory on entire offset multiplex = grid_same width frame_rows _ _ (λ y x l k. place y x l (dec_lt y height))
  where
    place : (y x : ℕ) → y < frame_rows → Dec (y < height) → segment r memory (row_shows (scan_of r) (panel_row y)) x ≡ cond ((leb 24 y && leb y 39) || eqb y 64) 1 0
    place y x l (yes k) = rw (lt-ltb y height k, sixteen_used r y k offset multiplex, ne_eqb y 64 (omega arith)) (shade r memory _ x on entire (leb 24 y && leb y 39))
    place y x l (no n) =
        let e : y ≡ 64 = omega arith in
        rw e (shade r memory (ram_row height) x on entire true)

pub samples : Samples
unfolding com_of used ram_row_of panel_shows row_shows picture ranges power_on kept onward number_of obeyed command access write written step registers_after chip_after after_events number_for table offset_of frame_phases_of command_by operand_by command_of operand_of meaning_of
samples = record {
  sample1 = (refl, refl);
  sample2 = (refl, refl, refl, refl);
  sample3 = (refl, refl);
  sample4 = (refl, refl);
  sample5 = refl;
  sample6 = λ a b. (refl, refl);
  sample7 = (refl, refl);
  sample8 = (refl, refl);
  sample9 = sixteen_lit _ _ refl refl refl refl;
  sample10 = (λ memory. row_plain _ memory 0 5 (omega arith) refl refl refl refl refl, λ memory. row_plain _ memory 63 4 (omega arith) refl refl refl refl refl, λ memory. row_plain _ memory 0 0 (omega arith) refl refl refl refl refl, λ memory. row_plain _ memory 63 1 (omega arith) refl refl refl refl refl);
  sample11 = λ memory. row_plain _ memory 24 15 (omega arith) refl refl refl refl refl;
  sample12 = off_dark _ _ refl;
}

pub reached : Reached
unfolding ranges largest_values power_on within awaited_codes legal table command_by command_of meaning_of obeyed command step registers_after chip_after after_events
reached = record { in_range = refl; all_rows = refl; on = refl; not_lit = refl }
