-- Entire on with all 64 rows in use: every row is lit.
-- Assumes nothing.
use mathlib.Core.Path.{◌≡◌}
use mathlib.Core.Bool.{Bool, true, false, cond}
use mathlib.Core.List.{List}
use Prim.Native.Nat.{ℕ}
use native.Mathlib.Omega.{arith}
use borrow.Author.Tests.{eq-eqb}
use lib.Dec.{ltb}
use Rattle.bus.specs.declared.registers.Registers.{Registers}
use Rattle.constants.specs.Sizes.{height}
use Rattle.picture.specs.Scan.{ram_row, com_of, used, ram_row_of, panel_shows, row_shows}
use Rattle.picture.specs.Rows.{rows_in_use, scan_of}
use Rattle.picture.specs.Frame.{while_on}
use Rattle.picture.specs.declared.rows.PanelRow.{PanelRow}
use Rattle.picture.specs.Shown.{Shown}
use Rattle.picture.proofs.AllRows.{all_used}

pub all_lit : (r : Registers) (memory : List ℕ) (row : PanelRow) (x : ℕ) → rows_in_use r ≡ height → r.entire ≡ 1 → while_on r memory (row_shows (scan_of r) row) x ≡ 1
unfolding while_on panel_shows row_shows
all_lit r memory row x all entire = by (ltb row.0 height)
  where
    by : (t : Bool) → while_on r memory (cond t (cond (used (scan_of r) (com_of (scan_of r) row)) (Shown.Ram (ram_row_of (scan_of r) (com_of (scan_of r) row))) Shown.Dark) (Shown.Ram (ram_row height))) x ≡ 1
    by true = rw (all_used (scan_of r) row (omega arith) all, eq-eqb _ _ entire)
    by false = rw (eq-eqb _ _ entire)
