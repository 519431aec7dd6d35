-- Document 01, "The frame": the three countings of rows, and the rules of scan, start line and columns over numbers alone. Rows.antt says which numbers are this chip's.
use Rattle.std.specs.Prelude.{ℕ, ◌+◌, ◌-◌, ◌%◌, Bool, cond, ltb, eqb}
use Rattle.picture.specs.declared.rows.PanelRow.{PanelRow}
use Rattle.picture.specs.declared.rows.Com.{Com}
use Rattle.picture.specs.declared.rows.RamRow.{RamRow}
use Rattle.picture.specs.Shown.{Shown}

abbrev pub panel_row : ℕ → PanelRow
panel_row p = record { 0 = p }

abbrev pub com_number : ℕ → Com
com_number k = record { 0 = k }

abbrev pub ram_row : ℕ → RamRow
ram_row n = record { 0 = n }

-- What a scan goes by: the size, which is the number of panel rows, of COMs and of dot rows in the memory; M, the dot rows in use; the shift from a panel row to its COM; the start line; the row direction, 0 where rows are normal.
pub record Scan : Type 0 where
  pub size : ℕ
  pub in_use : ℕ
  pub shift : ℕ
  pub start : ℕ
  pub direction : ℕ

-- Panel row p belongs to COM (p + shift) modulo the size.
unfoldable pub com_of : Scan → PanelRow → Com
com_of s p = com_number ((p.0 + s.shift) % s.size)

-- COM k is in use below M.
unfoldable pub used : Scan → Com → Bool
used s k = ltb k.0 s.in_use

-- Rows normal: COM k shows RAM row (start line + k) modulo the size. Reversed: (start line + M - 1 - k) modulo the size.
unfoldable pub ram_row_of : Scan → Com → RamRow
ram_row_of s k = cond (eqb s.direction 0) (ram_row ((s.start + k.0) % s.size)) (ram_row ((s.start + s.in_use - 1 - k.0) % s.size))

-- A panel row shows the RAM row of its COM; it is dark where that COM is not in use.
unfoldable pub panel_shows : Scan → PanelRow → Shown
panel_shows s p = cond (used s (com_of s p)) (Shown.Ram (ram_row_of s (com_of s p))) Shown.Dark

-- The rows of the frame: the panel rows, then the icon line, which shows the RAM row after the last dot row always.
unfoldable pub row_shows : Scan → PanelRow → Shown
row_shows s row = cond (ltb row.0 s.size) (panel_shows s row) (Shown.Ram (ram_row s.size))

-- Columns normal: segment x shows RAM column x. Otherwise, of w columns, RAM column w - 1 - x.
unfoldable pub column_of : ℕ → ℕ → ℕ → ℕ
column_of w direction x = cond (eqb direction 0) x (w - 1 - x)
