-- Document 01, "The frame", with document 02's Order 2, rule by rule over the chip's own numbers, for any number of rows in use.
use Rattle.std.specs.Prelude.{ℕ, ◌+◌, ◌-◌, ◌%◌, ◌≤◌, ◌<◌, ◌≡◌, List}
use Rattle.constants.specs.Sizes.{width, height}
use Rattle.bus.specs.Memory.{address}
use Rattle.bus.specs.declared.registers.Registers.{Registers}
use Rattle.picture.specs.Scan.{ram_row}
use Rattle.picture.specs.Rows.{rows_in_use, rows_above}
use Rattle.picture.specs.Frame.{bit, turned, shown_bit, line, frame, row_of}
use Rattle.picture.specs.declared.rows.RamRow.{RamRow}

-- Panel row p belongs to COM k = (p + offset - t) modulo 64 (Order 2).
abbrev pub com_at : Registers → ℕ → ℕ
com_at r p = (p + r.offset + 64 - rows_above r) % 64

pub record PanelRowRules (r : Registers) (memory : List ℕ) (p : ℕ) : Type 0 where
  -- If k is M or more, the row is dark: reverse does not turn it round, and entire on does not light it.
  pub dark : rows_in_use r ≤ com_at r p → row_of width p (frame r memory) ≡ line width (λ x. 0)
  -- Entire on lights all rows in use, reverse or no.
  pub lit : r.on ≡ 1 → r.entire ≡ 1 → com_at r p < rows_in_use r → row_of width p (frame r memory) ≡ line width (λ x. 1)
  -- Rows normal: COM k shows RAM row (start line + k) modulo 64.
  pub normal : r.on ≡ 1 → r.entire ≡ 0 → r.row_direction ≡ 0 → com_at r p < rows_in_use r → row_of width p (frame r memory) ≡ line width (shown_bit r memory (ram_row ((r.start + com_at r p) % 64)))
  -- Reversed: (start line + M - 1 - k) modulo 64.
  pub reversed : r.on ≡ 1 → r.entire ≡ 0 → r.row_direction ≡ 1 → com_at r p < rows_in_use r
      → row_of width p (frame r memory) ≡ line width (shown_bit r memory (ram_row ((r.start + rows_in_use r - 1 - com_at r p) % 64)))

pub record IconLineRules (r : Registers) (memory : List ℕ) : Type 0 where
  -- The icon line shows RAM row 64 always,
  pub shows : r.on ≡ 1 → r.entire ≡ 0 → row_of width height (frame r memory) ≡ line width (shown_bit r memory (ram_row 64))
  -- and entire on lights it, reverse or no.
  pub lit : r.on ≡ 1 → r.entire ≡ 1 → row_of width height (frame r memory) ≡ line width (λ x. 1)

pub record SegmentRules (r : Registers) (memory : List ℕ) (row : RamRow) (x : ℕ) : Type 0 where
  -- Columns normal: segment x shows RAM column x.
  pub normal : r.column_direction ≡ 0 → shown_bit r memory row x ≡ turned r.reverse (bit address memory row x)
  -- Otherwise RAM column 131 - x.
  pub mirrored : r.column_direction ≡ 1 → shown_bit r memory row x ≡ turned r.reverse (bit address memory row (131 - x))

pub record FrameRules : Type 0 where
  pub panel_rows : (r : Registers) (memory : List ℕ) (p : ℕ) → p < height → PanelRowRules r memory p
  pub icon_line : (r : Registers) (memory : List ℕ) → IconLineRules r memory
  pub segments : (r : Registers) (memory : List ℕ) (row : RamRow) (x : ℕ) → SegmentRules r memory row x
  -- Reverse turns each shown bit round.
  pub not_turned : (b : ℕ) → b < 2 → turned 0 b ≡ b
  pub turned_round : (b : ℕ) → b < 2 → turned 1 b ≡ 1 - b
