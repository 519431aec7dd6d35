-- Document 02, Order 2: the short band sits in the middle. What its rule comes to for each M from 1 to 64 and each offset, first of COMs, then of the frame.
use Rattle.std.specs.Prelude.{ℕ, ◌+◌, ◌-◌, ◌%◌, ◌≤◌, ◌<◌, ◌≡◌, ◌↔◌, true, List}
use Rattle.constants.specs.Sizes.{width}
use Rattle.bus.specs.Registers.{image_of}
use Rattle.bus.specs.Image.{legal}
use Rattle.bus.specs.declared.registers.Registers.{Registers}
use Rattle.picture.specs.Scan.{ram_row}
use Rattle.picture.specs.Rows.{rows_in_use, rows_above}
use Rattle.picture.specs.Frame.{shown_bit, line, frame, row_of}
use Rattle.picture.specs.FrameRules.{com_at}

-- Panel row t - offset + k, round the 64.
abbrev pub row_of_com : Registers → ℕ → ℕ
row_of_com r k = (rows_above r + 64 - r.offset + k) % 64

pub record Band (r : Registers) : Type 0 where
  -- M is multiplex + 1.
  pub in_use : rows_in_use r ≡ r.multiplex + 1
  -- t is (64 - M) / 2 rounded down, said without a division: where the offset is 0, t rows are above, M in use, and below are as many as above, or one more where M is odd.
  pub middle : rows_above r + rows_in_use r + (rows_above r + rows_in_use r % 2) ≡ 64
  -- Panel row p belongs to COM k = (p + offset - t) modulo 64, said without a minus: k + t and p + offset agree modulo 64, and k is below 64.
  pub belongs : (p : ℕ) → ((com_at r p + rows_above r) % 64 ≡ (p + r.offset) % 64) × (com_at r p < 64)
  -- Each COM k, in use or not, has panel row t - offset + k,
  pub has_row : (k : ℕ) → k < 64 → com_at r (row_of_com r k) ≡ k
  -- and no other.
  pub no_other : (p : ℕ) → p < 64 → p ≡ row_of_com r (com_at r p)
  -- Offset 0: the rows in use are panel rows t to t + M - 1.
  pub unmoved : r.offset ≡ 0 → (p : ℕ) → p < 64 → (com_at r p < rows_in_use r) ↔ (rows_above r ≤ p) × (p < rows_above r + rows_in_use r)
  -- With M = 64, t is 0, and a panel row belongs to the COM that document 01 gave it.
  pub as_before : rows_in_use r ≡ 64 → (rows_above r ≡ 0) × ((p : ℕ) → com_at r p ≡ (p + r.offset) % 64)

-- The M rows in use are panel rows t - offset to t - offset + M - 1, round the 64.
pub record BandDrawn (r : Registers) (memory : List ℕ) : Type 0 where
  -- Entire on lights them.
  pub lit : r.on ≡ 1 → r.entire ≡ 1 → (k : ℕ) → k < rows_in_use r → row_of width (row_of_com r k) (frame r memory) ≡ line width (λ x. 1)
  -- Rows normal: they show RAM rows start line to start line + M - 1, in this order.
  pub normal : r.on ≡ 1 → r.entire ≡ 0 → r.row_direction ≡ 0 → (k : ℕ) → k < rows_in_use r → row_of width (row_of_com r k) (frame r memory) ≡ line width (shown_bit r memory (ram_row ((r.start + k) % 64)))
  -- Reversed: the same RAM rows, the last first.
  pub reversed : r.on ≡ 1 → r.entire ≡ 0 → r.row_direction ≡ 1 → (k : ℕ) → k < rows_in_use r → row_of width (row_of_com r k) (frame r memory) ≡ line width (shown_bit r memory (ram_row ((r.start + rows_in_use r - 1 - k) % 64)))
  -- All other panel rows are dark.
  pub dark : (k : ℕ) → rows_in_use r ≤ k → k < 64 → row_of width (row_of_com r k) (frame r memory) ≡ line width (λ x. 0)

pub record CentredBand : Type 0 where
  pub band : (r : Registers) → legal (image_of r) ≡ true → Band r
  pub drawn : (r : Registers) → legal (image_of r) ≡ true → (memory : List ℕ) → BandDrawn r memory
