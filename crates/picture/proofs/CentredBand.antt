-- Order 2: where the rows in use are, of COMs by arithmetic, of the frame by its rules.
-- Assumes nothing.
use mathlib.Core.Path.{◌≡◌, refl, ◌∙◌, ap}
use mathlib.Core.Logic.{◌↔◌}
use mathlib.Core.Bool.{true}
use mathlib.Core.List.{List}
use Prim.Native.Nat.{ℕ, ◌+◌, ◌-◌, ◌%◌, ◌≤◌, ◌<◌}
use native.Mathlib.Omega.{arith}
use native.Mathlib.Nat.{mod-lt}
use Rattle.constants.specs.Sizes.{width, height}
use Rattle.bus.specs.Places
use Rattle.bus.specs.Registers.{image_of, largest_values}
use Rattle.bus.specs.Image.{legal}
use Rattle.bus.proofs.Kept.{legal_facts, bound}
use Rattle.bus.specs.declared.registers.Registers.{Registers}
use Rattle.picture.specs.Scan.{ram_row}
use Rattle.picture.specs.Rows.{rows_in_use, rows_above}
use Rattle.picture.specs.Frame.{shown_bit, line}
use Rattle.picture.specs.FrameRules.{com_at, PanelRowRules}
use Rattle.picture.specs.CentredBand.{row_of_com, Band, BandDrawn, CentredBand}
use Rattle.picture.proofs.FrameRules.{frame_rules}

module _ (r : Registers) (m : r.multiplex < height) (o : r.offset < height) where
  middle : rows_above r + rows_in_use r + (rows_above r + rows_in_use r % 2) ≡ 64
  middle = omega arith

  belongs : (p : ℕ) → ((com_at r p + rows_above r) % 64 ≡ (p + r.offset) % 64) × (com_at r p < 64)
  belongs p = (omega arith, mod-lt _ (omega arith))

  has_row : (k : ℕ) → k < 64 → com_at r (row_of_com r k) ≡ k
  has_row k l = omega arith

  no_other : (p : ℕ) → p < 64 → p ≡ row_of_com r (com_at r p)
  no_other p l = omega arith

  unmoved : r.offset ≡ 0 → (p : ℕ) → p < 64 → (com_at r p < rows_in_use r) ↔ (rows_above r ≤ p) × (p < rows_above r + rows_in_use r)
  unmoved none p l = (λ used. (omega arith, omega arith), λ inside. omega arith)

  as_before : rows_in_use r ≡ 64 → (rows_above r ≡ 0) × ((p : ℕ) → com_at r p ≡ (p + r.offset) % 64)
  as_before all = (omega arith, λ p. omega arith)

  band : Band r
  band = record { in_use = refl; middle = middle; belongs = belongs; has_row = has_row; no_other = no_other; unmoved = unmoved; as_before = as_before }

  module _ (memory : List ℕ) where
    rules : (k : ℕ) → PanelRowRules r memory (row_of_com r k)
    rules k = frame_rules.panel_rows r memory (row_of_com r k) (mod-lt _ (omega arith))

    drawn : BandDrawn r memory
    drawn = record {
      lit = λ on entire k l. (rules k).lit on entire (rw (has_row k (omega arith)) l);
      normal = λ on entire d k l. (rules k).normal on entire d (rw (has_row k (omega arith)) l) ∙ ap (λ c. line width (shown_bit r memory (ram_row ((r.start + c) % 64)))) (has_row k (omega arith));
      reversed = λ on entire d k l. (rules k).reversed on entire d (rw (has_row k (omega arith)) l) ∙ ap (λ c. line width (shown_bit r memory (ram_row ((r.start + rows_in_use r - 1 - c) % 64)))) (has_row k (omega arith));
      dark = λ k h l. (rules k).dark (rw (has_row k l) h);
    }

-- a legal image's multiplex and offset
module _ (r : Registers) (in_range : legal (image_of r) ≡ true) where
  multiplex_in : r.multiplex < height
  unfolding largest_values
  multiplex_in = omega (arith, bound r (legal_facts r in_range) Places.multiplex (omega arith))

  offset_in : r.offset < height
  unfolding largest_values
  offset_in = omega (arith, bound r (legal_facts r in_range) Places.offset (omega arith))

pub centred_band : CentredBand
centred_band = record {
  band = λ r in_range. band r (multiplex_in r in_range) (offset_in r in_range);
  drawn = λ r in_range memory. drawn r (multiplex_in r in_range) (offset_in r in_range) memory;
}
