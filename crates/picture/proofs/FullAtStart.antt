-- Either start with the display on is a setting of demand 3, by computing.
-- Assumes nothing.
use mathlib.Core.Path.{refl}
use Rattle.bus.specs.Registers.{ranges, largest_values, power_on}
use Rattle.bus.specs.Image.{within, awaited_codes, legal}
use Rattle.bus.specs.declared.start.Hung.{Hung}
use Rattle.picture.specs.FullAtStart.{FullAtStart}

pub full_at_start : FullAtStart
unfolding ranges largest_values power_on within awaited_codes legal
full_at_start Hung.UpsideDown = record { in_range = refl; all_rows = refl; on = refl; not_lit = refl }
full_at_start Hung.Upright = record { in_range = refl; all_rows = refl; on = refl; not_lit = refl }
