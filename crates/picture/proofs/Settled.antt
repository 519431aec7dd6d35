-- What each public call states has one result.
-- Assumes nothing.
use mathlib.Core.Path.{◌≡◌, refl, ap}
use mathlib.Core.List.{List}
use Prim.Native.Nat.{ℕ}
use Rattle.std.specs.Prelude.{Option, Some, None}
use Rattle.constants.specs.Settles.{Settles}
use Rattle.constants.specs.Refusals.{Met, number_met}
use Rattle.constants.proofs.Refusals.{met_of, met_undone}
use Rattle.constants.proofs.Settles.{equation, told_from}
use Rattle.picture.specs.Shown.{Shown, shown_of}
use Rattle.picture.specs.Draw.{Drawn, drawn}
use Rattle.picture.specs.Settled.{Settled}
use Rattle.picture.specs.declared.rows.RamRow.{RamRow}

-- what is met and the frame that is left
pub drawn_settled : (stated : Drawn) → Settles (λ (o : Met × List ℕ). drawn (number_met o.0) o.1 ≡ stated)
drawn_settled = told_from (λ (o : Met × List ℕ). drawn (number_met o.0) o.1) (λ d. (met_of d.number, d.frame)) (λ o. ap (λ (met : Met). (met, o.1)) (met_undone o.0))

-- what a row shows
row_of_shown : Shown → Option RamRow
row_of_shown Shown.Dark = None
row_of_shown (Shown.Ram row) = Some row

row_shown_back : (shown : Option RamRow) → row_of_shown (shown_of shown) ≡ shown
unfolding row_of_shown
row_shown_back None = refl
row_shown_back (Some row) = refl

pub settled : Settled
settled = record {
  «draw::draw» = λ state memory was. drawn_settled _;
  draw::draw_line = λ r memory row was. equation _;
  rows::row_shows = λ r row. told_from shown_of row_of_shown row_shown_back _;
}
