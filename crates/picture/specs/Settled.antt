-- Any two results that satisfy what a public call of this crate states are equal: its answer, and what it leaves of the lent frame. A field has the name of its call.
use Rattle.std.specs.Prelude.{ℕ, ◌≡◌, List, Option}
use Rattle.constants.specs.Refusals.{Met, number_met}
use Rattle.bus.specs.declared.registers.Registers.{Registers}
use Rattle.picture.specs.Scan.{row_shows}
use Rattle.picture.specs.Rows.{scan_of}
use Rattle.picture.specs.Draw.{drawn, draw}
use Rattle.picture.specs.DrawLine.{draw_line}
use Rattle.picture.specs.declared.rows.PanelRow.{PanelRow}
use Rattle.picture.specs.Shown.{shown_of}
use Rattle.picture.specs.declared.rows.RamRow.{RamRow}
use Rattle.constants.specs.Settles.{Settles}

pub record Settled : Type 0 where
  -- result, frame
  pub «draw::draw» : (state memory was : List ℕ) → Settles (λ (o : Met × List ℕ). drawn (number_met o.0) o.1 ≡ draw state memory was)
  -- the lent part
  pub draw::draw_line : (r : Registers) (memory : List ℕ) (row : PanelRow) (was : List ℕ) → Settles (λ (later : List ℕ). later ≡ draw_line r memory row was)
  pub rows::row_shows : (r : Registers) (row : PanelRow) → Settles (λ (shown : Option RamRow). shown_of shown ≡ row_shows (scan_of r) row)
