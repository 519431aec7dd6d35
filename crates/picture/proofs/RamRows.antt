-- A row that is shown is one of the memory: a dot row or, after the last of them, the icons.
-- Assumes nothing.
use mathlib.Core.Path.{◌≡◌, subst}
use Prim.Native.Nat.{◌≤◌, ◌<◌}
use native.Mathlib.Nat.{mod-lt, le_of_lt, le_refl}
use lib.Dec.{ltb, eqb}
use Rattle.bus.proofs.Tests.{chosen}
use Rattle.picture.specs.Scan.{Scan, com_of, used, ram_row_of, panel_shows, row_shows}
use Rattle.picture.specs.declared.rows.PanelRow.{PanelRow}
use Rattle.picture.specs.declared.rows.Com.{Com}
use Rattle.picture.specs.declared.rows.RamRow.{RamRow}
use Rattle.picture.specs.Shown.{Shown}
use Rattle.picture.specs.Upright.{WithinRam}

module _ (s : Scan) (pos : 0 < s.size) where
  ram_row_within : (k : Com) → (ram_row_of s k).0 ≤ s.size
  unfolding ram_row_of
  ram_row_within k = chosen (λ (row : RamRow). row.0 ≤ s.size) (eqb s.direction 0) _ _ (λ e. le_of_lt (mod-lt _ pos)) (λ e. le_of_lt (mod-lt _ pos))

  pub shows_within : (row : PanelRow) → WithinRam s.size (row_shows s row)
  unfolding row_shows panel_shows
  shows_within row =
      chosen (WithinRam s.size) (ltb row.0 s.size) _ _
      (λ e. chosen (WithinRam s.size) (used s (com_of s row)) _ _ (λ e. ram_row_within (com_of s row)) (λ e. tt))
      (λ e. le_refl s.size)

  pub ram_within : (row : PanelRow) {ram : RamRow} → row_shows s row ≡ Shown.Ram ram → ram.0 ≤ s.size
  ram_within row e = subst (WithinRam s.size) e (shows_within row)
