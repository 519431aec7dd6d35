-- `picture::draw::draw_rows` meets its contract: the rows passed are drawn, what follows is as it was.
use mathlib.Core.Path.{◌≡◌}
use mathlib.Core.List.{List, ◌++◌}
use Prim.Native.Nat.{ℕ, ◌*◌, ◌≤◌}
use lib.ListN.{drop}
use Rattle.constants.specs.Sizes.{width, frame_rows}
use Rattle.bus.specs.declared.registers.Registers.{Registers}
use Rattle.picture.specs.Scan.{panel_row, row_shows}
use Rattle.picture.specs.Rows.{scan_of}
use Rattle.picture.specs.Frame.{segment, grid}
use Rattle.picture.proofs.draw.draw_rows.Given as goal

-- what each place shows
abbrev pub shown : Registers → List ℕ → ℕ → ℕ → ℕ
shown r memory y = segment r memory (row_shows (scan_of r) (panel_row y))

abbrev pub invariant-loop-y : goal.invariant-loop-y
invariant-loop-y l = (l.y ≤ frame_rows) × (l.places ≡ grid width l.y (shown l.registers l.memory) ++ drop (l.y * width) l.initial.places)
