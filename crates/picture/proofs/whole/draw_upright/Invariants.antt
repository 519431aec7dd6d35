-- `picture::whole::draw_upright` meets its contract: the rows passed are drawn, what follows is as it was.
use mathlib.Core.Path.{◌≡◌}
use mathlib.Core.List.{List, ◌++◌}
use Prim.Native.Nat.{ℕ, ◌*◌, ◌≤◌}
use lib.ListN.{get_or, drop}
use Rattle.std.specs.Prelude.{Option, None}
use Rattle.constants.specs.Sizes.{width, frame_rows}
use Rattle.picture.specs.Shown.{shown_of}
use Rattle.picture.specs.Frame.{grid}
use Rattle.picture.specs.Upright.{seen}
use Rattle.picture.specs.declared.rows.RamRow.{RamRow}
use Rattle.picture.proofs.whole.draw_upright.Given as goal

-- what each place shows
abbrev pub shown : List (Option RamRow) → List ℕ → ℕ → ℕ → ℕ
shown rows upright y = seen upright (shown_of (get_or rows y None))

abbrev pub invariant-loop-y : goal.invariant-loop-y
invariant-loop-y l = (l.y ≤ frame_rows) × (l.places ≡ grid width l.y (shown l.rows l.upright) ++ drop (l.y * width) l.initial.places)
