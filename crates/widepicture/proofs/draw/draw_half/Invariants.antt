-- `widepicture::draw::draw_half` meets its contract: the rows passed are written, all else is as it was.
use mathlib.Core.Path.{◌≡◌}
use Prim.Native.Nat.{◌≤◌}
use Rattle.constants.specs.Sizes.{width, frame_rows}
use Rattle.picture.specs.Frame.{frame}
use Rattle.widepicture.specs.WideDraw.{rows_written}
use Rattle.widepicture.proofs.draw.draw_half.Given as goal

abbrev pub invariant-loop-y : goal.invariant-loop-y
invariant-loop-y l = (l.y ≤ frame_rows) × (l.first ≤ width) × (l.places ≡ rows_written l.first l.y (frame l.registers l.memory) l.initial.places)
