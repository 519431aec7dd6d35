-- `framelisting::text::Text::put_lines` meets its contract: the lines of the rows from here on are put from here on.
use Prim.Native.Nat.{◌-◌}
use Rattle.constants.specs.Sizes.{frame_rows}
use Rattle.framelisting.specs.Text.{lines}
use Rattle.framelisting.proofs.PutPieces.{Rest}
use Rattle.framelisting.proofs.text.Text.put_lines.Given as goal

abbrev pub invariant-loop-p : goal.invariant-loop-p
invariant-loop-p l = Rest l.initial.self (lines l.width l.frame frame_rows 0) l.self (lines l.width l.frame (frame_rows - l.p) l.p)
