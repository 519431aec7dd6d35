-- `widepicture::draw::draw_half` meets its contract: the rows passed are written, all else is as it was.
use mathlib.Core.Path.{◌≡◌, refl, ◌∙◌}
use Prim.Native.Nat.{◌+◌, ◌*◌, ◌-◌}
use native.Mathlib.Omega.{arith}
use Rattle.constants.specs.Sizes.{width, frame_rows, wide_width}
use Rattle.widepicture.specs.WideDraw.{rows_written}
use Rattle.widepicture.proofs.HalfRows.{column_within, rows_turn}
use Rattle.widepicture.proofs.draw.draw_half.Goals as goal

pub loop-y-init : goal.loop-y-init
unfolding rows_written
loop-y-init c = (omega arith, omega (arith, column_within c.args.side, c.first_column-first.ensures), refl)

pub loop-y-preserved : goal.loop-y-preserved
loop-y-preserved c =
    let a = c.args in
    let loop = c.loop-y in
    let start = loop.y * wide_width + c.first_column-first.result in
    (omega arith, loop.invariant.1, rows_turn a.registers a.memory.now c.first_column-first.result loop.invariant.1 a.places.now (omega arith) loop.y (start + width - start) loop.places c.draw_line.new.places (omega arith) (omega arith) loop.invariant.2 (omega arith) c.draw_line.ensures)
