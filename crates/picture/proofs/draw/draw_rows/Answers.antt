-- `picture::draw::draw_rows` meets its contract: the rows passed are drawn, what follows is as it was.
use mathlib.Core.Path.{◌≡◌, refl, ◌∙◌}
use mathlib.Core.List.{append-nil}
use Prim.Native.Nat.{◌+◌, ◌*◌, ◌-◌}
use native.Mathlib.Omega.{arith}
use lib.ListN.{drop_of_length-le}
use Rattle.constants.specs.Sizes.{width, frame_rows}
use Rattle.picture.proofs.Lines.{grid_turn}
use Rattle.picture.specs.Frame.{grid, frame}
use Rattle.picture.proofs.draw.draw_rows.Invariants.{shown}
use Rattle.picture.proofs.draw.draw_rows.Goals as goal

pub loop-y-init : goal.loop-y-init
unfolding grid
loop-y-init c = (omega arith, refl)

pub loop-y-preserved : goal.loop-y-preserved
loop-y-preserved c =
    let a = c.args in
    let y = c.loop-y.y in
    (omega arith, rw c.loop-y.invariant.1 (grid_turn width y (y * width + width - y * width) (shown a.registers a.memory.now) a.places.now c.draw_row.new.places (omega arith) c.draw_row.ensures))

pub returns : goal.returns
unfolding frame
returns c =
    let a = c.args in
    let e : c.loop-y.y ≡ frame_rows = omega arith in
    c.loop-y.invariant.1 ∙ rw (e, drop_of_length-le a.places.now {i = frame_rows * width} (omega arith), append-nil)
