-- `picture::whole::draw_upright` meets its contract: the rows passed are drawn, what follows is as it was.
use mathlib.Core.Path.{refl}
use Prim.Native.Nat.{◌+◌, ◌*◌, ◌-◌}
use native.Mathlib.Omega.{arith}
use Rattle.constants.specs.Sizes.{width}
use Rattle.picture.proofs.Lines.{grid_turn}
use Rattle.picture.specs.Frame.{grid}
use Rattle.picture.proofs.whole.draw_upright.Invariants.{shown}
use Rattle.picture.proofs.whole.draw_upright.Goals as goal

pub loop-y-init : goal.loop-y-init
unfolding grid
loop-y-init c = (omega arith, refl)

pub loop-y-preserved : goal.loop-y-preserved
loop-y-preserved c =
    let a = c.args in
    let y = c.loop-y.y in
    (omega arith, rw c.loop-y.invariant.1 (grid_turn width y (y * width + width - y * width) (shown a.rows.now a.upright.now) a.places.now c.draw_shown.new.places (omega arith) c.draw_shown.ensures))
