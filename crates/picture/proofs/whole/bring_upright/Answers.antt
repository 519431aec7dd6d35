-- `picture::whole::bring_upright` meets its contract: the pages passed are upright, what follows is as it was.
use mathlib.Core.Path.{refl, ◌∙◌}
use Prim.Native.Nat.{◌+◌, ◌*◌, ◌-◌}
use native.Mathlib.Omega.{arith}
use Rattle.constants.specs.Sizes.{width}
use Rattle.picture.proofs.Lines.{grid_turn}
use Rattle.picture.specs.Frame.{grid}
use Rattle.picture.specs.Upright.{upright_byte}
use Rattle.picture.proofs.whole.bring_upright.Goals as goal

pub loop-p-init : goal.loop-p-init
unfolding grid
loop-p-init c = (omega arith, refl)

pub loop-p-preserved : goal.loop-p-preserved
loop-p-preserved c =
    let a = c.args in
    let p = c.loop-p.p in
    (omega arith, rw (c.from-start.ensures, c.loop-p.invariant.1) (grid_turn width p (p * width + width - p * width) (upright_byte a.direction a.reverse a.memory.now) a.upright.now c.copy_from_slice.new.self (omega arith) (c.copy_from_slice.ensures.after ∙ c.shown_page.ensures)))
