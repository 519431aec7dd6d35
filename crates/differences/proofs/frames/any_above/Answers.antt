-- `differences::frames::any_above` meets its contract: the largest of the bytes passed is above 1 exactly where one of them is.
use mathlib.Core.Path.{refl}
use native.Mathlib.Omega.{arith}
use Rattle.differences.specs.Compare.{any_above}
use Rattle.differences.proofs.Above.{larger_above}
use Rattle.differences.proofs.frames.any_above.Goals as goal

pub loop-byte-init : goal.loop-byte-init
unfolding any_above
loop-byte-init c = refl

pub loop-byte-preserved : goal.loop-byte-preserved
loop-byte-preserved c = larger_above c.args.frame.now c.loop-byte.byte-index c.loop-byte.largest _ (omega arith) c.loop-byte.invariant c.max-largest.ensures
