-- `differences::frames::any_above` meets its contract: the largest of the bytes passed is above 1 exactly where one of them is.
use mathlib.Core.Path.{◌≡◌}
use lib.Dec.{ltb}
use lib.ListN.{take}
use Rattle.differences.specs.Compare.{any_above}
use Rattle.differences.proofs.frames.any_above.Given as goal

abbrev pub invariant-loop-byte : goal.invariant-loop-byte
invariant-loop-byte l = ltb 1 l.largest ≡ any_above (take l.byte-index l.frame)
