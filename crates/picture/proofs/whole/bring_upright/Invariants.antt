-- `picture::whole::bring_upright` meets its contract: the pages passed are upright, what follows is as it was.
use mathlib.Core.Path.{◌≡◌}
use mathlib.Core.List.{◌++◌}
use Prim.Native.Nat.{◌*◌, ◌≤◌}
use lib.ListN.{drop}
use Rattle.constants.specs.Sizes.{width, pages}
use Rattle.picture.specs.Frame.{grid}
use Rattle.picture.specs.Upright.{upright_byte}
use Rattle.picture.proofs.whole.bring_upright.Given as goal

abbrev pub invariant-loop-p : goal.invariant-loop-p
invariant-loop-p l = (l.p ≤ pages) × (l.upright ≡ grid width l.p (upright_byte l.direction l.reverse l.memory) ++ drop (l.p * width) l.initial.upright)
