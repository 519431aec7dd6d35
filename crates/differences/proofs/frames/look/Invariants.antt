-- `differences::frames::look` meets its contract: the largest byte passed, and the largest of the differences.
use Prim.Native.Nat.{ℕ, ◌<◌}
use mathlib.Core.Path.{◌≡◌}
use lib.Dec.{ltb}
use lib.ListN.{length, get_or, take}
use Rattle.differences.specs.Compare.{any_above}
use Rattle.differences.proofs.frames.look.Given as goal

abbrev pub invariant-loop-was : goal.invariant-loop-was
invariant-loop-was l = record {
  above : ltb 1 l.largest ≡ any_above (take (length l.yielded) l.first);
  same : l.differing ≡ 0 → (j : ℕ) → j < length l.yielded → get_or l.first j 0 ≡ get_or l.second j 0;
}
