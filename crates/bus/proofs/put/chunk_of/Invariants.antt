-- `bus::put::chunk_of` meets its contract: what is kept of the first i is held.
use Prim.Native.Nat.{ℕ, ◌<◌}
use mathlib.Core.Path.{◌≡◌}
use lib.ListN.{length, get_or}
use Rattle.bus.specs.Memory.{kept}
use Rattle.bus.specs.Pieces.{chunk}
use Rattle.bus.proofs.put.chunk_of.Given as goal

abbrev pub invariant-loop-i : goal.invariant-loop-i
invariant-loop-i l = (length l.held ≡ chunk) × ((k : ℕ) → k < l.i → get_or l.held k 0 ≡ kept l.page (get_or l.bytes k 0))
