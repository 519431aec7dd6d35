-- `bus::put::put_chunks` meets its contract: so many chunks are put.
use Prim.Native.Nat.{◌*◌}
use mathlib.Core.Path.{◌≡◌}
use mathlib.Core.List.{map}
use lib.ListN.{take}
use Rattle.bus.specs.Memory.{kept}
use Rattle.bus.proofs.put.put_chunks.Given as goal

abbrev pub invariant-loop-i : goal.invariant-loop-i
invariant-loop-i l = take (l.i * 32) l.places ≡ take (l.i * 32) (map (kept l.page) l.bytes)
