-- `differences::run::uniform` meets its contract: the places passed hold what the first does, or it is known that some do not.
use Prim.Native.Nat.{ℕ, ◌<◌}
use mathlib.Core.Path.{◌≡◌}
use mathlib.Core.Bool.{true}
use lib.ListN.{get_or}
use Rattle.differences.proofs.run.uniform.Given as goal

abbrev pub invariant-loop-place : goal.invariant-loop-place
invariant-loop-place l = l.uniform ≡ true → (i : ℕ) → i < l.place-index → get_or l.row i 0 ≡ get_or l.row 0 0
