-- A chip that takes one data byte written takes all that follow it: no code becomes awaited, and the column stays within the page.
-- Assumes nothing.
use mathlib.Core.Path.{◌≡◌, refl}
use mathlib.Core.List.{List, [], ◌∷◌, map}
use Prim.Native.Nat.{ℕ, ◌+◌, ◌≤◌}
use native.Mathlib.Omega.{arith}
use borrow.Author.Tests.{eqb-false, eq-eqb, ne_eqb, lt-ltb, le-ltb, le-leb}
use lib.Dec.{eqb}
use lib.ListN.{length, set, length-set}
use Rattle.constants.specs.Sizes.{last_column}
use Rattle.constants.specs.Numbers.{taken}
use Rattle.codes.proofs.Tests.{chosen}
use Rattle.bus.specs.Places.{fresh}
use Rattle.bus.specs.Registers.{◌with◌≔◌}
use Rattle.bus.specs.Memory.{address, kept, onward}
use Rattle.bus.specs.Events.{access, moved, write, written}
use Rattle.bus.specs.Chip.{step}
use Rattle.bus.specs.Result.{gives, refuses}
use Rattle.bus.specs.Recorded.{recorded_write, chip_of, happened, replay}
use Rattle.bus.specs.Stretch.{stretch}
use Rattle.bus.specs.declared.registers.Registers.{Registers}
use Rattle.bus.proofs.Access.{opened}

module _ (b : ℕ) (r : Registers) (memory : List ℕ) where
  -- a byte that is taken is stored, and the column moves on
  pub write_taken : access r (length memory) ≡ taken → replay (recorded_write b) (chip_of r memory) ≡ gives (chip_of (moved r with fresh ≔ 1) (set memory (address r.page r.column) (kept r.page b)))
  unfolding replay happened step write written
  write_taken h = rw (eq-eqb _ _ h)

  -- any other is refused with what it meets
  pub write_refused : (access r (length memory) ≡ taken → ⊥) → replay (recorded_write b) (chip_of r memory) ≡ refuses (access r (length memory))
  unfolding replay happened step write
  write_refused h = rw (ne_eqb _ _ h)

-- the column stays within the page
onward_within : (column : ℕ) → column ≤ last_column → onward column ≤ last_column
unfolding onward
onward_within column h = chosen (λ (c : ℕ). c ≤ last_column) (eqb column last_column) 0 (column + 1) (λ e. omega arith) (λ e. omega (arith, eqb-false column last_column e))

-- and the next is taken too
still_taken : (r : Registers) (size : ℕ) → access r size ≡ taken → access (moved r with fresh ≔ 1) size ≡ taken
unfolding access
still_taken r size h =
    let o = opened r size h in
    rw (le-ltb _ _ o.enough, lt-ltb _ _ o.page, eq-eqb _ _ o.awaited, le-leb _ _ (onward_within r.column o.column))

-- so all are
pub all_taken : (bytes : List ℕ) (r : Registers) (memory : List ℕ) → access r (length memory) ≡ taken → (stretch replay (map recorded_write bytes) (chip_of r memory)).number ≡ taken
unfolding stretch
all_taken [] r memory h = refl
all_taken (b ∷ rest) r memory h =
    let next = moved r with fresh ≔ 1 in
    let after = set memory (address r.page r.column) (kept r.page b) in
    rw (write_taken b r memory h) (all_taken rest next after (rw length-set (still_taken r (length memory) h)))
