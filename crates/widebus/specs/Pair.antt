-- The two chips of the wide terminal, side by side.
use Rattle.std.specs.Prelude.{ℕ, List}
use Rattle.bus.specs.Chip.{Chip}
use Rattle.bus.specs.Recorded.{chip_of}
pub use Rattle.bus.specs.CallsOnChip.{Lent, lent}
use Rattle.widebus.specs.declared.both.Both.{Both}
use Rattle.widebus.specs.declared.selection.Side.{Side}

-- One on the left, and one on the right.
pub record Pair (S : Type 0) : Type 0 where
  pub left : S
  pub right : S

infix 4 ◌beside◌
abbrev pub ◌beside◌ : {S : Type 0} → S → S → Pair S
l beside r = record { left = l; right = r }

-- The one on a side.
abbrev pub at : {S : Type 0} → Side → Pair S → S
at Side.Left pair = pair.left
at Side.Right pair = pair.right

-- The other side.
abbrev pub opposite : Side → Side
opposite Side.Left = Side.Right
opposite Side.Right = Side.Left

-- The chips with these registers and memories.
abbrev pub chips_of : Both → List ℕ → List ℕ → Pair Chip
chips_of registers left_memory right_memory = chip_of registers.left left_memory beside chip_of registers.right right_memory

-- The states and memories of both chips, lent to a call.
abbrev pub both_lent : List ℕ → List ℕ → List ℕ → List ℕ → Pair Lent
both_lent left_state left_memory right_state right_memory = lent left_state left_memory beside lent right_state right_memory
