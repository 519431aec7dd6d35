-- A stretch of events on the selected chips, as the code has it.
use Rattle.std.specs.Prelude.{ℕ, List}
use Rattle.constants.specs.Refusals.{number_met}
use Rattle.bus.specs.Chip.{Chip}
use Rattle.bus.specs.Stretch.{Stretched, stretched}
use Rattle.bus.specs.declared.stretch.Stretch as declared
use Rattle.widebus.specs.Pair.{Pair, chips_of}
use Rattle.widebus.specs.declared.both.Both.{Both}

-- The code's.
abbrev pub WideStretch : Type 0
WideStretch = declared.Stretch Both

-- With the memories that are left beside it.
abbrev pub wide_stretch_of : WideStretch → List ℕ → List ℕ → Stretched (Pair Chip)
wide_stretch_of s left_memory right_memory = stretched (chips_of s.registers left_memory right_memory) s.count (number_met s.outcome)
