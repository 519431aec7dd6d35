-- A stretch: events in order, up to the first that is refused. Over any machine that has a step.
use Rattle.std.specs.Prelude.{ℕ, ◌+◌, List, [], ◌∷◌}
use Rattle.constants.specs.Numbers
use Rattle.constants.specs.Refusals.{Met, number_met}
use Rattle.bus.specs.Result.{Result, on_result}
use Rattle.bus.specs.Chip.{Chip}
use Rattle.bus.specs.Recorded.{chip_of}
use Rattle.bus.specs.declared.registers.Registers.{Registers}
use Rattle.bus.specs.declared.stretch.Stretch as declared

-- What a stretch comes to: the state reached, how many events were taken, and the number that stopped it, 0 where all were taken.
pub record Stretched (S : Type 0) : Type 0 where
  pub state : S
  pub count : ℕ
  pub number : ℕ

abbrev pub stretched : {S : Type 0} → S → ℕ → ℕ → Stretched S
stretched s count stop = record { state = s; count = count; number = stop }

-- With so many taken before it.
abbrev pub counted_on : {S : Type 0} → ℕ → Stretched S → Stretched S
counted_on before rest = stretched rest.state (before + rest.count) rest.number

-- A refused event has not happened.
unfoldable pub stretch : {S E : Type 0} → (E → S → Result S) → List E → S → Stretched S
stretch step [] s = stretched s 0 Numbers.taken
stretch step (event ∷ rest) s = on_result (step event s) (λ number. stretched s 0 number) (λ t. counted_on 1 (stretch step rest t))

-- The code's of one chip.
abbrev pub Stretch : Type 0
Stretch = declared.Stretch Registers

-- The code's, with the memory that is left beside it.
abbrev pub stretch_of : Stretch → List ℕ → Stretched Chip
stretch_of s memory = stretched (chip_of s.registers memory) s.count (number_met s.outcome)

-- The code's, stopped or all taken after so many.
abbrev pub halted_at : Met → ℕ → Registers → Stretch
halted_at outcome count r = record { registers = r; count = count; outcome = outcome }
