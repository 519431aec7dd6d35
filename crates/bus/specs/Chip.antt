-- The chip as a machine: its state is registers and display memory, and each bus event is a step.
use Rattle.std.specs.Prelude.{ℕ, List, [], ◌∷◌, length}
use Rattle.bus.specs.Events.{command, write, written, read, reset_pin}
use Rattle.bus.specs.declared.registers.Registers.{Registers}
use Rattle.bus.specs.Answer.{Answer}

pub record Chip : Type 0 where
  pub registers : Registers
  pub memory : List ℕ

-- The four bus events.
pub data Event : Type 0 where
  command_byte : ℕ → Event
  data_written : ℕ → Event
  data_read : Event
  reset_pulse : Event

-- What a step answers, and the memory after it.
pub record Outcome : Type 0 where
  pub answer : Answer
  pub memory : List ℕ

unfoldable pub step : Event → Registers → List ℕ → Outcome
step (command_byte b) r memory = record { answer = command b r; memory = memory }
step (data_written b) r memory = record { answer = write r (length memory); memory = written b r memory }
step data_read r memory = record { answer = read r memory; memory = memory }
step reset_pulse r memory = record { answer = reset_pin r; memory = memory }

-- The registers after an answer: those that a taken event leaves, and those before where it was refused.
unfoldable pub registers_after : Answer → Registers → Registers
registers_after (Answer.Taken after) r = after.registers
registers_after (Answer.Refused number) r = r

-- What holds of the registers that a taken event leaves.
abbrev pub Leaves : (Registers → Type 0) → Answer → Type 0
Leaves P (Answer.Taken after) = P after.registers
Leaves P (Answer.Refused number) = Unit {0}

-- The chip after an event.
unfoldable pub chip_after : Event → Chip → Chip
chip_after event chip =
    record {
      registers = registers_after (step event chip.registers chip.memory).answer chip.registers;
      memory = (step event chip.registers chip.memory).memory;
    }

-- The chip after events, one by one.
unfoldable pub after_events : List Event → Chip → Chip
after_events [] chip = chip
after_events (event ∷ events) chip = after_events events (chip_after event chip)
