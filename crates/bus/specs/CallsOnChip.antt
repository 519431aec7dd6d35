-- The calls beside the chip: on a lent state and memory, a call does to image and memory what its event does to registers and memory, and answers its number. What is proved of the chip, the samples among it, so holds of the calls.
use Rattle.std.specs.Prelude.{ℕ, ◌≡◌, false, List, [], ◌∷◌, ◌++◌, drop}
use Rattle.constants.specs.Sizes.{image_size, memory_size}
use Rattle.constants.specs.Numbers.{taken}
use Rattle.bus.specs.Registers.{image_of, registers_of, power_on}
use Rattle.bus.specs.Chip.{Chip, Event, reset_pulse, step, chip_after, after_events}
use Rattle.bus.specs.Recorded.{chip_of}
use Rattle.bus.specs.Image.{short}
use Rattle.bus.specs.Start.{registers_at_start, memory_at_start, start_of}
use Rattle.bus.specs.Calls.{called, reply_of, call}
use Rattle.bus.specs.Bytes.{All, IsByte}
use Rattle.bus.specs.Image.{Accepted}
use Rattle.bus.specs.declared.registers.Registers.{Registers}
use Rattle.bus.specs.declared.start.Hung.{Hung}

-- The chip that a lent state and memory hold.
abbrev pub chip_in : List ℕ → List ℕ → Chip
chip_in state memory = chip_of (registers_of state) memory

-- A lent state with the image of registers in its first 23 bytes, the bytes past them as they were.
abbrev pub imaged_in : List ℕ → Registers → List ℕ
imaged_in state r = image_of r ++ drop image_size state

-- A state and memory, lent to one call after another.
pub record Lent : Type 0 where
  pub state : List ℕ
  pub memory : List ℕ

abbrev pub lent : List ℕ → List ℕ → Lent
lent image display = record { state = image; memory = display }

-- What the calls of events leave, one after another; those after a refused one are made all the same.
unfoldable pub after_calls : List Event → List ℕ → List ℕ → Lent
after_calls [] state memory = lent state memory
after_calls (event ∷ events) state memory = after_calls events (call event state memory).state (call event state memory).memory

pub record CallsOnChip : Type 0 where
  -- A call answers the step's number, byte and dummy mark, and leaves the image of the registers and the memory that the chip has after the event.
  pub one_call : (event : Event) (state memory : List ℕ) → Accepted state memory
      → call event state memory ≡ called (reply_of (step event (registers_of state) memory).answer) (imaged_in state (chip_after event (chip_in state memory)).registers) (chip_after event (chip_in state memory)).memory
  -- The reset pin leaves the image of power-on, whatever the image was.
  pub the_reset_pin : (state memory : List ℕ) → short state memory ≡ false → call reset_pulse state memory ≡ called (record { number = taken; byte = 0; dummy = false }) (imaged_in state power_on) memory
  -- Calls one after another leave the image and the memory of the chip after their events.
  pub call_by_call : (events : List Event) (state memory : List ℕ) → All IsByte events → Accepted state memory
      → after_calls events state memory ≡ lent (imaged_in state (after_events events (chip_in state memory)).registers) (after_events events (chip_in state memory)).memory
  -- And the next call answers as the chip after those events does.
  pub the_next : (events : List Event) (event : Event) (state memory : List ℕ) → All IsByte events → Accepted state memory
      → (call event (after_calls events state memory).state (after_calls events state memory).memory).reply
      ≡ reply_of (step event (after_events events (chip_in state memory)).registers (after_events events (chip_in state memory)).memory).answer
  -- From either start they are those of the chip with its registers and zero memory (upright, the chip at power-on, of which the samples speak), the bytes past 1,188 as they were lent.
  pub from_the_start : (hung : Hung) (events : List Event) (state memory : List ℕ) → All IsByte events → short state memory ≡ false → let chip = chip_of (registers_at_start hung) (memory_at_start ++ drop memory_size memory) in
      after_calls events (start_of hung state memory).state (start_of hung state memory).memory ≡ lent (imaged_in state (after_events events chip).registers) (after_events events chip).memory
