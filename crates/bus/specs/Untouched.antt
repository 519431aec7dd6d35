-- Documents 00 and 01: what a call leaves as it was, and the one byte that a write changes.
use Rattle.std.specs.Prelude.{ℕ, ◌<◌, ◌≡◌, List, ◌≢◌, length, get_or, drop}
use Rattle.constants.specs.Sizes.{image_size, memory_size}
use Rattle.constants.specs.Numbers.{taken}
use Rattle.bus.specs.Registers.{registers_of}
use Rattle.bus.specs.Memory.{address, kept}
use Rattle.bus.specs.Chip.{Event, data_written}
use Rattle.bus.specs.Calls.{call}
use Rattle.bus.specs.Given.{number_from}

-- Where page and column of a lent state lie in the memory.
abbrev pub pointed_at : List ℕ → ℕ
pointed_at state = address (registers_of state).page (registers_of state).column

pub record Untouched (event : Event) (state memory : List ℕ) : Type 0 where
  -- A refused event changes no register and no display memory.
  pub refused : number_from event state memory ≢ taken → ((call event state memory).state ≡ state) × ((call event state memory).memory ≡ memory)
  -- Bytes of a lent buffer past its needed length never change.
  pub past : (drop image_size (call event state memory).state ≡ drop image_size state) × (drop memory_size (call event state memory).memory ≡ drop memory_size memory)
  -- State and memory stay as long as they were.
  pub lengths : (length (call event state memory).state ≡ length state) × (length (call event state memory).memory ≡ length memory)
  -- No event but a data write touches the memory; neither software reset nor reset pin does.
  pub no_write : ((b : ℕ) → event ≢ data_written b) → (call event state memory).memory ≡ memory

pub record OneByteWritten (b : ℕ) (state memory : List ℕ) : Type 0 where
  -- Page and column lie in the memory's 1,188 bytes.
  pub inside : number_from (data_written b) state memory ≡ taken → pointed_at state < memory_size
  -- A write stores one byte there; on page 8 its bit 0 is kept.
  pub here : number_from (data_written b) state memory ≡ taken → get_or (call (data_written b) state memory).memory (pointed_at state) 0 ≡ kept (registers_of state).page b
  -- It changes no other.
  pub elsewhere : (place : ℕ) → place ≢ pointed_at state → get_or (call (data_written b) state memory).memory place 0 ≡ get_or memory place 0
