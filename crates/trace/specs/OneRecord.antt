-- Document 01, "The trace": a run of one record, by its kind. With `joined` of RunLaws.antt, and 8 and 9 of Given.antt, this says what every run does.
use Rattle.std.specs.Prelude.{ℕ, ◌+◌, ◌≤◌, ◌<◌, ◌≡◌, List, [], map, length}
use Rattle.constants.specs.Numbers.{taken}
use Rattle.constants.specs.Sizes.{header_size}
use Rattle.bus.specs.Chip.{reset_pulse}
use Rattle.bus.specs.Calls.{call}
use Rattle.bus.specs.Bytes.{Bytes}
use Rattle.trace.specs.Records.{record_bytes}
use Rattle.trace.specs.OneByOne.{placed}
use Rattle.trace.specs.ByCalls.{by_calls}
use Rattle.trace.specs.Run.{ran, stop_of, run}
use Rattle.trace.specs.Given.{recorded_by}
use Rattle.bus.specs.Image.{Accepted}

pub record OneRecord (state memory : List ℕ) : Type 0 where
  -- Kind 1: command bytes. Kind 2: data written. Kind 3: bytes read. Each byte is one event, made by its call; the first stands at offset 4.
  pub bytes : Accepted state memory → (kind : ℕ) (payload : List ℕ) → 1 ≤ kind → kind ≤ 3 → Bytes payload → length payload < 65536
      → run state memory (record_bytes kind payload) ≡ by_calls (placed (map (recorded_by kind) payload) header_size 0) (stop_of taken (header_size + length payload) 1) state memory
  -- Kind 4: reset pin, length 0.
  pub reset_pin : Accepted state memory → run state memory (record_bytes 4 []) ≡ ran (stop_of taken header_size 1) (call reset_pulse state memory).state (call reset_pulse state memory).memory
