-- What the code's own types stand for.
use Rattle.std.specs.Prelude.{ℕ, ◌≡◌, List, [], ◌∷◌, map, length, Result, Ok, Err}
use Rattle.constants.specs.Refusals.{Met, number_of_refusal, number_met}
use Rattle.constants.specs.declared.refusal.Refusal.{Refusal}
use Rattle.bus.specs.Chip.{Chip, reset_pulse}
use Rattle.bus.specs.Stretch.{Stretch}
use Rattle.trace.specs.Play.{stopped, done, played}
use Rattle.trace.specs.Play as play
use Rattle.trace.specs.Kinds.{Recorded, event, recorded_command, recorded_write, read_as, events_of, chip_of}
use Rattle.trace.specs.Run.{stop_of}
use Rattle.trace.specs.Run as run
use Rattle.trace.specs.declared.kind.Kind.{Kind}
use Rattle.trace.specs.declared.record.Ending.{Ending}
use Rattle.trace.specs.declared.records.Header.{Header}
use Rattle.trace.specs.declared.run.Halt.{Halt}
use Rattle.trace.specs.declared.run.Played.{Played}
use Rattle.trace.specs.declared.run.Stop.{Stop}

-- The events that a payload of a kind stands for.
unfoldable pub recorded_in : Kind → List ℕ → List Recorded
recorded_in Kind.Commands payload = map recorded_command payload
recorded_in Kind.Writes payload = map recorded_write payload
recorded_in Kind.Reads payload = map read_as payload
recorded_in Kind.Reset payload = event reset_pulse ∷ []

-- The number of a kind.
abbrev pub number_of_kind : Kind → ℕ
number_of_kind Kind.Commands = 1
number_of_kind Kind.Writes = 2
number_of_kind Kind.Reads = 3
number_of_kind Kind.Reset = 4

-- What is found for a header, a kind or a refusal: what a record with this header stands for, whatever its payload's bytes.
abbrev pub Named : Header → Result Kind Refusal → Type 0
Named header (Ok kind) = (header.kind ≡ number_of_kind kind) × ((payload : List ℕ) → length payload ≡ header.length → events_of header.kind payload ≡ play.gives (recorded_in kind payload))
Named header (Err refusal) = (payload : List ℕ) → length payload ≡ header.length → events_of header.kind payload ≡ play.refuses (number_of_refusal refusal)

-- What is met at an offset, with the offset.
abbrev pub halted : ℕ → Met → Result Unit Halt
halted at (Ok all) = Ok all
halted at (Err refusal) = Err (record { refusal = refusal; offset = at })

-- A stretch that ends at an offset, as the end of its record.
abbrev pub ended_at : ℕ → Stretch → Ending
ended_at at stretch = record { registers = stretch.registers; outcome = halted at stretch.outcome }

-- How a record ends, with the memory that is left beside it.
unfoldable pub ending_on : Result Unit Halt → Chip → play.Ending Chip
ending_on (Ok all) chip = done chip
ending_on (Err halt) chip = stopped (number_of_refusal halt.refusal) halt.offset chip

abbrev pub ending_of : Ending → List ℕ → play.Ending Chip
ending_of e memory = ending_on e.outcome (chip_of e.registers memory)

-- Where a run stopped, by the number of what it met.
abbrev pub stop_met : Stop → run.Stop
stop_met s = stop_of (number_met s.outcome) s.offset s.count

-- A played trace, with the memory that is left beside it.
unfoldable pub played_of : Played → List ℕ → play.Played Chip
played_of p memory = played (number_met p.stop.outcome) p.stop.offset p.stop.count (chip_of p.registers memory)
