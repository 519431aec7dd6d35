-- Document 00, demand 1, and document 01, "The trace": what a run does as a whole. proofs/RunLaws.antt proves `RunLaws`; Given.antt has its numbers.
use Rattle.std.specs.Prelude.{ℕ, ◌+◌, ◌≡◌, ◌≢◌, List, [], ◌∷◌, ◌++◌, length, drop}
use Rattle.constants.specs.Numbers.{taken}
use Rattle.constants.specs.Sizes.{image_size, memory_size}
use Rattle.bus.specs.Registers.{registers_of}
use Rattle.bus.specs.Calls.{call}
use Rattle.bus.specs.Bytes.{Bytes}
use Rattle.trace.specs.Records.{split, records_in}
use Rattle.trace.specs.Kinds.{Recorded, chip_of, the_chip}
use Rattle.trace.specs.AnyMachine.{Sound, AnyMachine}
use Rattle.trace.specs.OneByOne.{Placed, script_from, one_by_one}
use Rattle.trace.specs.ByCalls.{called_by, meets, by_calls, run_by_calls}
use Rattle.trace.specs.Run.{Ran, ran, stop_of, ran_of, run}
use Rattle.trace.specs.Given.{events_in, EachTaken}
use Rattle.trace.specs.Run.{Stop}
use Rattle.bus.specs.Image.{Accepted}

-- What the calls of events leave.
abbrev pub left_by : List (Placed Recorded) → List ℕ → List ℕ → Ran
left_by events state memory = by_calls events (stop_of taken 0 0) state memory

-- The number that an event meets by the reply of its call on what the calls before it left.
abbrev pub met_after : List (Placed Recorded) → Placed Recorded → List ℕ → List ℕ → ℕ
met_after before p state memory = meets p.event (call (called_by p.event) (left_by before state memory).state (left_by before state memory).memory).reply

-- A run's outcome with the offset and the count of another before it added.
abbrev pub run_further : Stop → Ran → Ran
run_further before r = ran (stop_of r.stop.number (before.offset + r.stop.offset) (before.count + r.stop.count)) r.state r.memory

pub record RunLaws (state memory : List ℕ) : Type 0 where
  -- A run is what its events' calls give one by one on the lent state and memory, up to the first refused one.
  pub by_calls : Accepted state memory → (trace : List ℕ) → Bytes trace → run state memory trace ≡ run_by_calls state memory trace
  -- It is what the chip's steps give one by one from the image's registers, up to the first refused one; the image of the registers that are left is stored.
  pub by_steps : Accepted state memory → (trace : List ℕ) → run state memory trace ≡ ran_of (one_by_one the_chip (script_from the_chip (split trace) 0) (chip_of (registers_of state) memory)) state
  -- Demand 1: a run stops at its first refused event, at its byte and with the count of the records before its own. The event has changed nothing: what the events before it left stands.
  pub first_refused : Accepted state memory → (trace : List ℕ) → Bytes trace → (before : List (Placed Recorded)) (p : Placed Recorded) (rest : List (Placed Recorded))
      → events_in trace ≡ before ++ p ∷ rest → EachTaken before state memory → met_after before p state memory ≢ taken
      → run state memory trace ≡ ran (stop_of (met_after before p state memory) p.offset p.before) (left_by before state memory).state (left_by before state memory).memory
  -- An empty trace is taken, with offset 0, count 0 and nothing changed.
  pub empty : Accepted state memory → run state memory [] ≡ ran (stop_of taken 0 0) state memory
  -- Whole records followed by more: where `a` is taken, `a ++ b` is `a`, then `b` from what it left, with offset and count added.
  pub joined : (a b : List ℕ) → Bytes a → (run state memory a).stop.number ≡ taken
      → run state memory (a ++ b) ≡ run_further (run state memory a).stop (run (run state memory a).state (run state memory a).memory b)
  -- Where all is taken, the offset is the trace's length and the count is of all its records.
  pub whole : (trace : List ℕ) → (run state memory trace).stop.number ≡ taken → ((run state memory trace).stop.offset ≡ length trace) × ((run state memory trace).stop.count ≡ records_in (split trace))
  -- A legal image stays legal.
  pub stays_legal : Accepted state memory → (trace : List ℕ) → Bytes trace → Accepted (run state memory trace).state (run state memory trace).memory
  -- Bytes past the needed lengths never change, and the lengths stay.
  pub state_past : (trace : List ℕ) → drop image_size (run state memory trace).state ≡ drop image_size state
  pub memory_past : (trace : List ℕ) → drop memory_size (run state memory trace).memory ≡ drop memory_size memory
  pub state_length : (trace : List ℕ) → length (run state memory trace).state ≡ length state
  pub memory_length : (trace : List ℕ) → length (run state memory trace).memory ≡ length memory

-- The chip is a machine that refuses with no 0, so that all of AnyMachine.antt holds of it.
pub record ChipAsMachine : Type 1 where
  pub sound : Sound the_chip
  pub laws : AnyMachine the_chip
