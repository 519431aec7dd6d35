-- A trace played over any machine that has a step, up to the first refusal.
use Rattle.std.specs.Prelude.{ℕ, ◌+◌, List, [], ◌∷◌}
use Rattle.constants.specs.Numbers.{taken, header_cut}
use Rattle.constants.specs.Sizes.{header_size}
pub use Rattle.bus.specs.Result.{Result, refuses, gives, on_result}
use Rattle.trace.specs.Records.{Record, Trace, ended, cut, ◌then◌}

-- A machine with states S and events E: the events that a record of a kind and payload stands for, and the state after an event.
pub record Machine (S E : Type 0) : Type 0 where
  pub events : ℕ → List ℕ → Result (List E)
  pub step : E → S → Result S

-- How a record's events end: all done, or stopped at one with its refusal number and offset; and the state that is left.
pub data Ending (S : Type 0) : Type 0 where
  stopped : ℕ → ℕ → S → Ending S
  done : S → Ending S

abbrev pub on_ending : {S B : Type 0} → Ending S → (ℕ → ℕ → S → B) → (S → B) → B
on_ending (stopped number offset s) stop go = stop number offset s
on_ending (done s) stop go = go s

-- What a played trace answers: a number, the offset where it stopped and the count of whole records done; and the state that it leaves.
pub record Played (S : Type 0) : Type 0 where
  pub number : ℕ
  pub offset : ℕ
  pub count : ℕ
  pub state : S

abbrev pub played : {S : Type 0} → ℕ → ℕ → ℕ → S → Played S
played n at c s = record { number = n; offset = at; count = c; state = s }

-- A record's events in order, each with a byte of its own, the first at an offset. A refused event has not happened.
unfoldable pub play_events : {S E : Type 0} → Machine S E → List E → ℕ → S → Ending S
play_events machine [] offset s = done s
play_events machine (event ∷ rest) offset s =
    on_result (machine.step event s) (λ number. stopped number offset s) (λ t. play_events machine rest (offset + 1) t)

-- A record: its header is checked before its payload acts, and refused at the record's first byte.
unfoldable pub play_record : {S E : Type 0} → Machine S E → Record → S → Ending S
play_record machine r s =
    on_result (machine.events r.kind r.payload) (λ number. stopped number r.place s) (λ events. play_events machine events (r.place + header_size) s)

-- The records in order, after `count` whole ones.
unfoldable pub play_from : {S E : Type 0} → Machine S E → Trace → ℕ → S → Played S
play_from machine (ended offset) count s = played taken offset count s
play_from machine (cut offset) count s = played header_cut offset count s
play_from machine (r then rest) count s =
    on_ending (play_record machine r s) (λ number offset t. played number offset count t) (λ t. play_from machine rest (count + 1) t)

abbrev pub play : {S E : Type 0} → Machine S E → Trace → S → Played S
play machine trace s = play_from machine trace 0 s
