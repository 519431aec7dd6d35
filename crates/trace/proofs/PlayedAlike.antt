-- From related states that meet each event alike, a trace is played alike.
-- Assumes nothing.
use mathlib.Core.Path.{◌≡◌, refl}
use mathlib.Core.List.{List, [], ◌∷◌}
use Prim.Native.Nat.{ℕ, ◌+◌}
use Rattle.constants.specs.Sizes.{header_size}
use Rattle.bus.specs.Result.{Matches}
use Rattle.trace.specs.Records.{Record, Trace, ended, cut, ◌then◌}
use Rattle.trace.specs.Play.{Result, refuses, gives, on_result, Machine, Ending, stopped, done, on_ending, Played, played, play_events, play_record, play_from}
use Rattle.trace.specs.AnyMachine.{SamePlay}

module _ {S E : Type 0} (machine : Machine S E) (R : S → S → Type 0) (meets : (event : E) (s t : S) → R s t → Matches R (machine.step event s) (machine.step event t)) where
  -- a record's events end alike
  abbrev EndAlike : Ending S → Ending S → Type 0
  EndAlike (stopped number offset s) (stopped other place t) = (number ≡ other) × (offset ≡ place) × R s t
  EndAlike (done s) (done t) = R s t
  EndAlike (stopped number offset s) (done t) = ⊥
  EndAlike (done s) (stopped number offset t) = ⊥

  on_step : (one other : Result S) (offset : ℕ) (s t : S) (go : S → Ending S) → Matches R one other → R s t → ((u v : S) → R u v → EndAlike (go u) (go v))
      → EndAlike (on_result one (λ number. stopped number offset s) go) (on_result other (λ number. stopped number offset t) go)
  on_step (refuses number) (refuses same) offset s t go m r later = (m, refl, r)
  on_step (gives u) (gives v) offset s t go m r later = later u v m
  on_step (refuses number) (gives v) offset s t go m r later = absurd m
  on_step (gives u) (refuses number) offset s t go m r later = absurd m

  events_alike : (events : List E) (offset : ℕ) (s t : S) → R s t → EndAlike (play_events machine events offset s) (play_events machine events offset t)
  unfolding play_events
  events_alike [] offset s t r = r
  events_alike (event ∷ rest) offset s t r = on_step (machine.step event s) (machine.step event t) offset s t _ (meets event s t r) r (events_alike rest (offset + 1))

  record_alike : (one : Record) (s t : S) → R s t → EndAlike (play_record machine one s) (play_record machine one t)
  unfolding play_record
  record_alike one s t r = by (machine.events one.kind one.payload)
    where
      by : (header : Result (List E)) → EndAlike (on_result header (λ number. stopped number one.place s) (λ events. play_events machine events (one.place + header_size) s)) (on_result header (λ number. stopped number one.place t) (λ events. play_events machine events (one.place + header_size) t))
      by (refuses number) = (refl, refl, r)
      by (gives events) = events_alike events (one.place + header_size) s t r

  on_end : (one other : Ending S) (count : ℕ) (go : S → Played S) → EndAlike one other → ((u v : S) → R u v → SamePlay R (go u) (go v))
      → SamePlay R (on_ending one (λ number offset t. played number offset count t) go) (on_ending other (λ number offset t. played number offset count t) go)
  on_end (stopped number offset s) (stopped same place t) count go e later = record { number = e.0; offset = e.1; count = refl; state = e.2 }
  on_end (done s) (done t) count go e later = later s t e
  on_end (stopped number offset s) (done t) count go e later = absurd e
  on_end (done s) (stopped number offset t) count go e later = absurd e

  pub played_alike : (trace : Trace) (count : ℕ) (s t : S) → R s t → SamePlay R (play_from machine trace count s) (play_from machine trace count t)
  unfolding play_from
  played_alike (ended offset) count s t r = record { number = refl; offset = refl; count = refl; state = r }
  played_alike (cut offset) count s t r = record { number = refl; offset = refl; count = refl; state = r }
  played_alike (one then rest) count s t r = on_end (play_record machine one s) (play_record machine one t) count _ (record_alike one s t r) (played_alike rest (count + 1))
