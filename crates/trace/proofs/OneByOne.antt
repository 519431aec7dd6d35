-- A played trace is what its events give one by one, over any machine.
-- Assumes nothing.
use mathlib.Core.Path.{◌≡◌, refl, sym, ◌∙◌, ap, fun_ext}
use mathlib.Core.List.{List, [], ◌∷◌, ◌++◌}
use Prim.Native.Nat.{ℕ, ◌+◌}
use Rattle.constants.specs.Sizes.{header_size}
use Rattle.trace.specs.Play.{Result, refuses, gives, on_result, Machine, stopped, on_ending, Played, played, play_events, play_record, play_from}
use Rattle.trace.specs.Records.{Trace, ended, cut, ◌then◌}
use Rattle.trace.specs.OneByOne.{Placed, placed, Script, script, script_from, applied, one_by_one}

-- two ways to go by one result, equal where they are equal in each of its cases
pub by_cases : {A B C : Type 0} (f : B → C) (result : Result A) {stop : ℕ → C} {go : A → C} {stop' : ℕ → B} {go' : A → B}
    → ((number : ℕ) → stop number ≡ f (stop' number)) → ((a : A) → go a ≡ f (go' a)) → on_result result stop go ≡ f (on_result result stop' go')
by_cases f (refuses number) p q = p number
by_cases f (gives a) p q = q a

module _ {S E : Type 0} (machine : Machine S E) where
  -- a record's events, then others
  events_then : (events : List E) (at count : ℕ) (others : List (Placed E)) (number offset whole : ℕ) (s : S)
      → applied machine.step (placed events at count ++ others) number offset whole s ≡ on_ending (play_events machine events at s) (λ n o t. played n o count t) (λ t. applied machine.step others number offset whole t)
  unfolding applied play_events
  events_then [] at count others number offset whole s = refl
  events_then (e ∷ rest) at count others number offset whole s =
      by_cases (λ ending. on_ending ending (λ n o t. played n o count t) (λ t. applied machine.step others number offset whole t)) (machine.step e s)
      (λ n. refl)
      (λ t. events_then rest (at + 1) count others number offset whole t)

  -- a record by what its header is judged, then the rest
  record_then : (header : Result (List E)) (place count : ℕ) (s : S) (go : S → Played S) (later : Script E) → ((t : S) → go t ≡ one_by_one machine later t)
      → on_ending (on_result header (λ number. stopped number place s) (λ events. play_events machine events (place + header_size) s)) (λ n o t. played n o count t) go ≡ one_by_one machine (on_result header (λ number. script [] number place count) (λ events. script (placed events (place + header_size) count ++ later.events) later.number later.offset later.count)) s
  unfolding applied
  record_then (refuses number) place count s go later same = refl
  record_then (gives events) place count s go later same =
      ap (λ (rest : S → Played S). on_ending (play_events machine events (place + header_size) s) (λ n o t. played n o count t) rest) (fun_ext same) ∙
      sym (events_then events (place + header_size) count later.events later.number later.offset later.count s)

  pub one_by_one_lem : (trace : Trace) (count : ℕ) (s : S) → play_from machine trace count s ≡ one_by_one machine (script_from machine trace count) s
  unfolding play_from play_record script_from applied
  one_by_one_lem (ended offset) count s = refl
  one_by_one_lem (cut offset) count s = refl
  one_by_one_lem (r then rest) count s =
      record_then (machine.events r.kind r.payload) r.place count s (play_from machine rest (count + 1)) (script_from machine rest (count + 1)) (one_by_one_lem rest (count + 1))
