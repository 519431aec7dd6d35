-- The events of a whole trace one by one, for the law that a played trace is what they give in order up to the first refused one.
use Rattle.std.specs.Prelude.{ℕ, ◌+◌, List, [], ◌∷◌, ◌++◌}
use Rattle.constants.specs.Numbers.{taken, header_cut}
use Rattle.constants.specs.Sizes.{header_size}
use Rattle.trace.specs.Records.{Trace, ended, cut, ◌then◌}
use Rattle.trace.specs.Play.{Result, on_result, Machine, Played, played}

-- An event of a trace, the offset of its byte, and the count of records before its own.
pub record Placed (E : Type 0) : Type 0 where
  pub event : E
  pub offset : ℕ
  pub before : ℕ

-- The events of a record's payload, the first at an offset.
abbrev pub placed : {E : Type 0} → List E → ℕ → ℕ → List (Placed E)
placed [] at count = []
placed (e ∷ rest) at count = record { event = e; offset = at; before = count } ∷ placed rest (at + 1) count

-- All the events of a trace in order, up to the first header that is refused; and what the trace answers where none of them is.
pub record Script (E : Type 0) : Type 0 where
  pub events : List (Placed E)
  pub number : ℕ
  pub offset : ℕ
  pub count : ℕ

abbrev pub script : {E : Type 0} → List (Placed E) → ℕ → ℕ → ℕ → Script E
script list n at c = record { events = list; number = n; offset = at; count = c }

unfoldable pub script_from : {S E : Type 0} → Machine S E → Trace → ℕ → Script E
script_from machine (ended offset) count = script [] taken offset count
script_from machine (cut offset) count = script [] header_cut offset count
script_from machine (r then rest) count =
    on_result (machine.events r.kind r.payload) (λ number. script [] number r.place count)
    (λ events.
    let later = script_from machine rest (count + 1) in
    script (placed events (r.place + header_size) count ++ later.events) later.number later.offset later.count)

-- The events applied one by one, each to the state that the one before it left, up to the first refused one.
unfoldable pub applied : {S E : Type 0} → (E → S → Result S) → List (Placed E) → ℕ → ℕ → ℕ → S → Played S
applied step [] number offset count s = played number offset count s
applied step (p ∷ rest) number offset count s =
    on_result (step p.event s) (λ refusal. played refusal p.offset p.before s) (λ t. applied step rest number offset count t)

abbrev pub one_by_one : {S E : Type 0} → Machine S E → Script E → S → Played S
one_by_one machine all s = applied machine.step all.events all.number all.offset all.count s
