-- What holds of a played trace over any machine that has a step, whatever its events. The chip is one (Kinds), and a second one cites the same. proofs/AnyMachine.antt proves it.
use Rattle.std.specs.Prelude.{ℕ, ◌+◌, ◌≡◌, ◌↔◌, true, List, [], ◌∷◌, ◌++◌, length, take, drop}
use Rattle.constants.specs.Numbers.{taken, header_cut}
use Rattle.constants.specs.Sizes.{header_size}
use Rattle.bus.specs.Bytes.{All}
use Rattle.bus.specs.Result.{Matches}
use Rattle.bus.specs.StretchLaws.{NeverZero}
use Rattle.trace.specs.Records.{kind_of, payload_of, whole, CutShort, split, records_in}
use Rattle.trace.specs.Play.{Result, refuses, gives, Machine, done, Played, played, play_events, play}
use Rattle.trace.specs.OneByOne.{script_from, one_by_one}

-- A machine that refuses with no 0, which is the number of what is taken.
pub record Sound {S E : Type 0} (machine : Machine S E) : Type 0 where
  pub events : (kind : ℕ) (payload : List ℕ) (number : ℕ) → machine.events kind payload ≡ refuses number → number ≡ taken → ⊥
  pub step : NeverZero machine.step

-- What is played from an offset on, after so many records: offset and count are added.
abbrev pub further : {S : Type 0} → ℕ → ℕ → Played S → Played S
further offset count p = played p.number (offset + p.offset) (count + p.count) p.state

-- The records before an offset are played, and all are taken.
abbrev pub Reached : {S E : Type 0} → Machine S E → List ℕ → S → ℕ → ℕ → S → Type 0
Reached machine trace s at count t = play machine (split (take at trace)) s ≡ played taken at count t

-- How a played trace ends: all is taken; a header is cut, or refused by its kind and payload, at the record's first byte; or an event of a record is refused, at its byte, and the
-- state is the one that the events before it left.
pub data EndsAs {S E : Type 0} (machine : Machine S E) (trace : List ℕ) (s : S) : Played S → Type 0 where
  all_taken : (count : ℕ) (t : S) → Reached machine trace s (length trace) count t → EndsAs machine trace s (played taken (length trace) count t)
  header_is_cut : (at count : ℕ) (t : S) → Reached machine trace s at count t → CutShort (drop at trace) → EndsAs machine trace s (played header_cut at count t)
  header_refused : (at count number : ℕ) (t : S) → Reached machine trace s at count t → whole (drop at trace) ≡ true → machine.events (kind_of (drop at trace)) (payload_of (drop at trace)) ≡ refuses number
      → EndsAs machine trace s (played number at count t)
  event_refused : (at count number : ℕ) (t u : S) (before : List E) (event : E) (rest : List E) → Reached machine trace s at count t → whole (drop at trace) ≡ true
      → machine.events (kind_of (drop at trace)) (payload_of (drop at trace)) ≡ gives (before ++ event ∷ rest) → play_events machine before (at + header_size) t ≡ done u → machine.step event u ≡ refuses number
      → EndsAs machine trace s (played number (at + header_size + length before) count u)

-- What holds of what a result gives.
abbrev pub Gives : {A : Type 0} → (A → Type 0) → Result A → Type 0
Gives P (refuses number) = Unit {0}
Gives P (gives a) = P a

-- One number, offset and count, and states that are related.
pub record SamePlay {S : Type 0} (R : S → S → Type 0) (p q : Played S) : Type 0 where
  pub number : p.number ≡ q.number
  pub offset : p.offset ≡ q.offset
  pub count : p.count ≡ q.count
  pub state : R p.state q.state

pub record AnyMachine {S E : Type 0} (machine : Machine S E) : Type 1 where
  -- A played trace is what its events give one by one, each from the state that the one before it left, up to the first refused one.
  pub by_events : (trace : List ℕ) (s : S) → play machine (split trace) s ≡ one_by_one machine (script_from machine (split trace) 0) s
  -- An empty trace is taken and changes nothing.
  pub empty : (s : S) → play machine (split []) s ≡ played taken 0 0 s
  -- It ends in one of four ways, and no other.
  pub ends : Sound machine → (trace : List ℕ) (s : S) (p : Played S) → play machine (split trace) s ≡ p ↔ EndsAs machine trace s p
  -- Where all is taken, the offset is the trace's length and the count is of all its records.
  pub whole : Sound machine → (trace : List ℕ) (s : S) → (play machine (split trace) s).number ≡ taken
      → ((play machine (split trace) s).offset ≡ length trace) × ((play machine (split trace) s).count ≡ records_in (split trace))
  -- Whole records followed by more: `a ++ b` is `a`, then `b` from what it left, with offset and count added.
  pub joined : Sound machine → (a b : List ℕ) (s : S) → (play machine (split a) s).number ≡ taken
      → play machine (split (a ++ b)) s ≡ further (play machine (split a) s).offset (play machine (split a) s).count (play machine (split b) (play machine (split a) s).state)
  -- What holds of the state (P) and is kept by each event (Q) that a trace whose bytes have a property (R) can bring, holds of the state that is left.
  pub kept : (R : ℕ → Type 0) (P : S → Type 0) (Q : E → Type 0) → ((kind : ℕ) (payload : List ℕ) → All R payload → Gives (All Q) (machine.events kind payload))
      → ((event : E) (s : S) → Q event → P s → Gives P (machine.step event s))
      → (trace : List ℕ) (s : S) → All R trace → P s → P (play machine (split trace) s).state
  -- Where related states meet each event alike, refused with one number or led to related states, a trace is played alike from them.
  pub alike : (R : S → S → Type 0) → ((event : E) (s t : S) → R s t → Matches R (machine.step event s) (machine.step event t))
      → (trace : List ℕ) (s t : S) → R s t → SamePlay R (play machine (split trace) s) (play machine (split trace) t)
