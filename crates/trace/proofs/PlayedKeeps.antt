-- What holds of a machine's state, and is kept by each event that a trace can bring, holds of what a played trace leaves: of any trace, or of one whose bytes have a property.
-- Assumes nothing.
use mathlib.Core.Bool.{Bool, true, false, cond}
use mathlib.Core.List.{List, [], ◌∷◌}
use Prim.Native.Nat.{ℕ, zero, suc, ◌+◌}
use lib.ListN.{take, drop}
use Rattle.constants.specs.Sizes.{header_size}
use Rattle.bus.specs.Bytes.{All}
use Rattle.trace.specs.AnyMachine.{Gives}
use Rattle.trace.specs.Records.{Record, Trace, ended, cut, ◌then◌, length_of, whole, record_at, split_from}
use Rattle.trace.specs.Play.{Result, refuses, gives, on_result, Machine, Ending, stopped, done, on_ending, Played, played, play_events, play_record, play_from}

pub all_drop : {A : Type 0} (P : A → Type 0) (n : ℕ) (l : List A) → All P l → All P (drop n l)
all_drop P zero l h = h
all_drop P (suc n) [] h = h
all_drop P (suc n) (a ∷ l) h = all_drop P n l h.1

pub all_take : {A : Type 0} (P : A → Type 0) (n : ℕ) (l : List A) → All P l → All P (take n l)
all_take P zero l h = tt
all_take P (suc n) [] h = h
all_take P (suc n) (a ∷ l) h = (h.0, all_take P n l h.1)

-- what holds of any number holds of all of a list
pub all_any : {A : Type 0} (l : List A) → All (λ (a : A). Unit {0}) l
all_any [] = tt
all_any (a ∷ l) = (tt, all_any l)

-- every byte of every payload has a property
abbrev pub Carries : (ℕ → Type 0) → Trace → Type 0
Carries R (ended offset) = Unit {0}
Carries R (cut offset) = Unit {0}
Carries R (r then rest) = All R r.payload × Carries R rest

module _ (R : ℕ → Type 0) where
  carries : (there : Bool) (r : Record) (rest : Trace) (offset : ℕ) → All R r.payload → Carries R rest → Carries R (cond there (r then rest) (cut offset))
  carries true r rest offset p q = (p, q)
  carries false r rest offset p q = tt

  pub split_carries : (left offset : ℕ) (bytes : List ℕ) → All R bytes → Carries R (split_from left offset bytes)
  unfolding split_from
  split_carries left offset [] h = tt
  split_carries (suc left) offset (byte ∷ bytes) h = split_carries left (offset + 1) bytes h.1
  split_carries zero offset (byte ∷ bytes) h =
      let all = byte ∷ bytes in
      carries (whole all) (record_at offset all) _ offset (all_take _ (length_of all) (drop header_size all) (all_drop _ header_size all h)) (split_carries (3 + length_of all) (offset + 1) bytes h.1)

abbrev pub Leaves : {S : Type 0} → (S → Type 0) → Ending S → Type 0
Leaves P (stopped number offset s) = P s
Leaves P (done s) = P s

module _ {S E : Type 0} (machine : Machine S E) (R : ℕ → Type 0) (P : S → Type 0) (Q : E → Type 0) (brings : (kind : ℕ) (payload : List ℕ) → All R payload → Gives (All Q) (machine.events kind payload)) (keeps : (e : E) (s : S) → Q e → P s → Gives P (machine.step e s)) where
  on_step : (result : Result S) (offset : ℕ) (s : S) (go : S → Ending S) → Gives P result → P s → ((t : S) → P t → Leaves P (go t)) → Leaves P (on_result result (λ number. stopped number offset s) go)
  on_step (refuses number) offset s go g h later = h
  on_step (gives t) offset s go g h later = later t g

  pub events_keep : (events : List E) (offset : ℕ) (s : S) → All Q events → P s → Leaves P (play_events machine events offset s)
  unfolding play_events
  events_keep [] offset s q h = h
  events_keep (e ∷ rest) offset s q h = on_step (machine.step e s) offset s _ (keeps e s q.0 h) h (λ t. events_keep rest (offset + 1) t q.1)

  on_header : (result : Result (List E)) (offset : ℕ) (s : S) (go : List E → Ending S) → Gives (All Q) result → P s → ((events : List E) → All Q events → Leaves P (go events)) → Leaves P (on_result result (λ number. stopped number offset s) go)
  on_header (refuses number) offset s go g h later = h
  on_header (gives events) offset s go g h later = later events g

  record_keeps : (r : Record) (s : S) → All R r.payload → P s → Leaves P (play_record machine r s)
  unfolding play_record
  record_keeps r s b h = on_header (machine.events r.kind r.payload) r.place s _ (brings r.kind r.payload b) h (λ events q. events_keep events (r.place + header_size) s q h)

  on_record : (ending : Ending S) (count : ℕ) (go : S → Played S) → Leaves P ending → ((t : S) → P t → P (go t).state) → P (on_ending ending (λ n o t. played n o count t) go).state
  on_record (stopped number offset t) count go h later = h
  on_record (done t) count go h later = later t h

  pub play_keeps : (trace : Trace) (count : ℕ) (s : S) → Carries R trace → P s → P (play_from machine trace count s).state
  unfolding play_from
  play_keeps (ended offset) count s b h = h
  play_keeps (cut offset) count s b h = h
  play_keeps (r then rest) count s b h = on_record (play_record machine r s) count _ (record_keeps r s b.0 h) (λ t. play_keeps rest (count + 1) t b.1)
