-- Whole records followed by more: playing `a ++ b` is playing `a`, then `b` from what it left, with offset and count added, whenever `a` is taken whole. Over any machine that refuses with no 0.
-- Assumes nothing.
use mathlib.Core.Path.{◌≡◌, refl, sym, ◌∙◌, ap}
use mathlib.Core.List.{List, [], ◌∷◌, ◌++◌}
use Prim.Native.Nat.{ℕ, ◌+◌}
use native.Mathlib.Nat.{add-zero, zero-add}
use native.Mathlib.Omega.{arith}
use lib.ListN.{length}
use Rattle.constants.specs.Numbers.{taken}
use Rattle.constants.specs.Sizes.{header_size}
use Rattle.trace.specs.Records.{Record, Trace, ended, cut, ◌then◌, number, split_from, split, records_in}
use Rattle.trace.specs.Play.{Result, refuses, gives, on_result, Machine, Ending, stopped, done, on_ending, Played, played, play_events, play_record, play_from, play}
use Rattle.trace.specs.AnyMachine.{Sound, further}
use Rattle.trace.specs.SplitLaws.{trace_further, Ends, end_of, onto}
use Rattle.trace.proofs.SplitLaws.{split_further, split_onto, ends_at}
use Rattle.trace.proofs.PlayedFurther.{play_further}

module _ {S E : Type 0} (machine : Machine S E) (sound : Sound machine) where
  -- what a record stops with is no 0
  abbrev pub Stops : Ending S → Type 0
  Stops (stopped number offset s) = number ≡ taken → ⊥
  Stops (done s) = Unit {0}

  stops : {A : Type 0} (result : Result A) (go : A → Ending S) (offset : ℕ) (s : S) → ((number : ℕ) → result ≡ refuses number → number ≡ taken → ⊥) → ((a : A) → Stops (go a)) → Stops (on_result result (λ number. stopped number offset s) go)
  stops (refuses number) go offset s p q = p number refl
  stops (gives a) go offset s p q = q a

  pub events_stop : (events : List E) (offset : ℕ) (s : S) → Stops (play_events machine events offset s)
  unfolding play_events
  events_stop [] offset s = tt
  events_stop (e ∷ rest) offset s = stops (machine.step e s) (λ t. play_events machine rest (offset + 1) t) offset s (sound.step e s) (λ t. events_stop rest (offset + 1) t)

  record_stops : (r : Record) (s : S) → Stops (play_record machine r s)
  unfolding play_record
  record_stops r s = stops (machine.events r.kind r.payload) (λ events. play_events machine events (r.place + header_size) s) r.place s (sound.events r.kind r.payload) (λ events. events_stop events (r.place + header_size) s)

  -- a trace that is taken whole ends, and more is played from what it left
  record TakenWhole (trace : Trace) (before : ℕ) (p : Played S) (joined : Trace → Played S) : Type 0 where
    ends : Ends trace
    offset : p.offset ≡ end_of trace
    count : p.count ≡ before + records_in trace
    more : (others : Trace) → joined others ≡ play_from machine others p.count p.state

  then_whole : (ending : Ending S) → Stops ending → (r : Record) (rest : Trace) (count : ℕ) → (on_ending ending (λ n o t. played n o count t) (λ t. play_from machine rest (count + 1) t)).number ≡ taken
      → ((t : S) → (play_from machine rest (count + 1) t).number ≡ taken → TakenWhole rest (count + 1) (play_from machine rest (count + 1) t) (λ others. play_from machine (onto rest others) (count + 1) t))
      → TakenWhole (r then rest) count (on_ending ending (λ n o t. played n o count t) (λ t. play_from machine rest (count + 1) t)) (λ others. on_ending ending (λ n o t. played n o count t) (λ t. play_from machine (onto rest others) (count + 1) t))
  then_whole (stopped number offset t) stop r rest count h later = absurd (stop h)
  then_whole (done t) stop r rest count h later =
      let w = later t h in
      record { ends = w.ends; offset = w.offset; count = omega (arith, w.count); more = w.more }

  taken_whole : (trace : Trace) (count : ℕ) (s : S) → (play_from machine trace count s).number ≡ taken → TakenWhole trace count (play_from machine trace count s) (λ others. play_from machine (onto trace others) count s)
  unfolding play_from
  taken_whole (ended offset) count s h = record { ends = tt; offset = refl; count = sym (add-zero count); more = λ others. refl }
  taken_whole (cut offset) count s h = absurd (omega arith)
  taken_whole (r then rest) count s h = then_whole (play_record machine r s) (record_stops r s) r rest count h (λ t. taken_whole rest (count + 1) t)

  -- a trace that begins at an offset, with so many records before it
  pub further_on : (offset count : ℕ) (b : List ℕ) (t : S) → play_from machine (split_from 0 offset b) count t ≡ further offset count (play machine (split b) t)
  unfolding split
  further_on offset count b t =
      ap (λ (at : ℕ). play_from machine (split_from 0 at b) count t) (sym (add-zero offset)) ∙
      ap (λ (trace : Trace). play_from machine trace count t) (split_further offset 0 0 b) ∙
      ap (λ (n : ℕ). play_from machine (trace_further offset (split_from 0 0 b)) n t) (sym (add-zero count)) ∙
      play_further machine offset count (split_from 0 0 b) 0 t

  module _ (a b : List ℕ) (s : S) (h : (play machine (split a) s).number ≡ taken) where
    at_whole : TakenWhole (split a) 0 (play machine (split a) s) (λ others. play machine (onto (split a) others) s)
    at_whole = taken_whole (split a) 0 s h

    -- all is taken: the offset is the trace's length
    pub taken_offset : (play machine (split a) s).offset ≡ length a
    unfolding split
    taken_offset = at_whole.offset ∙ ends_at 0 0 a (omega arith) at_whole.ends ∙ zero-add (length a)

    -- and the count is of all its records
    pub taken_count : (play machine (split a) s).count ≡ records_in (split a)
    taken_count = at_whole.count ∙ zero-add (records_in (split a))

    pub joined : play machine (split (a ++ b)) s ≡ further (play machine (split a) s).offset (play machine (split a) s).count (play machine (split b) (play machine (split a) s).state)
    unfolding split
    joined =
        let first = play machine (split a) s in
        ap (λ trace. play machine trace s) (split_onto 0 0 a b (omega arith) at_whole.ends) ∙
        at_whole.more _ ∙
        ap (λ (at : ℕ). play_from machine (split_from 0 at b) first.count first.state) (zero-add (length a) ∙ sym taken_offset) ∙
        further_on first.offset first.count b first.state
