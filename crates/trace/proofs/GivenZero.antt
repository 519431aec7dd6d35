-- A run gives 0 exactly when every record and every event is taken.
-- Assumes nothing.
use mathlib.Core.Path.{◌≡◌, refl, sym, ◌∙◌, ap}
use mathlib.Core.Logic.{◌↔◌}
use mathlib.Core.Bool.{Bool, true, false, cond}
use mathlib.Core.List.{List, [], ◌∷◌, ◌++◌}
use Prim.Native.Nat.{ℕ, ◌+◌, ◌≤◌}
use native.Mathlib.Nat.{zero-add, add-zero}
use native.Mathlib.Omega.{arith}
use borrow.Author.Tests.{eqb-true, eqb-false}
use lib.Dec.{eqb}
use lib.ListN.{length}
use Rattle.constants.specs.Numbers.{taken, kind_unknown}
use Rattle.constants.specs.Sizes.{header_size}
use Rattle.bus.specs.Image.{asked}
use Rattle.bus.specs.Registers.{registers_of}
use Rattle.bus.specs.Calls.{Called, call}
use Rattle.bus.specs.declared.registers.Registers.{Registers}
use Rattle.bus.specs.Answer.{Asked}
use Rattle.bus.specs.Bytes.{Bytes}
use Rattle.bus.proofs.Asking.{found_legal}
use Rattle.trace.specs.Records.{Trace, ended, cut, ◌then◌, split, records_in}
use Rattle.trace.specs.Play.{Result, refuses, gives, on_result}
use Rattle.trace.specs.Kinds.{Recorded, the_chip}
use Rattle.trace.specs.OneByOne.{Placed, placed, Script, script, script_from}
use Rattle.trace.specs.ByCalls.{called_by, meets, by_calls, run_by_calls}
use Rattle.trace.specs.Run.{Ran, ran, stop_of, run}
use Rattle.trace.specs.Given.{Unknown, no_kind, loaded, KnownRecords, events_in, EachTaken, AllTaken}
use Rattle.trace.specs.Run.{Stop}
use Rattle.trace.specs.SplitLaws.{Ends, end_of}
use Rattle.trace.proofs.SplitLaws.{rest, ends_at}
use Rattle.trace.proofs.ChipKinds.{Kind, commands, writes, reads, reset, none, by_kind}
use Rattle.trace.proofs.RunOnLent.{by_asking, refused_taken}
use Rattle.trace.proofs.RunByCalls.{run_by_calls_lem}

-- the calls of events give 0 exactly where each event is taken
abbrev called_on : Placed Recorded → List ℕ → List ℕ → Called
called_on p state memory = call (called_by p.event) state memory

each_taken : (events : List (Placed Recorded)) (stop : Stop) (state memory : List ℕ) → (by_calls events stop state memory).stop.number ≡ taken → EachTaken events state memory × (stop.number ≡ taken)
unfolding by_calls
each_taken [] stop state memory h = (tt, h)
each_taken (p ∷ rest) stop state memory h =
    let called = call (called_by p.event) state memory in
    by (meets p.event called.reply) (eqb (meets p.event called.reply) taken) refl refl h (each_taken rest stop called.state called.memory)
  where
    by : (number : ℕ) (b : Bool) → meets p.event (called_on p state memory).reply ≡ number → eqb number taken ≡ b
        → (cond b (by_calls rest stop (called_on p state memory).state (called_on p state memory).memory) (ran (stop_of number p.offset p.before) state memory)).stop.number ≡ taken
        → ((by_calls rest stop (called_on p state memory).state (called_on p state memory).memory).stop.number ≡ taken → EachTaken rest (called_on p state memory).state (called_on p state memory).memory × (stop.number ≡ taken))
        → EachTaken (p ∷ rest) state memory × (stop.number ≡ taken)
    by number true m e n later = ((m ∙ eqb-true number taken e, (later n).0), (later n).1)
    by number false m e n later = absurd (eqb-false number taken e n)

taken_each : (events : List (Placed Recorded)) (stop : Stop) (state memory : List ℕ) → EachTaken events state memory → (by_calls events stop state memory).stop ≡ stop
unfolding by_calls
taken_each [] stop state memory h = refl
taken_each (p ∷ rest) stop state memory h = rw h.0 (taken_each rest stop _ _ h.1)

-- a header is refused exactly where its kind is unknown
data Judged (kind : ℕ) (payload : List ℕ) : Result (List Recorded) → Type 0 where
  known : (Unknown kind (length payload) → ⊥) → (events : List Recorded) → Judged kind payload (gives events)
  unknown : Unknown kind (length payload) → Judged kind payload (refuses kind_unknown)

not_unknown : (kind size : ℕ) → 1 ≤ kind → kind ≤ 4 → (kind ≡ 4 → size ≡ 0) → Unknown kind size → ⊥
not_unknown n size p q e (no_kind a b c d) = omega arith
not_unknown n size p q e (loaded k m) = m (e k)

judged : {kind : ℕ} {payload : List ℕ} {result : Result (List Recorded)} → Kind kind payload result → Judged kind payload result
judged (commands k) = known (not_unknown _ _ (omega arith) (omega arith) (λ e. absurd (omega arith))) _
judged (writes k) = known (not_unknown _ _ (omega arith) (omega arith) (λ e. absurd (omega arith))) _
judged (reads k) = known (not_unknown _ _ (omega arith) (omega arith) (λ e. absurd (omega arith))) _
judged (reset k e) = known (not_unknown _ _ (omega arith) (omega arith) (λ z. e)) _
judged (none u) = unknown u

-- what a trace answers where no event is refused is 0 exactly where every record is known, and then with its end and the count of its records
record Sums (trace : Trace) (before : ℕ) (all : Script Recorded) : Type 0 where
  records : KnownRecords trace
  ends : Ends trace
  offset : all.offset ≡ end_of trace
  count : all.count ≡ before + records_in trace

abbrev scripted : Result (List Recorded) → ℕ → ℕ → Script Recorded → Script Recorded
scripted header place count later =
    on_result header (λ number. script [] number place count) (λ events. script (placed events (place + header_size) count ++ later.events) later.number later.offset later.count)

sums : (trace : Trace) (count : ℕ) → (script_from the_chip trace count).number ≡ taken → Sums trace count (script_from the_chip trace count)
unfolding script_from
sums (ended offset) count n = record { records = tt; ends = tt; offset = refl; count = sym (add-zero count) }
sums (cut offset) count n = absurd (omega arith)
sums (r then rest) count n = by (script_from the_chip rest (count + 1)) (judged (by_kind r.kind r.payload)) n (sums rest (count + 1))
  where
    by : (later : Script Recorded) {header : Result (List Recorded)} → Judged r.kind r.payload header → (scripted header r.place count later).number ≡ taken → (later.number ≡ taken → Sums rest (count + 1) later)
        → Sums (r then rest) count (scripted header r.place count later)
    by later (known k events) n more =
        record { records = (k, (more n).records); ends = (more n).ends; offset = (more n).offset; count = omega (arith, (more n).count) }
    by later (unknown u) n more = absurd (omega arith)

known_taken : (trace : Trace) (count : ℕ) → KnownRecords trace → (script_from the_chip trace count).number ≡ taken
unfolding script_from
known_taken (ended offset) count k = refl
known_taken (cut offset) count k = absurd k
known_taken (r then rest) count k = by (script_from the_chip rest (count + 1)) (judged (by_kind r.kind r.payload)) (known_taken rest (count + 1) k.1)
  where
    by : (later : Script Recorded) {header : Result (List Recorded)} → Judged r.kind r.payload header → later.number ≡ taken → (scripted header r.place count later).number ≡ taken
    by later (known u events) n = n
    by later (unknown u) n = absurd (k.0 u)

module _ (state memory trace : List ℕ) (bytes : Bytes trace) where
  abbrev all : Script Recorded
  all = script_from the_chip (split trace) 0

  as_calls : (r : Registers) → asked state memory ≡ Asked.Found r → run state memory trace ≡ by_calls (events_in trace) (stop_of all.number all.offset all.count) state memory
  unfolding run_by_calls
  as_calls r found = run_by_calls_lem state memory r found trace bytes

  zero_found : (r : Registers) → asked state memory ≡ Asked.Found r → (run state memory trace).stop.number ≡ taken → AllTaken state memory trace
  zero_found r found n =
      let f = found_legal state memory found in
      let calls = each_taken (events_in trace) (stop_of all.number all.offset all.count) state memory (ap (λ (o : Ran). o.stop.number) (sym (as_calls r found)) ∙ n) in
      record { accepted = record { long_enough = f.0; in_ranges = f.1 }; records = (sums (split trace) 0 calls.1).records; events = calls.0 }

  module _ (h : AllTaken state memory trace) where
    is_found : asked state memory ≡ Asked.Found (registers_of state)
    unfolding asked
    is_found = rw (h.accepted.long_enough, h.accepted.in_ranges)

    all_number : all.number ≡ taken
    all_number = known_taken (split trace) 0 h.records

    all_sums : Sums (split trace) 0 all
    all_sums = sums (split trace) 0 all_number

    all_offset : all.offset ≡ length trace
    unfolding split
    all_offset = all_sums.offset ∙ ends_at 0 0 trace (omega arith) all_sums.ends ∙ zero-add (length trace)

    pub zero_leaves : run state memory trace ≡ by_calls (events_in trace) (stop_of taken (length trace) (records_in (split trace))) state memory
    zero_leaves =
        let same : stop_of all.number all.offset all.count ≡ stop_of taken (length trace) (records_in (split trace)) = rw (all_number, all_offset, all_sums.count, zero-add (records_in (split trace))) in
        as_calls (registers_of state) is_found ∙ ap (λ (stop : Stop). by_calls (events_in trace) stop state memory) same

    zero_number : (run state memory trace).stop.number ≡ taken
    zero_number = ap (λ (o : Ran). o.stop.number) zero_leaves ∙ ap (λ (stop : Stop). stop.number) (taken_each (events_in trace) (stop_of taken (length trace) (records_in (split trace))) state memory h.events)

  pub zero_given : (run state memory trace).stop.number ≡ taken ↔ AllTaken state memory trace
  zero_given = (λ n. by_asking state memory _ (λ r e. zero_found r e n) (λ number e. absurd (refused_taken state memory trace number e n)), zero_number)
