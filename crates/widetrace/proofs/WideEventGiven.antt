-- When a run of the wide terminal gives the number of an event, and what it leaves then, by the calls of its events.
-- Assumes nothing.
use mathlib.Core.Path.{◌≡◌, refl, sym, ◌∙◌, ap, subst}
use mathlib.Core.Logic.{◌≢◌}
use mathlib.Core.Bool.{Bool, true, false}
use mathlib.Core.List.{List, [], ◌∷◌, ◌++◌}
use Prim.Native.Nat.{ℕ, ◌+◌}
use borrow.Author.Tests.{eqb-true, eqb-false, ne_eqb}
use lib.Dec.{eqb}
use Rattle.constants.specs.Numbers.{taken, too_short, out_of_range, header_cut, kind_unknown, no_selection}
use Rattle.constants.specs.Sizes.{header_size}
use Rattle.codes.specs.OneOf.{one_of}
use Rattle.codes.proofs.Tests.{not_listed}
use Rattle.bus.specs.Bytes.{Bytes}
use Rattle.trace.specs.Records.{Trace, ended, cut, ◌then◌, split}
use Rattle.trace.specs.Play.{Result, on_result}
use Rattle.trace.specs.Kinds.{Recorded}
use Rattle.trace.specs.OneByOne.{Placed, script, placed, script_from}
use Rattle.trace.specs.ByCalls.{called_by, meets}
use Rattle.trace.specs.Run.{stop_of}
use Rattle.trace.specs.Given.{run_event_numbers}
use Rattle.trace.specs.Run.{Stop}
use Rattle.widebus.specs.Pair.{Pair, Lent}
use Rattle.widebus.specs.WideCalls.{WideCalled, wide_call}
use Rattle.widebus.specs.declared.selection.Selection.{Selection}
use Rattle.widetrace.specs.Terminal.{WideEvent, selects, happens, the_terminal}
use Rattle.widetrace.specs.WideRun.{WideRan, wide_ran, wide_run}
use Rattle.widetrace.specs.EachChip.{unplaced}
use Rattle.widetrace.specs.WideRunLaws.{last_selected}
use Rattle.widetrace.specs.WideGivenRun.{WideGivesAt}
use Rattle.widetrace.specs.WideByCalls.{selection_number, wide_by_calls, wide_run_by_calls}
use Rattle.widetrace.specs.WideEventGiven.{after_calls, replied_after, RefusedAmong, WideEventRefused, WideEventGiven}
use Rattle.widetrace.proofs.TerminalHeaders.{Headed, known, unselected, unknown, by_header}
use Rattle.widetrace.proofs.WideRunOnLent.{Refused, too_few, ranges, run_refused, why_refused, by_asking}
use Rattle.widetrace.proofs.WideByCalls.{wide_by_calls_lem}

-- one reply of one selection and one outcome before it
same_reply : (recorded : Recorded) {selection next : Selection} {before after : WideRan} → selection ≡ next → before ≡ after
    → (wide_call (selection_number selection) (called_by recorded) before.lent).reply ≡ (wide_call (selection_number next) (called_by recorded) after.lent).reply
same_reply recorded {selection} {next} {before} {after} s e =
    ap (λ (chosen : Selection). (wide_call (selection_number chosen) (called_by recorded) before.lent).reply) s ∙ ap (λ (ran : WideRan). (wide_call (selection_number next) (called_by recorded) ran.lent).reply) e

-- what the calls come to after a selection,
module _ (p : Placed WideEvent) (selection next : Selection) (all : Pair Lent) (is : p.event ≡ selects next) where
  select_then : (rest : List (Placed WideEvent)) (stop : Stop) → wide_by_calls (p ∷ rest) stop selection all ≡ wide_by_calls rest stop next all
  unfolding wide_by_calls
  select_then rest stop = rw is

  select_last : (rest : List (Placed WideEvent)) → last_selected selection (unplaced (p ∷ rest)) ≡ last_selected next (unplaced rest)
  unfolding last_selected
  select_last rest = rw is

  select_replied : (rest : List (Placed WideEvent)) (recorded : Recorded) → replied_after selection (p ∷ rest) recorded all ≡ replied_after next rest recorded all
  select_replied rest recorded = same_reply recorded (select_last rest) (select_then rest (stop_of taken 0 0))

-- and after an event: taken, or refused
module _ (p : Placed WideEvent) (selection : Selection) (recorded : Recorded) (all : Pair Lent) (is : p.event ≡ happens recorded) where
  abbrev called : WideCalled
  called = wide_call (selection_number selection) (called_by recorded) all

  event_last : (rest : List (Placed WideEvent)) → last_selected selection (unplaced (p ∷ rest)) ≡ last_selected selection (unplaced rest)
  unfolding last_selected
  event_last rest = rw is

  taken_then : (rest : List (Placed WideEvent)) (stop : Stop) → eqb (meets recorded called.reply) taken ≡ true → wide_by_calls (p ∷ rest) stop selection all ≡ wide_by_calls rest stop selection called.lent
  unfolding wide_by_calls
  taken_then rest stop t = rw (is, t)

  taken_replied : (rest : List (Placed WideEvent)) (later : Recorded) → eqb (meets recorded called.reply) taken ≡ true → replied_after selection (p ∷ rest) later all ≡ replied_after selection rest later called.lent
  taken_replied rest later t = same_reply later (event_last rest) (taken_then rest (stop_of taken 0 0) t)

  refused_here : (rest : List (Placed WideEvent)) (stop : Stop) → eqb (meets recorded called.reply) taken ≡ false → wide_by_calls (p ∷ rest) stop selection all ≡ wide_ran (stop_of (meets recorded called.reply) p.offset p.before) all
  unfolding wide_by_calls
  refused_here rest stop t = rw (is, t)

-- the refused event with one more before it
after_select : (p : Placed WideEvent) (rest : List (Placed WideEvent)) (selection next : Selection) (all : Pair Lent) (number offset : ℕ) → p.event ≡ selects next → RefusedAmong rest next all number offset → RefusedAmong (p ∷ rest) selection all number offset
after_select p rest selection next all number offset is h =
    let left = select_then p selection next all is h.earlier (stop_of taken 0 0) in
    let replied = select_replied p selection next all is h.earlier h.recorded in
    record { earlier = p ∷ h.earlier; refused = h.refused; rest = h.rest; in_order = ap (λ (list : List (Placed WideEvent)). p ∷ list) h.in_order; all_taken = rw left h.all_taken; recorded = h.recorded; event = h.event; met = ap (meets h.recorded) replied ∙ h.met; there = h.there }

after_taken : (p : Placed WideEvent) (rest : List (Placed WideEvent)) (selection : Selection) (recorded : Recorded) (all : Pair Lent) (number offset : ℕ) (is : p.event ≡ happens recorded)
    → eqb (meets recorded (called p selection recorded all is).reply) taken ≡ true → RefusedAmong rest selection (called p selection recorded all is).lent number offset → RefusedAmong (p ∷ rest) selection all number offset
after_taken p rest selection recorded all number offset is t h =
    let left = taken_then p selection recorded all is h.earlier (stop_of taken 0 0) t in
    let replied = taken_replied p selection recorded all is h.earlier h.recorded t in
    record { earlier = p ∷ h.earlier; refused = h.refused; rest = h.rest; in_order = ap (λ (list : List (Placed WideEvent)). p ∷ list) h.in_order; all_taken = rw left h.all_taken; recorded = h.recorded; event = h.event; met = ap (meets h.recorded) replied ∙ h.met; there = h.there }

-- no event leaves all as it was, and selects nothing
none_left : (selection : Selection) (all : Pair Lent) → (after_calls selection [] all).stop.number ≡ taken
unfolding wide_by_calls
none_left selection all = refl

none_replied : (p : Placed WideEvent) (selection : Selection) (recorded : Recorded) (all : Pair Lent) (is : p.event ≡ happens recorded) → meets recorded (replied_after selection [] recorded all) ≡ meets recorded (called p selection recorded all is).reply
unfolding wide_by_calls last_selected
none_replied p selection recorded all is = refl

-- calls that stop with a number that is not the script's stop at an event
abbrev StopsAmong : List (Placed WideEvent) → Stop → ℕ → Type 0
StopsAmong events stop number = (selection : Selection) (all : Pair Lent) → (wide_by_calls events stop selection all).stop.number ≡ number → RefusedAmong events selection all number (wide_by_calls events stop selection all).stop.offset

one_more : (p : Placed WideEvent) (rest : List (Placed WideEvent)) (stop : Stop) (number : ℕ) → StopsAmong rest stop number → StopsAmong (p ∷ rest) stop number
one_more p rest stop number later selection all e = by p.event refl
  where
    by : (event : WideEvent) → p.event ≡ event → RefusedAmong (p ∷ rest) selection all number (wide_by_calls (p ∷ rest) stop selection all).stop.offset
    by (selects next) is =
        let same = select_then p selection next all is rest stop in
        rw same (after_select p rest selection next all number _ is (later next all (rw same at e)))
    by (happens recorded) is = on (eqb (meets recorded (called p selection recorded all is).reply) taken) refl
      where
        on : (t : Bool) → eqb (meets recorded (called p selection recorded all is).reply) taken ≡ t → RefusedAmong (p ∷ rest) selection all number (wide_by_calls (p ∷ rest) stop selection all).stop.offset
        on true t =
            let same = taken_then p selection recorded all is rest stop t in
            rw same (after_taken p rest selection recorded all number _ is t (later selection (called p selection recorded all is).lent (rw same at e)))
        on false t =
            let same = refused_here p selection recorded all is rest stop t in
            rw same (record { earlier = []; refused = p; rest = rest; in_order = refl; all_taken = none_left selection all; recorded = recorded; event = is; met = none_replied p selection recorded all is ∙ (rw same at e); there = refl })

refused_among : (events : List (Placed WideEvent)) (stop : Stop) (number : ℕ) → (stop.number ≡ number → ⊥) → StopsAmong events stop number
unfolding wide_by_calls
refused_among [] stop number other selection all e = absurd (other e)
refused_among (p ∷ rest) stop number other selection all e = one_more p rest stop number (refused_among rest stop number other) selection all e

-- and at such an event they stop
abbrev StopsThere : List (Placed WideEvent) → Placed WideEvent → List (Placed WideEvent) → Stop → Recorded → Type 0
StopsThere before p rest stop recorded = (selection : Selection) (all : Pair Lent) → (after_calls selection before all).stop.number ≡ taken → meets recorded (replied_after selection before recorded all) ≢ taken
    → wide_by_calls (before ++ p ∷ rest) stop selection all ≡ wide_ran (stop_of (meets recorded (replied_after selection before recorded all)) p.offset p.before) (after_calls selection before all).lent

one_before : (q : Placed WideEvent) (before : List (Placed WideEvent)) (p : Placed WideEvent) (rest : List (Placed WideEvent)) (stop : Stop) (recorded : Recorded) → StopsThere before p rest stop recorded → StopsThere (q ∷ before) p rest stop recorded
one_before q before p rest stop recorded later selection all early n = by q.event refl
  where
    Stops : Type 0
    Stops = wide_by_calls (q ∷ before ++ p ∷ rest) stop selection all ≡ wide_ran (stop_of (meets recorded (replied_after selection (q ∷ before) recorded all)) p.offset p.before) (after_calls selection (q ∷ before) all).lent

    by : (event : WideEvent) → q.event ≡ event → Stops
    by (selects next) is =
        let same = select_then q selection next all is (before ++ p ∷ rest) stop in
        let left = select_then q selection next all is before (stop_of taken 0 0) in
        let replied = ap (meets recorded) (select_replied q selection next all is before recorded) in
        rw (same, left, replied) (later next all (rw left at early) (λ z. n (replied ∙ z)))
    by (happens other) is = on (eqb (meets other (called q selection other all is).reply) taken) refl
      where
        on : (t : Bool) → eqb (meets other (called q selection other all is).reply) taken ≡ t → Stops
        on true t =
            let same = taken_then q selection other all is (before ++ p ∷ rest) stop t in
            let left = taken_then q selection other all is before (stop_of taken 0 0) t in
            let replied = ap (meets recorded) (taken_replied q selection other all is before recorded t) in
            rw (same, left, replied) (later selection (called q selection other all is).lent (rw left at early) (λ z. n (replied ∙ z)))
        on false t = absurd (eqb-false _ _ t (rw (refused_here q selection other all is before (stop_of taken 0 0) t) at early))

stops_there : (before : List (Placed WideEvent)) (p : Placed WideEvent) (rest : List (Placed WideEvent)) (stop : Stop) (recorded : Recorded) → p.event ≡ happens recorded → StopsThere before p rest stop recorded
unfolding wide_by_calls last_selected
stops_there [] p rest stop recorded is selection all early n = rw (is, ne_eqb _ _ n)
stops_there (q ∷ before) p rest stop recorded is selection all early n = one_before q before p rest stop recorded (stops_there before p rest stop recorded is) selection all early n

-- the number of a script is a header's
abbrev Headers : ℕ → Type 0
Headers number = one_of (taken ∷ header_cut ∷ kind_unknown ∷ no_selection ∷ []) number ≡ true

script_number : (trace : Trace) (count : ℕ) → Headers (script_from the_terminal trace count).number
unfolding script_from
script_number (ended offset) count = refl
script_number (cut offset) count = refl
script_number (r then rest) count = by (by_header r.kind r.payload) (script_number rest (count + 1))
  where
    by : {x : Result (List WideEvent)} → Headed r.kind r.payload x → Headers (script_from the_terminal rest (count + 1)).number
        → Headers (on_result x (λ number. script [] number r.place count) (λ events. let later = script_from the_terminal rest (count + 1) in script (placed events (r.place + header_size) count ++ later.events) later.number later.offset later.count)).number
    by (known events n u) later = later
    by (unselected n) later = refl
    by (unknown u) later = refl

-- no event's number is a header's, nor 1 or 2
not_header : {header number : ℕ} → Headers header → one_of run_event_numbers number ≡ true → header ≡ number → ⊥
not_header {header} {number} h n e = by (eqb header taken) (eqb header header_cut) (eqb header kind_unknown) (eqb header no_selection) refl refl refl refl h
  where
    none : (m : ℕ) → eqb header m ≡ true → one_of run_event_numbers m ≡ false → ⊥
    none m t f = not_listed run_event_numbers m (sym e ∙ eqb-true header m t) f n

    by : (a b c d : Bool) → eqb header taken ≡ a → eqb header header_cut ≡ b → eqb header kind_unknown ≡ c → eqb header no_selection ≡ d → one_of (taken ∷ header_cut ∷ kind_unknown ∷ no_selection ∷ []) header ≡ true → ⊥
    by true b c d p q r s h = none taken p refl
    by false true c d p q r s h = none header_cut q refl
    by false false true d p q r s h = none kind_unknown r refl
    by false false false true p q r s h = none no_selection s refl
    by false false false false p q r s h = not_listed [] {n = header} header refl refl (rw (p, q, r, s) at h)

module _ (all : Pair Lent) (trace : List ℕ) (bytes : Bytes trace) where
  event_leaves : (number offset : ℕ) (h : WideEventRefused all trace number offset) → wide_run all trace ≡ wide_ran (stop_of number offset h.among.refused.before) (after_calls Selection.Both h.among.earlier all).lent
  unfolding wide_run_by_calls
  event_leaves number offset h =
      let a = h.among in
      let it = script_from the_terminal (split trace) 0 in
      let stop = stop_of it.number it.offset it.count in
      (wide_by_calls_lem all).by_calls h.accepted trace bytes ∙
      ap (λ (events : List (Placed WideEvent)). wide_by_calls events stop Selection.Both all) a.in_order ∙
      stops_there a.earlier a.refused a.rest stop a.recorded a.event Selection.Both all a.all_taken (λ z. h.not_taken (sym a.met ∙ z)) ∙
      rw (a.met, a.there)

  is_event : (number offset : ℕ) → one_of run_event_numbers number ≡ true → WideGivesAt (wide_run all trace) number offset → WideEventRefused all trace number offset
  unfolding wide_run_by_calls
  is_event number offset n e =
      by_asking all _
      (λ accepted.
      let it = script_from the_terminal (split trace) 0 in
      let stop = stop_of it.number it.offset it.count in
      let calls = (wide_by_calls_lem all).by_calls accepted trace bytes in
      let there : (wide_by_calls it.events stop Selection.Both all).stop.offset ≡ offset = ap (λ (r : WideRan). r.stop.offset) (sym calls) ∙ e.1 in
      record {
        accepted = accepted;
        among = subst (RefusedAmong it.events Selection.Both all number) there (refused_among it.events stop number (not_header (script_number (split trace) 0) n) Selection.Both all (ap (λ (r : WideRan). r.stop.number) (sym calls) ∙ e.0));
        not_taken = λ z. not_listed run_event_numbers taken z refl n;
      })
      (λ refusal f m. absurd (by (why_refused all f) (ap (λ (r : WideRan). r.stop.number) (sym (run_refused all trace f)) ∙ e.0)))
    where
      by : {refusal : ℕ} → Refused all refusal → refusal ≡ number → ⊥
      by (too_few s) same = not_listed run_event_numbers too_short (sym same) refl n
      by (ranges s r) same = not_listed run_event_numbers out_of_range (sym same) refl n

pub wide_event_given : (all : Pair Lent) (trace : List ℕ) → WideEventGiven all trace
wide_event_given all trace =
    record {
      event = λ bytes number offset n. (is_event all trace bytes number offset n, λ h. rw (event_leaves all trace bytes number offset h) (refl, refl));
      event_leaves = event_leaves all trace;
    }
