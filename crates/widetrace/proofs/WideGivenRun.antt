-- When a run of the wide terminal gives 13, 9 and 14, and what it leaves then.
-- Assumes nothing.
use mathlib.Core.Path.{◌≡◌, refl, sym, ◌∙◌, ap, subst}
use mathlib.Core.Logic.{◌≢◌, ◌⊎◌, inl, inr}
use mathlib.Core.Bool.{Bool, true, false, ◌&&◌, false≢true}
use mathlib.Core.List.{List, [], ◌∷◌, ◌++◌, map}
use Prim.Native.Nat.{ℕ, ◌+◌, ◌<◌}
use native.Mathlib.Nat.{add-zero}
use native.Mathlib.Omega.{arith}
use lib.ListN.{length, take, drop}
use lib.Seq.{length-take-le}
use Rattle.constants.specs.Numbers.{taken, too_short, out_of_range, header_cut, read_differs, kind_unknown, no_selection, both_selected}
use Rattle.constants.specs.Sizes.{header_size}
use Rattle.codes.specs.OneOf.{one_of}
use Rattle.codes.proofs.Tests.{not_listed, one_of_each}
use Rattle.bus.specs.Bytes.{All}
use Rattle.bus.specs.Given.{call_numbers}
use Rattle.bus.specs.Image.{legal}
use Rattle.bus.specs.Stretch.{stretch}
use Rattle.bus.proofs.Replies.{Neither, not_one, not_two}
use Rattle.trace.specs.OneByOne.{script_from, one_by_one}
use Rattle.trace.specs.Records.{kind_of, payload_of, whole, CutShort, split}
use Rattle.trace.specs.Play.{refuses, Played, played, play_events}
use Rattle.trace.specs.Kinds.{read_as, events_of}
use Rattle.trace.specs.AnyMachine.{AnyMachine, Reached, EndsAs, all_taken, header_is_cut, header_refused, event_refused}
use Rattle.trace.proofs.AnyMachine.{any_machine}
use Rattle.trace.proofs.WhatStands.{cut_tests, where_left, whole_left}
use Rattle.widebus.specs.Pair.{Pair, Lent}
use Rattle.widebus.specs.Asked.{asked_both}
use Rattle.widebus.specs.OneAndTwo.{EitherShort, BothLong, EitherOutside}
use Rattle.widebus.proofs.OneAndTwo.{short_one, one_short, none_short, long_both, outside_one, one_outside}
use Rattle.widebus.specs.Asked.{BothAsked}
use Rattle.widebus.specs.declared.selection.Selection.{Selection}
use Rattle.widetrace.specs.Terminal.{Terminal, WideEvent, happens, wide_events_of, wide_step, the_terminal}
use Rattle.widetrace.specs.EachChip.{unplaced}
use Rattle.widetrace.specs.WideRun.{WideRan, wide_ran, wide_ran_of, wide_run}
use Rattle.widetrace.specs.WideRunLaws.{BothAccepted, terminal_in}
use Rattle.widetrace.specs.WideGivenRun.{WideUnknown, UnknownRecord, NoSelection, WideHeaderAt, WideGivesAt, wide_stopped_after, WholeRecord, BothRead, EveryTaken, wide_run_numbers, WideGivenRun, WideHeaders}
use Rattle.widetrace.proofs.TerminalHeaders.{NoRead, refused_header, selects_nothing, stands_for_nothing, what_reads}
use Rattle.widetrace.proofs.TerminalRefusals.{OfChip, OfTerminal, reads_wide, refused_step, both_refuse, middle, none_before}
use Rattle.widetrace.proofs.WideRunOnLent.{Refused, too_few, ranges, plays, run_found, run_refused, why_refused, by_asking, accepted}
use Rattle.widetrace.proofs.WideNotOneOrTwo.{neither}
use Rattle.widetrace.proofs.AppliedStretches.{none_refused, all_applied}
use Rattle.widetrace.proofs.TerminalStretches.{terminal_never_zero}
use Rattle.trace.specs.Run.{stop_of}
use Rattle.widetrace.proofs.WideRunLaws.{terminal_as_machine, wide_run_laws}

abbrev laws : AnyMachine the_terminal
laws = any_machine the_terminal

-- the numbers of headers are no events', nor is 14 a chip's
of_chip : {number : ℕ} → OfChip number → (m : ℕ) → one_of call_numbers m ≡ false → read_differs ≢ m → number ≡ m → ⊥
of_chip (inl h) m none other e = not_listed call_numbers m e none h.1
of_chip (inr h) m none other e = other (sym h ∙ e)

of_header : {reads : Bool} {selection : Selection} {number : ℕ} → OfTerminal reads selection number → (number ≡ no_selection) ⊎ (number ≡ kind_unknown) → ⊥
of_header (inl h) (inl e) = of_chip h no_selection refl (λ z. omega (arith, z)) e
of_header (inl h) (inr e) = of_chip h kind_unknown refl (λ z. omega (arith, z)) e
of_header (inr h) (inl e) = omega (arith, h.0, e)
of_header (inr h) (inr e) = omega (arith, h.0, e)

of_cut : {reads : Bool} {selection : Selection} {number : ℕ} → OfTerminal reads selection number → number ≡ header_cut → ⊥
of_cut (inl h) e = of_chip h header_cut refl (λ z. omega (arith, z)) e
of_cut (inr h) e = omega (arith, h.0, e)

abbrev Known : ℕ → Type 0
Known number = one_of wide_run_numbers number ≡ true

of_known : {reads : Bool} {selection : Selection} {number : ℕ} → OfTerminal reads selection number → Known number
of_known {number = number} (inl (inl h)) = one_of_each Known call_numbers number (refl, (refl, (refl, (refl, (refl, (refl, (refl, (refl, (refl, tt))))))))) h.1
of_known (inl (inr h)) = rw h
of_known (inr h) = rw h.0

of_both : {reads : Bool} {selection : Selection} {number : ℕ} → OfTerminal reads selection number → number ≡ both_selected → (selection ≡ Selection.Both) × (reads ≡ true)
of_both (inl h) e = absurd (of_chip h both_selected refl (λ z. omega (arith, z)) e)
of_both (inr h) e = (h.1, h.2)

no_header : {A B : Type 0} {number : ℕ} → ((number ≡ no_selection) × A) ⊎ ((number ≡ kind_unknown) × B) → number ≡ header_cut → ⊥
no_header (inl h) e = omega (arith, h.0, e)
no_header (inr h) e = omega (arith, h.0, e)

header_known : {A B : Type 0} {number : ℕ} → ((number ≡ no_selection) × A) ⊎ ((number ≡ kind_unknown) × B) → Known number
header_known (inl h) = rw h.0
header_known (inr h) = rw h.0

module _ (all : Pair Lent) (trace : List ℕ) where
  abbrev start : Terminal
  start = terminal_in all Selection.Both

  -- a header is reached: the bytes before it run, and all are taken
  header_at : BothAccepted all → {at count : ℕ} {t : Terminal} → Reached the_terminal trace start at count t → WideHeaderAt all trace at
  unfolding wide_ran_of
  header_at a {at} r = ap (λ (o : WideRan). o.stop.number) (run_found all a (take at trace)) ∙ ap (λ (p : Played Terminal). p.number) r

  its_whole : (p : Played Terminal) (at : ℕ) → p.number ≡ taken → p.offset ≡ at → p ≡ played taken at p.count p.state
  its_whole p at n o = rw (← n, ← o)

  module _ (at : ℕ) (h : WideHeaderAt all trace at) (some : length (drop at trace) ≡ 0 → ⊥) where
    ok : BothAccepted all
    ok = accepted all (take at trace) h

    abbrev before : Played Terminal
    before = plays all (take at trace)

    reached : Reached the_terminal trace start at before.count before.state
    unfolding wide_ran_of
    reached =
        let e = run_found all ok (take at trace) in
        let size = length-take-le at trace (where_left trace at some) in
        its_whole before at (ap (λ (o : WideRan). o.stop.number) (sym e) ∙ h) (ap (λ (o : WideRan). o.stop.offset) (sym e) ∙ ((wide_run_laws all).whole (take at trace) h).0 ∙ size)

    -- the run is where the trace is played
    stops : (number offset : ℕ) → EndsAs the_terminal trace start (played number offset before.count before.state) → wide_run all trace ≡ wide_stopped_after number offset (wide_run all (take at trace))
    unfolding wide_ran_of
    stops number offset e = run_found all ok trace ∙ ap (λ (p : Played Terminal). wide_ran_of p all) ((laws.ends terminal_as_machine.sound trace start _).1 e) ∙ rw (run_found all ok (take at trace))

  header_stops : (at : ℕ) → WideHeaderAt all trace at → whole (drop at trace) ≡ true → (number : ℕ) → wide_events_of (kind_of (drop at trace)) (payload_of (drop at trace)) ≡ refuses number → wide_run all trace ≡ wide_stopped_after number at (wide_run all (take at trace))
  header_stops at h w number e = let some = whole_left trace at w in stops at h some number at (header_refused at _ number _ (reached at h some) w e)

  eight_leaves : (offset : ℕ) → WideHeaderAt all trace offset → CutShort (drop offset trace) → wide_run all trace ≡ wide_stopped_after header_cut offset (wide_run all (take offset trace))
  eight_leaves at h c = let some = (cut_tests (drop at trace) c).0 in stops at h some header_cut at (header_is_cut at _ _ (reached at h some) c)

  thirteen_leaves : (offset : ℕ) → WholeRecord NoSelection all trace offset → wide_run all trace ≡ wide_stopped_after no_selection offset (wide_run all (take offset trace))
  thirteen_leaves offset h = header_stops offset h.header h.complete no_selection (selects_nothing _ _ h.kind)

  nine_leaves : (offset : ℕ) → WholeRecord UnknownRecord all trace offset → wide_run all trace ≡ wide_stopped_after kind_unknown offset (wide_run all (take offset trace))
  nine_leaves offset h = header_stops offset h.header h.complete kind_unknown (stands_for_nothing _ _ h.kind)

  -- what a read record's events begin with
  first_read : (kind : ℕ) (payload : List ℕ) → kind ≡ 3 → payload ≢ [] → (at : ℕ) (count : ℕ) (t : Terminal) → kind_of (drop at trace) ≡ kind → payload_of (drop at trace) ≡ payload → Reached the_terminal trace start at count t → whole (drop at trace) ≡ true
      → t.selection ≡ Selection.Both → EndsAs the_terminal trace start (played both_selected (at + header_size) count t)
  unfolding wide_events_of events_of play_events
  first_read kind [] k n at count t e f r w s = absurd (n refl)
  first_read kind (byte ∷ rest) k n at count t e f r w s =
      let it = event_refused at count both_selected t t [] (happens (read_as byte)) (map happens (map read_as rest)) r w (rw (e, f, k)) refl (both_refuse byte t s) in
      rw (add-zero (at + header_size)) at it

  fourteen_leaves : (offset : ℕ) (h : BothRead all trace offset) → wide_run all trace ≡ wide_stopped_after both_selected offset (wide_run all (take h.place trace))
  fourteen_leaves offset h =
      let r = h.reads in
      let some = whole_left trace h.place r.complete in
      rw h.first (stops h.place r.header some both_selected (h.place + header_size) (first_read _ _ r.kind.0 r.kind.1 h.place _ _ refl refl (reached h.place r.header some) r.complete h.both))

  -- the other way: how the played trace ends
  module _ (a : BothAccepted all) where
    is_thirteen : {p : Played Terminal} → EndsAs the_terminal trace start p → p.number ≡ no_selection → WholeRecord NoSelection all trace p.offset
    is_thirteen (all_taken count t r) e = absurd (omega arith)
    is_thirteen (header_is_cut at count t r c) e = absurd (omega arith)
    is_thirteen (header_refused at count number t r w f) e = by (refused_header _ _ number f)
      where
        by : ((number ≡ no_selection) × NoSelection (kind_of (drop at trace)) (payload_of (drop at trace))) ⊎ ((number ≡ kind_unknown) × WideUnknown (kind_of (drop at trace)) (length (payload_of (drop at trace)))) → WholeRecord NoSelection all trace at
        by (inl h) = record { header = header_at a r; complete = w; kind = h.1 }
        by (inr h) = absurd (omega (arith, h.0, e))
    is_thirteen (event_refused at count number t u before event rest r w f d s) e = absurd (of_header (refused_step event u number s) (inl e))

    is_nine : {p : Played Terminal} → EndsAs the_terminal trace start p → p.number ≡ kind_unknown → WholeRecord UnknownRecord all trace p.offset
    is_nine (all_taken count t r) e = absurd (omega arith)
    is_nine (header_is_cut at count t r c) e = absurd (omega arith)
    is_nine (header_refused at count number t r w f) e = by (refused_header _ _ number f)
      where
        by : ((number ≡ no_selection) × NoSelection (kind_of (drop at trace)) (payload_of (drop at trace))) ⊎ ((number ≡ kind_unknown) × WideUnknown (kind_of (drop at trace)) (length (payload_of (drop at trace)))) → WholeRecord UnknownRecord all trace at
        by (inl h) = absurd (omega (arith, h.0, e))
        by (inr h) = record { header = header_at a r; complete = w; kind = h.1 }
    is_nine (event_refused at count number t u before event rest r w f d s) e = absurd (of_header (refused_step event u number s) (inr e))

    is_fourteen : {p : Played Terminal} → EndsAs the_terminal trace start p → p.number ≡ both_selected → BothRead all trace p.offset
    is_fourteen (all_taken count t r) e = absurd (omega arith)
    is_fourteen (header_is_cut at count t r c) e = absurd (omega arith)
    is_fourteen (header_refused at count number t r w f) e = by (refused_header _ _ number f)
      where
        by : ((number ≡ no_selection) × NoSelection (kind_of (drop at trace)) (payload_of (drop at trace))) ⊎ ((number ≡ kind_unknown) × WideUnknown (kind_of (drop at trace)) (length (payload_of (drop at trace)))) → BothRead all trace at
        by (inl h) = absurd (omega (arith, h.0, e))
        by (inr h) = absurd (omega (arith, h.0, e))
    is_fourteen (event_refused at count number t u before event rest r w f d s) e = by (what_reads _ _ _ f) (of_both (refused_step event u number s) e)
      where
        by : ((kind_of (drop at trace) ≡ 3) × (before ++ event ∷ rest ≡ map happens (map read_as (payload_of (drop at trace))))) ⊎ All NoRead (before ++ event ∷ rest) → (u.selection ≡ Selection.Both) × (reads_wide event ≡ true) → BothRead all trace (at + header_size + length before)
        by (inr none) h = absurd (middle before event rest none h.1)
        by (inl reads) h =
            let n = none_before before event rest (payload_of (drop at trace)) (at + header_size) t u reads.1 d h.0 in
            let some : payload_of (drop at trace) ≢ [] = λ z. omega (arith, ap (λ (list : List WideEvent). length list) (sym (rw n.0 at reads.1)), ap (λ (list : List ℕ). length (map happens (map read_as list))) z) in
            record {
              place = at;
              reads = record { header = header_at a r; complete = w; kind = (reads.0, some) };
              both = ap (λ (p : Played Terminal). p.state.selection) r ∙ ap (λ (v : Terminal). v.selection) n.1 ∙ h.0;
              first = rw n.0 (add-zero (at + header_size));
            }

    is_eight : {p : Played Terminal} → EndsAs the_terminal trace start p → p.number ≡ header_cut → WideHeaderAt all trace p.offset × CutShort (drop p.offset trace)
    is_eight (all_taken count t r) e = absurd (omega arith)
    is_eight (header_is_cut at count t r c) e = (header_at a r, c)
    is_eight (header_refused at count number t r w f) e = absurd (no_header (refused_header _ _ number f) e)
    is_eight (event_refused at count number t u before event rest r w f d s) e = absurd (of_cut (refused_step event u number s) e)

    is_known : {p : Played Terminal} → EndsAs the_terminal trace start p → Known p.number
    is_known (all_taken count t r) = refl
    is_known (header_is_cut at count t r c) = refl
    is_known (header_refused at count number t r w f) = header_known (refused_header _ _ number f)
    is_known (event_refused at count number t u before event rest r w f d s) = of_known (refused_step event u number s)

    -- a run's number and offset are those of the played trace
    ends : EndsAs the_terminal trace start (plays all trace)
    ends = (laws.ends terminal_as_machine.sound trace start _).0 refl

  -- refused first, the number is 1 or 2
  given : (A : ℕ → Type 0) (number : ℕ) → 2 < number → (BothAccepted all → (plays all trace).number ≡ number → A (plays all trace).offset) → (offset : ℕ) → WideGivesAt (wide_run all trace) number offset → A offset
  unfolding wide_ran_of
  given A number big go offset h =
      by_asking all _
      (λ a. let e = run_found all a trace in subst A (ap (λ (o : WideRan). o.stop.offset) (sym e) ∙ h.1) (go a (ap (λ (o : WideRan). o.stop.number) (sym e) ∙ h.0)))
      (λ refusal e n. absurd (omega (arith, big, n.1, ap (λ (o : WideRan). o.stop.number) (sym (run_refused all trace e)) ∙ h.0)))

  -- 0: every header and every event is taken
  module _ (a : BothAccepted all) where
    applied_run : plays all trace ≡ one_by_one the_terminal (script_from the_terminal (split trace) 0) start
    applied_run = laws.by_events trace start

    -- where every event is taken, the number is the script's
    its_number : (stretch wide_step (unplaced (script_from the_terminal (split trace) 0).events) start).number ≡ taken → (wide_run all trace).stop.number ≡ (script_from the_terminal (split trace) 0).number
    unfolding wide_ran_of
    its_number h =
        let it = script_from the_terminal (split trace) 0 in
        ap (λ (o : WideRan). o.stop.number) (run_found all a trace) ∙ ap (λ (p : Played Terminal). p.number) (applied_run ∙ all_applied wide_step terminal_never_zero it.number it.offset it.count it.events start h)

  is_zero : (wide_run all trace).stop.number ≡ taken → EveryTaken all trace
  unfolding wide_ran_of
  is_zero h =
      let a = accepted all trace h in
      let it = script_from the_terminal (split trace) 0 in
      let n = ap (λ (o : WideRan). o.stop.number) (sym (run_found all a trace)) ∙ h in
      let events = (none_refused wide_step terminal_never_zero it.number it.offset it.count it.events start (ap (λ (p : Played Terminal). p.number) (sym (applied_run a)) ∙ n)).0 in
      record { accepted = a; headers = sym (its_number a events) ∙ h; events = events }

  -- 1 and 2: what is asked first
  found_neither : BothAccepted all → Neither (wide_run all trace).stop.number
  unfolding wide_ran_of
  found_neither a = rw (run_found all a trace) (neither all a trace)

  one_leaves : EitherShort all → wide_run all trace ≡ wide_ran (stop_of too_short 0 0) all
  unfolding asked_both
  one_leaves s = run_refused all trace (rw (one_short all s))

  its_refusal : (number : ℕ) → asked_both all ≡ BothAsked.Refused number → (wide_run all trace).stop.number ≡ number
  its_refusal number e = ap (λ (o : WideRan). o.stop.number) (run_refused all trace e)

  is_one : (wide_run all trace).stop.number ≡ too_short → EitherShort all
  is_one h = by_asking all _ (λ a. absurd (not_one (found_neither a) h)) (λ number e n. by (why_refused all e) (sym (its_refusal number e) ∙ h))
    where
      by : {number : ℕ} → Refused all number → number ≡ too_short → EitherShort all
      by (too_few s) e = short_one all s
      by (ranges s r) e = absurd (omega arith)

  is_two : (wide_run all trace).stop.number ≡ out_of_range → BothLong all × EitherOutside all
  is_two h = by_asking all _ (λ a. absurd (not_two (found_neither a) h)) (λ number e n. by (why_refused all e) (sym (its_refusal number e) ∙ h))
    where
      by : {number : ℕ} → Refused all number → number ≡ out_of_range → BothLong all × EitherOutside all
      by (too_few s) e = absurd (omega arith)
      by (ranges s r) e = (none_short all s, outside_one all r)

  two_leaves : BothLong all → EitherOutside all → wide_run all trace ≡ wide_ran (stop_of out_of_range 0 0) all
  two_leaves s r = by_asking all _ (λ a. absurd (false≢true (sym (one_outside all r) ∙ both_legal a))) (λ number e n. run_refused all trace e ∙ ap (λ (number : ℕ). wide_ran (stop_of number 0 0) all) (by (why_refused all e)))
    where
      both_legal : BothAccepted all → (legal all.left.state && legal all.right.state) ≡ true
      both_legal a = rw (a.0.in_ranges, a.1.in_ranges)

      by : {number : ℕ} → Refused all number → number ≡ out_of_range
      by (too_few t) = absurd (false≢true (sym (long_both all s) ∙ t))
      by (ranges t q) = refl

  no_other : Known (wide_run all trace).stop.number
  unfolding wide_ran_of
  no_other = by_asking all _ (λ a. rw (run_found all a trace) (is_known a (ends a))) (λ refusal e n. rw (run_refused all trace e) (by (why_refused all e)))
    where
      by : {number : ℕ} → Refused all number → Known number
      by (too_few s) = refl
      by (ranges s r) = refl

pub wide_given_run : (all : Pair Lent) (trace : List ℕ) → WideGivenRun all trace
wide_given_run all trace =
    record {
      number0 = (is_zero all trace, λ h. its_number all trace h.accepted h.events ∙ h.headers);
      number1 = (is_one all trace, λ s. rw (one_leaves all trace s) refl);
      number1_leaves = one_leaves all trace;
      number2 = (is_two all trace, λ h. rw (two_leaves all trace h.0 h.1) refl);
      number2_leaves = two_leaves all trace;
      number13 = λ offset. (given all trace (WholeRecord NoSelection all trace) no_selection (omega arith) (λ a. is_thirteen all trace a (ends all trace a)) offset, λ h. rw (thirteen_leaves all trace offset h) (refl, refl));
      number13_leaves = thirteen_leaves all trace;
      number9 = λ offset. (given all trace (WholeRecord UnknownRecord all trace) kind_unknown (omega arith) (λ a. is_nine all trace a (ends all trace a)) offset, λ h. rw (nine_leaves all trace offset h) (refl, refl));
      number9_leaves = nine_leaves all trace;
      number8 = λ offset. (given all trace (λ (offset : ℕ). WideHeaderAt all trace offset × CutShort (drop offset trace)) header_cut (omega arith) (λ a. is_eight all trace a (ends all trace a)) offset, λ h. rw (eight_leaves all trace offset h.0 h.1) (refl, refl));
      number8_leaves = eight_leaves all trace;
      number14 = λ offset. (given all trace (BothRead all trace) both_selected (omega arith) (λ a. is_fourteen all trace a (ends all trace a)) offset, λ h. rw (fourteen_leaves all trace offset h) (refl, refl));
      number14_leaves = fourteen_leaves all trace;
      no_other = no_other all trace;
    }

other : {A B : Type 0} {number : ℕ} → ((number ≡ no_selection) × A) ⊎ ((number ≡ kind_unknown) × B) → (number ≡ no_selection) ⊎ (number ≡ kind_unknown)
other (inl h) = inl h.0
other (inr h) = inr h.0

is_first : {A B : Type 0} → ((no_selection ≡ no_selection) × A) ⊎ ((no_selection ≡ kind_unknown) × B) → A
is_first (inl h) = h.1
is_first (inr h) = absurd (omega (arith, h.0))

is_second : {A B : Type 0} → ((kind_unknown ≡ no_selection) × A) ⊎ ((kind_unknown ≡ kind_unknown) × B) → B
is_second (inl h) = absurd (omega (arith, h.0))
is_second (inr h) = h.1

pub wide_headers : (kind : ℕ) (payload : List ℕ) → WideHeaders kind payload
unfolding wide_events_of events_of
wide_headers kind payload =
    record {
      refused13 = (λ e. is_first (refused_header kind payload no_selection e), selects_nothing kind payload);
      refused9 = (λ e. is_second (refused_header kind payload kind_unknown e), stands_for_nothing kind payload);
      no_other = λ number e. other (refused_header kind payload number e);
      empty_read = refl;
    }
