-- Document 01, "Numbers given": a run gives each number exactly when the table says so, at the offset that it says, and leaves what it says.
-- Assumes nothing.
use mathlib.Core.Path.{◌≡◌, refl, sym, ◌∙◌, subst}
use mathlib.Core.Bool.{Bool, true, false}
use mathlib.Core.Logic.{◌≢◌, ◌↔◌}
use mathlib.Core.List.{List}
use Prim.Native.Nat.{ℕ}
use native.Mathlib.Omega.{arith}
use borrow.Author.Tests.{eqb-true, eqb-false}
use lib.Dec.{eqb}
use lib.ListN.{take, drop}
use Rattle.codes.specs.OneOf.{one_of}
use Rattle.constants.specs.Numbers.{taken, too_short, out_of_range, outside_table, header_cut, kind_unknown, read_differs, test_mode}
use Rattle.codes.specs.Others.{TestModeByte, RemainingByte}
use Rattle.bus.specs.Chip.{Event}
use Rattle.bus.specs.Bytes.{Bytes, IsByte}
use Rattle.bus.specs.Registers.{registers_of}
use Rattle.bus.specs.Image.{Accepted}
use Rattle.bus.specs.Given.{FirstByte, number_from}
use Rattle.bus.proofs.Given.{given}
use Rattle.trace.specs.Play.{played, play_from}
use Rattle.trace.specs.Kinds.{the_chip}
use Rattle.trace.specs.Run.{ran_of, run}
use Rattle.trace.specs.Given.{GivesAt, stopped_after, HeaderCut, KindUnknown, EventRefused, FirstByteAt, run_event_numbers, run_numbers, NumbersGiven}
use Rattle.trace.proofs.SplitLaws.{rest}
use Rattle.trace.proofs.PlayedFurther.{plays_cut, plays_stop}
use Rattle.trace.proofs.ChipRefusals.{refused_event}
use Rattle.trace.proofs.WhatStands.{cut_tests, front_cut, front_whole, where_left, whole_left}
use Rattle.trace.proofs.ChipKinds.{unknown_stops}
use Rattle.trace.proofs.RunStops.{Standing, standing, ran_there, ran_on, RunStop, not_asked, nowhere, where_cut, at_its_kind, at_its_byte, run_stop}
use Rattle.trace.proofs.GivenAsked.{one, two, one_leaves, two_leaves}
use Rattle.trace.proofs.GivenZero.{zero_given, zero_leaves}
use Rattle.trace.proofs.GivenFirst.{to_first, from_first}
use Rattle.trace.proofs.GivenEvent.{is_differing, differs_there, of_event, event_leaves, is_event}

module _ (state memory trace : List ℕ) where
  -- a run that stops where a header should stand leaves what the records before it left
  stops_there : (at : ℕ) (here : Standing state memory trace at) (number : ℕ) → play_from the_chip (rest trace at) here.count here.chip ≡ played number at here.count here.chip → run state memory trace ≡ stopped_after number at (run state memory (take at trace))
  unfolding ran_of
  stops_there at here number e = ran_on state memory trace at here e ∙ rw (ran_there state memory trace at here)

  eight_leaves : (offset : ℕ) → HeaderCut state memory trace offset → run state memory trace ≡ stopped_after header_cut offset (run state memory (take offset trace))
  eight_leaves at h =
      let tests = cut_tests (drop at trace) h.cut in
      let here = standing state memory trace at (where_left trace at tests.0) h.header in
      stops_there at here header_cut (plays_cut trace at the_chip here.count here.chip (front_cut (drop at trace) tests.0 tests.1))

  nine_leaves : (offset : ℕ) → KindUnknown state memory trace offset → run state memory trace ≡ stopped_after kind_unknown offset (run state memory (take offset trace))
  nine_leaves at h =
      let here = standing state memory trace at (where_left trace at (whole_left trace at h.complete)) h.header in
      let front = front_whole (drop at trace) h.complete in
      stops_there at here kind_unknown (plays_stop trace at the_chip here.count here.chip _ front kind_unknown at here.chip (unknown_stops trace at front here.chip h.unknown))

  is_cut : {number offset : ℕ} → RunStop state memory trace number offset → number ≡ header_cut → HeaderCut state memory trace offset
  is_cut (not_asked p q) n = absurd (omega arith)
  is_cut (nowhere p) n = absurd (omega arith)
  is_cut (where_cut h m) n = h
  is_cut (at_its_kind h m) n = absurd (omega arith)
  is_cut (at_its_byte at here d w p q s) n = absurd ((of_event (refused_event _ d _ s.refused)).not_cut n)

  is_unknown : {number offset : ℕ} → RunStop state memory trace number offset → number ≡ kind_unknown → KindUnknown state memory trace offset
  is_unknown (not_asked p q) n = absurd (omega arith)
  is_unknown (nowhere p) n = absurd (omega arith)
  is_unknown (where_cut h m) n = absurd (omega arith)
  is_unknown (at_its_kind h m) n = h
  is_unknown (at_its_byte at here d w p q s) n = absurd ((of_event (refused_event _ d _ s.refused)).not_kind n)

  listed : {number offset : ℕ} → RunStop state memory trace number offset → one_of run_numbers number ≡ true
  listed {number} (not_asked p q) = by (eqb number too_short) refl
    where
      by : (b : Bool) → eqb number too_short ≡ b → one_of run_numbers number ≡ true
      by true e = rw (eqb-true number too_short e)
      by false e = let two : number ≡ out_of_range = omega (arith, eqb-false number too_short e) in rw two
  listed (nowhere p) = rw p
  listed (where_cut h m) = rw m
  listed (at_its_kind h m) = rw m
  listed (at_its_byte at here d w p q s) = (of_event (refused_event _ d _ s.refused)).listed

-- 3 and 15 are given for command bytes where no code is awaited
module _ (state memory trace : List ℕ) (bytes : Bytes trace) (offset : ℕ) where
  exactly3 : (event : Event) (state memory : List ℕ) → IsByte event → number_from event state memory ≡ outside_table ↔ Accepted state memory × FirstByte RemainingByte (registers_of state) event
  exactly3 event state memory h = (given event state memory).number3 h

  three : EventRefused state memory trace outside_table offset ↔ FirstByteAt RemainingByte state memory trace offset
  three =
      let no : outside_table ≢ taken = λ e. omega (arith, e) in
      let own : outside_table ≢ read_differs = λ e. omega (arith, e) in
      (to_first outside_table RemainingByte no own exactly3 state memory trace bytes offset, from_first outside_table RemainingByte no own exactly3 state memory trace bytes offset)

  exactly15 : (event : Event) (state memory : List ℕ) → IsByte event → number_from event state memory ≡ test_mode ↔ Accepted state memory × FirstByte TestModeByte (registers_of state) event
  exactly15 event state memory h = (given event state memory).number15

  fifteen : EventRefused state memory trace test_mode offset ↔ FirstByteAt TestModeByte state memory trace offset
  fifteen =
      let no : test_mode ≢ taken = λ e. omega (arith, e) in
      let own : test_mode ≢ read_differs = λ e. omega (arith, e) in
      (to_first test_mode TestModeByte no own exactly15 state memory trace bytes offset, from_first test_mode TestModeByte no own exactly15 state memory trace bytes offset)

-- an event's number is given exactly where it is refused
module _ (state memory trace : List ℕ) where
  is_event_as : Bytes trace → (number : ℕ) → one_of run_event_numbers number ≡ true → (run state memory trace).stop.number ≡ number → EventRefused state memory trace number (run state memory trace).stop.offset
  is_event_as bytes number n e = subst (λ (m : ℕ). EventRefused state memory trace m (run state memory trace).stop.offset) e (is_event state memory trace bytes (run_stop state memory trace) (subst (λ (m : ℕ). one_of run_event_numbers m ≡ true) (sym e) n))

  given_event : Bytes trace → (number offset : ℕ) → one_of run_event_numbers number ≡ true → GivesAt (run state memory trace) number offset ↔ EventRefused state memory trace number offset
  given_event bytes number offset n = (λ e. subst (EventRefused state memory trace number) e.1 (is_event_as bytes number n e.0), λ h. rw (event_leaves state memory trace bytes number offset h) (refl, refl))

-- the table
pub numbers_given : (state memory trace : List ℕ) → NumbersGiven state memory trace
numbers_given state memory trace =
    record {
      number0 = zero_given state memory trace;
      number0_leaves = zero_leaves state memory trace;
      number1 = one state memory trace;
      number1_leaves = one_leaves state memory trace;
      number2 = two state memory trace;
      number2_leaves = two_leaves state memory trace;
      event = given_event state memory trace;
      event_leaves = event_leaves state memory trace;
      number3 = λ bytes offset.
          let first = three state memory trace bytes offset in
          (λ e. first.0 ((given_event state memory trace bytes outside_table offset refl).0 e), λ h. (given_event state memory trace bytes outside_table offset refl).1 (first.1 h));
      number15 = λ bytes offset.
          let first = fifteen state memory trace bytes offset in
          (λ e. first.0 ((given_event state memory trace bytes test_mode offset refl).0 e), λ h. (given_event state memory trace bytes test_mode offset refl).1 (first.1 h));
      ten = is_differing state memory trace;
      ten_met = differs_there state memory trace;
      number8 = λ offset. (λ e. subst (HeaderCut state memory trace) e.1 (is_cut state memory trace (run_stop state memory trace) e.0), λ h. rw (eight_leaves state memory trace offset h) (refl, refl));
      number8_leaves = eight_leaves state memory trace;
      number9 = λ offset. (λ e. subst (KindUnknown state memory trace) e.1 (is_unknown state memory trace (run_stop state memory trace) e.0), λ h. rw (nine_leaves state memory trace offset h) (refl, refl));
      number9_leaves = nine_leaves state memory trace;
      no_other = listed state memory trace (run_stop state memory trace);
    }
