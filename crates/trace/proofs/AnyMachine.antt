-- What holds of a played trace over any machine that has a step.
-- Assumes nothing.
use mathlib.Core.Path.{◌≡◌, refl, sym, ◌∙◌, ap, subst}
use mathlib.Core.Bool.{true}
use mathlib.Core.List.{List, [], ◌∷◌, ◌++◌, append-nil}
use Prim.Native.Nat.{ℕ, ◌+◌}
use native.Mathlib.Nat.{add-zero}
use native.Mathlib.Omega.{arith}
use lib.ListN.{length, take, drop, take-append-drop, drop_of_length-le}
use Rattle.constants.specs.Numbers.{taken}
use Rattle.constants.specs.Sizes.{header_size}
use Rattle.trace.specs.Records.{kind_of, payload_of, whole, split_from, split}
use Rattle.trace.specs.Play.{Result, refuses, gives, on_result, Machine, stopped, done, Played, played, play_events, play_record, play_from, play}
use Rattle.trace.specs.AnyMachine.{Sound, Reached, EndsAs, all_taken, header_is_cut, header_refused, event_refused, AnyMachine}
use Rattle.trace.proofs.OneByOne.{one_by_one_lem}
use Rattle.trace.proofs.PayloadBytes.{never}
use Rattle.trace.proofs.WhatStands.{at_end, cut_tests, tests_cut, front_cut, front_whole}
use Rattle.trace.proofs.PlayedFurther.{plays_nothing, plays_cut, plays_stop}
use Rattle.trace.proofs.PlayedJoined.{taken_offset, taken_count, joined}
use Rattle.trace.proofs.PlayedStops.{First, all, cut_at, stop_at, first, from_there}
use Rattle.trace.proofs.PlayedKeeps.{split_carries, play_keeps}
use Rattle.trace.proofs.PlayedAlike.{played_alike}

take_all : (l : List ℕ) → take (length l) l ≡ l
take_all l = sym (append-nil (take (length l) l)) ∙ ap (λ more. take (length l) l ++ more) (sym (drop_of_length-le l {i = length l} (omega arith))) ∙ take-append-drop (length l) l

module _ {S E : Type 0} (machine : Machine S E) where
  -- the events before one that is refused, and that one
  record RefusedAmong (events : List E) (at : ℕ) (s : S) (number offset : ℕ) (u : S) : Type 0 where
    before : List E
    event : E
    rest : List E
    parts : events ≡ before ++ event ∷ rest
    early : play_events machine before at s ≡ done u
    refusal : machine.step event u ≡ refuses number
    place : offset ≡ at + length before

  among : (events : List E) (at : ℕ) (s : S) (number offset : ℕ) (u : S) → play_events machine events at s ≡ stopped number offset u → RefusedAmong events at s number offset u
  unfolding play_events
  among [] at s number offset u h = absurd (never h)
  among (e ∷ rest) at s number offset u h = by (machine.step e s) refl h (λ t. among rest (at + 1) t number offset u)
    where
      by : (result : Result S) → machine.step e s ≡ result → on_result result (λ number. stopped number at s) (λ t. play_events machine rest (at + 1) t) ≡ stopped number offset u
          → ((t : S) → play_events machine rest (at + 1) t ≡ stopped number offset u → RefusedAmong rest (at + 1) t number offset u) → RefusedAmong (e ∷ rest) at s number offset u
      by (refuses refusal) r h later =
          let its-number : refusal ≡ number = cc in
          let its-offset : at ≡ offset = cc in
          let its-state : s ≡ u = cc in
          record { before = []; event = e; rest = rest; parts = refl; early = ap done its-state; refusal = rw (← its-state, ← its-number) r; place = omega arith }
      by (gives t) r h later =
          let more = later t h in
          record { before = e ∷ more.before; event = more.event; rest = more.rest; parts = ap (λ l. e ∷ l) more.parts; early = rw r more.early; refusal = more.refusal; place = omega (arith, more.place) }

  stops_after : (before : List E) (event : E) (rest : List E) (at : ℕ) (s u : S) (number : ℕ) → play_events machine before at s ≡ done u → machine.step event u ≡ refuses number → play_events machine (before ++ event ∷ rest) at s ≡ stopped number (at + length before) u
  unfolding play_events
  stops_after [] event rest at s u number h r =
      let its-state : s ≡ u = cc in
      rw (its-state, r, add-zero)
  stops_after (e ∷ before) event rest at s u number h r = by (machine.step e s) h (λ t. stops_after before event rest (at + 1) t u number)
    where
      by : (result : Result S) → on_result result (λ number. stopped number at s) (λ t. play_events machine before (at + 1) t) ≡ done u
          → ((t : S) → play_events machine before (at + 1) t ≡ done u → machine.step event u ≡ refuses number → play_events machine (before ++ event ∷ rest) (at + 1) t ≡ stopped number (at + 1 + length before) u)
          → on_result result (λ number. stopped number at s) (λ t. play_events machine (before ++ event ∷ rest) (at + 1) t) ≡ stopped number (at + length (e ∷ before)) u
      by (refuses refusal) h later = absurd (never (sym h))
      by (gives t) h later = let e : at + length (e ∷ before) ≡ at + 1 + length before = omega arith in rw e (later t h r)

  module _ (sound : Sound machine) (trace : List ℕ) (s : S) where
    -- an ending says what is played
    ending_played : {p : Played S} → EndsAs machine trace s p → play machine (split trace) s ≡ p
    unfolding play_record
    ending_played (all_taken count t r) = from_there machine sound trace s t (length trace) count r ∙ plays_nothing trace (length trace) machine count t (at_end trace (length trace) (omega arith))
    ending_played (header_is_cut at count t r c) =
        let tests = cut_tests (drop at trace) c in
        from_there machine sound trace s t at count r ∙ plays_cut trace at machine count t (front_cut (drop at trace) tests.0 tests.1)
    ending_played (header_refused at count number t r w e) = from_there machine sound trace s t at count r ∙ plays_stop trace at machine count t _ (front_whole (drop at trace) w) number at t (rw e)
    ending_played (event_refused at count number t u before event rest r w e early refusal) =
        from_there machine sound trace s t at count r ∙
        plays_stop trace at machine count t _ (front_whole (drop at trace) w) number (at + header_size + length before) u (rw e (stops_after before event rest (at + header_size) t u number early refusal))

    -- a record that stops, by what its header is judged
    by_header : (at count number offset : ℕ) (t u : S) → Reached machine trace s at count t → whole (drop at trace) ≡ true → (header : Result (List E)) → machine.events (kind_of (drop at trace)) (payload_of (drop at trace)) ≡ header
        → on_result header (λ refusal. stopped refusal at t) (λ events. play_events machine events (at + header_size) t) ≡ stopped number offset u → EndsAs machine trace s (played number offset count u)
    by_header at count number offset t u r w (refuses refusal) e h =
        let its-number : refusal ≡ number = cc in
        let its-offset : at ≡ offset = cc in
        let its-state : t ≡ u = cc in
        rw (← its-number, ← its-offset, ← its-state) (header_refused at count refusal t r w e)
    by_header at count number offset t u r w (gives events) e h =
        let a = among events (at + header_size) t number offset u h in
        rw a.place (event_refused at count number t u a.before a.event a.rest r w (e ∙ ap gives a.parts) a.early a.refusal)

    by_first : {p : Played S} → play machine (split trace) s ≡ p → First machine trace s p → EndsAs machine trace s p
    unfolding play_record
    by_first {p} e (all n) =
        let its-offset : p.offset ≡ length trace = rw (← e) (taken_offset machine sound trace [] s (rw e n)) in
        let whole-play : p ≡ played taken (length trace) p.count p.state = rw (← n, ← its-offset) in
        rw whole-play (all_taken p.count p.state (ap (λ b. play machine (split b) s) (take_all trace) ∙ e ∙ whole-play))
    by_first e (cut_at at count t r some cut q) = rw q (header_is_cut at count t r (tests_cut (drop at trace) some cut))
    by_first e (stop_at at count t r w number offset u stop q) = rw q (by_header at count number offset t u r w (machine.events (kind_of (drop at trace)) (payload_of (drop at trace))) refl stop)

    played_ending : {p : Played S} → play machine (split trace) s ≡ p → EndsAs machine trace s p
    played_ending e = by_first e (subst (First machine trace s) e (first machine sound trace s))

  pub any_machine : AnyMachine machine
  unfolding split split_from play_from
  any_machine =
      record {
        by_events = λ trace s. one_by_one_lem machine (split trace) 0 s;
        empty = λ s. refl;
        ends = λ sound trace s p. (played_ending sound trace s, ending_played sound trace s);
        whole = λ sound trace s h. (taken_offset machine sound trace [] s h, taken_count machine sound trace [] s h);
        joined = λ sound a b s h. joined machine sound a b s h;
        kept = λ R P Q brings keeps trace s all h. play_keeps machine R P Q brings keeps (split trace) 0 s (split_carries R 0 0 trace all) h;
        alike = λ R meets trace s t r. played_alike machine R meets (split trace) 0 s t r;
      }
