-- A run gives 3 to 7, 10 and 15 exactly when an event is refused, at its byte, and leaves what the bytes before it leave.
-- Assumes nothing.
use mathlib.Core.Path.{◌≡◌, refl, sym, ◌∙◌, ap, subst}
use mathlib.Core.Logic.{◌≢◌}
use mathlib.Core.Bool.{Bool, true, false, cond, not, ◌&&◌, ◌||◌}
use mathlib.Core.List.{List, [], ◌++◌, map, append-nil}
use Prim.Native.Nat.{ℕ, ◌+◌, ◌-◌, ◌≤◌}
use native.Mathlib.Omega.{arith}
use borrow.Author.Tests.{eqb-true, eqb-false, ne_eqb}
use lib.Dec.{eqb}
use lib.ListN.{length, get_or, take, drop}
use lib.Seq.{slice}
use Rattle.codes.specs.OneOf.{one_of}
use Rattle.codes.proofs.Tests.{not_listed, one_of_each}
use Rattle.constants.specs.Numbers.{taken, header_cut, kind_unknown, read_differs}
use Rattle.constants.specs.Sizes.{header_size}
use Rattle.bus.specs.Chip.{Chip, step}
use Rattle.bus.specs.Calls.{Called, reply_of, concluded, call}
use Rattle.bus.specs.Given.{call_numbers}
use Rattle.bus.specs.Image.{Accepted}
use Rattle.bus.specs.Bytes.{All, Bytes}
use Rattle.bus.specs.Answer.{Reply}
use Rattle.bus.proofs.Answers.{Callable}
use Rattle.bus.proofs.Asking.{found_legal}
use Rattle.bus.proofs.Given.{given}
use Rattle.bus.proofs.Stored.{call_stored, asked_stored}
use Rattle.trace.specs.Records.{length_of, kind_of, record_bytes, record_at, split_from, split}
use Rattle.trace.specs.Play.{refuses, Ending, stopped, done, played, on_ending, play_events, play_record, play_from, play}
use Rattle.trace.specs.Kinds.{Recorded, read_as, recorded_command, recorded_write, replay, chip_of, the_chip}
use Rattle.trace.specs.ByCalls.{called_by, meets}
use Rattle.trace.specs.Run.{Ran, ran, stop_of, ran_of, run}
use Rattle.trace.specs.Given.{recorded_by, ran_before, reply_there, met_there, PayloadByte, EventRefused, ReadDiffers, run_event_numbers, run_numbers}
use Rattle.trace.specs.AnyMachine.{Gives, further}
use Rattle.trace.proofs.PlayedFurther.{plays_stop, ending_further, events_further, is_done}
use Rattle.trace.proofs.PlayedJoined.{Stops, events_stop, joined}
use Rattle.trace.proofs.SplitLaws.{split_written}
use Rattle.trace.proofs.PlayedKeeps.{Leaves, all_drop, all_take, events_keep}
use Rattle.trace.proofs.ChipKeeps.{Held, Brings, brings, replay_held}
use Rattle.trace.proofs.WhatStands.{within_trace, front_whole, where_left, whole_left}
use Rattle.trace.proofs.PayloadBytes.{play_bytes, turn_refused, then_bytes}
use Rattle.trace.proofs.ChipRefusals.{Refusal, own, differing, refused_event, the_chip_sound, refused_met, met_refused}
use Rattle.trace.proofs.RunOnLent.{fits, run_found, left_held}
use Rattle.trace.proofs.ChipKinds.{each_byte, its_bytes_lem}
use Rattle.trace.proofs.RunStops.{Standing, standing, ran_there, ran_on, RunStop, not_asked, nowhere, where_cut, at_its_kind, at_its_byte, header_at}

-- the number that an event is refused with is no header's, and a run's
pub record OfEvent (number : ℕ) : Type 0 where
  pub not_taken : number ≡ taken → ⊥
  pub not_cut : number ≡ header_cut → ⊥
  pub not_kind : number ≡ kind_unknown → ⊥
  pub listed : one_of run_numbers number ≡ true

pub of_event : {recorded : Recorded} {c : Chip} {number : ℕ} → Refusal recorded c number → OfEvent number
of_event {number = number} (own p q) =
    record {
      not_taken = λ e. omega arith;
      not_cut = λ e. not_listed call_numbers header_cut e refl q;
      not_kind = λ e. not_listed call_numbers kind_unknown e refl q;
      listed = one_of_each (λ (n : ℕ). one_of run_numbers n ≡ true) call_numbers number (refl, (refl, (refl, (refl, (refl, (refl, (refl, (refl, (refl, tt))))))))) q;
    }
of_event (differing byte after r a d b n) = record { not_taken = λ e. omega arith; not_cut = λ e. omega arith; not_kind = λ e. omega arith; listed = rw n }

module _ (state memory trace : List ℕ) where
  -- the bytes of a record that stands at a place, up to an offset
  record AreDone (at offset : ℕ) (here : Standing state memory trace at) : Type 0 where
    chip : Chip
    bytes : play_bytes the_chip (recorded_by (kind_of (drop at trace))) trace (at + header_size) offset here.chip ≡ done chip

  module _ (at offset : ℕ) (here : Standing state memory trace at) (from : 1 ≤ kind_of (drop at trace)) (to : kind_of (drop at trace) ≤ 3) where
    abbrev kind : ℕ
    kind = kind_of (drop at trace)

    abbrev part : List ℕ
    part = slice (at + header_size) offset trace

    abbrev early : Ending Chip
    early = play_events the_chip (map (recorded_by kind) part) header_size here.chip

    -- the record cut there, alone
    alone : play the_chip (split (record_bytes kind part)) here.chip ≡ on_ending early (λ n o t. played n o 0 t) (λ t. played taken (header_size + length part + 0) 1 t)
    unfolding split split_from play_from play_record
    alone =
        ap (λ b. play the_chip (split b) here.chip) (sym (append-nil (record_bytes kind part))) ∙
        ap (λ trace. play the_chip trace here.chip) (split_written kind part []) ∙
        rw (each_byte kind part from to)

    before_is : ran_before state memory trace at offset ≡ ran_of (further at here.count (on_ending early (λ n o t. played n o 0 t) (λ t. played taken (header_size + length part + 0) 1 t))) state
    before_is =
        run_found state memory here.registers here.found (take at trace ++ record_bytes kind part) ∙
        ap (λ p. ran_of p state) (joined the_chip the_chip_sound (take at trace) (record_bytes kind part) (chip_of here.registers memory) (ap (λ p. p.number) here.reached) ∙ rw (here.reached, alone))

    same_bytes : play_bytes the_chip (recorded_by kind) trace (at + header_size) offset here.chip ≡ ending_further at early
    same_bytes = events_further the_chip at (map (recorded_by kind) part) header_size here.chip

    -- they are done: what the run of the bytes before leaves
    module _ (d : Chip) (h : play_bytes the_chip (recorded_by kind) trace (at + header_size) offset here.chip ≡ done d) where
      before_ran : ran_before state memory trace at offset ≡ ran_of (further at here.count (played taken (header_size + length part + 0) 1 d)) state
      before_ran = before_is ∙ rw (is_done at early (sym same_bytes ∙ h))

      module _ (bytes : Bytes trace) where
        -- the chip that they leave is legal
        before_held : Held memory d
        before_held =
            let first : Held memory here.chip = rw here.reached at (left_held state memory here.registers here.found (take at trace) (all_take _ at trace bytes)) in
            let brought : All Brings (map (recorded_by kind) part) = subst (Gives (All Brings)) (each_byte kind part from to) (brings kind part (all_drop _ (at + header_size) _ (all_take _ offset trace bytes))) in
            subst (Leaves (Held memory)) h (events_keep the_chip _ (Held memory) Brings brings (replay_held memory) (map (recorded_by kind) part) (at + header_size) here.chip brought first)

        -- what the call of an event replies there is what its step answers
        reply_there_lem : (recorded : Recorded) → (call (called_by recorded) (ran_before state memory trace at offset).state (ran_before state memory trace at offset).memory).reply ≡ reply_of (step (called_by recorded) d.registers d.memory).answer
        unfolding ran_of concluded
        reply_there_lem recorded =
            let size = fits state memory here.registers here.found in
            ap (λ (before : Ran). (call (called_by recorded) before.state before.memory).reply) before_ran ∙
            ap (λ (c : Called). c.reply) (call_stored state size.image (called_by recorded) d.registers d.memory before_held.registers (omega (arith, before_held.size, size.display)))

        -- and legal too is the image that they leave
        before_accepted : Accepted (ran_before state memory trace at offset).state (ran_before state memory trace at offset).memory
        unfolding ran_of
        before_accepted =
            let size = fits state memory here.registers here.found in
            let legal = found_legal _ _ (asked_stored state size.image d.memory d.registers (omega (arith, before_held.size, size.display)) before_held.registers) in
            rw before_ran (record { long_enough = legal.0; in_ranges = legal.1 })

    -- and where that run is taken, they are done
    before_done : (ran_before state memory trace at offset).stop.number ≡ taken → AreDone at offset here
    unfolding ran_of
    before_done n = by early refl
      where
        by : (ending : Ending Chip) → early ≡ ending → AreDone at offset here
        by (done d) e = record { chip = d; bytes = same_bytes ∙ rw e }
        by (stopped number o t) e = absurd (subst (Stops the_chip the_chip_sound) e (events_stop the_chip the_chip_sound (map (recorded_by kind) part) header_size here.chip) (rw (before_is, e) at n))

  pub is_event : Bytes trace → {number offset : ℕ} → RunStop state memory trace number offset → one_of run_event_numbers number ≡ true → EventRefused state memory trace number offset
  unfolding ran_of
  is_event bytes {number} (not_asked p q) n = absurd (by (eqb number 1) refl)
    where
      by : (b : Bool) → eqb number 1 ≡ b → ⊥
      by true e = not_listed run_event_numbers 1 (eqb-true number 1 e) refl n
      by false e = not_listed run_event_numbers {n = number} 2 (omega (arith, eqb-false number 1 e)) refl n
  is_event bytes (nowhere p) n = absurd (not_listed run_event_numbers taken p refl n)
  is_event bytes (where_cut h m) n = absurd (not_listed run_event_numbers header_cut m refl n)
  is_event bytes (at_its_kind h m) n = absurd (not_listed run_event_numbers kind_unknown m refl n)
  is_event bytes {number} {offset} (at_its_byte at here d w p q s) n =
      let recorded = recorded_by (kind_of (drop at trace)) (get_or trace offset 0) in
      record {
        stands = record {
          place = at;
          header = header_at state memory trace at here;
          complete = w;
          kind_from = p;
          kind_to = q;
          after = s.after;
          inside = s.inside;
          before = ap (λ (r : Ran). r.stop.number) (before_ran at offset here p q d s.before);
        };
        refused = (of_event (refused_event recorded d number s.refused)).not_taken;
        met = ap (meets recorded) (reply_there_lem at offset here p q d s.before bytes recorded) ∙ refused_met recorded d number s.refused;
      }

  -- where the bytes before one are taken, they leave a legal image
  pub accepted_before : Bytes trace → (offset : ℕ) (s : PayloadByte state memory trace offset) → let before = ran_before state memory trace s.place offset in Accepted before.state before.memory
  accepted_before bytes offset s =
      let here = standing state memory trace s.place (where_left trace s.place (whole_left trace s.place s.complete)) s.header in
      let early = before_done s.place offset here s.kind_from s.kind_to s.before in
      before_accepted s.place offset here s.kind_from s.kind_to early.chip early.bytes bytes

  -- the event has not happened: the run leaves what the bytes before it leave
  pub event_leaves : Bytes trace → (number offset : ℕ) (h : EventRefused state memory trace number offset) → run state memory trace ≡ ran (stop_of number offset (run state memory (take h.stands.place trace)).stop.count) (ran_before state memory trace h.stands.place offset).state (ran_before state memory trace h.stands.place offset).memory
  unfolding ran_of
  event_leaves bytes number offset h =
      let s = h.stands in
      let at = s.place in
      let here = standing state memory trace at (where_left trace at (whole_left trace at s.complete)) s.header in
      let early = before_done at offset here s.kind_from s.kind_to s.before in
      let d = early.chip in
      let means = recorded_by (kind_of (drop at trace)) in
      let recorded = means (get_or trace offset 0) in
      let front = front_whole (drop at trace) s.complete in
      let fit = within_trace trace at _ front in
      let end = at + header_size + length_of (drop at trace) in
      let refusal : replay recorded d ≡ refuses number =
      met_refused recorded d number (sym (ap (meets recorded) (reply_there_lem at offset here s.kind_from s.kind_to d early.bytes bytes recorded)) ∙ h.met) h.refused in
      let stop : play_record the_chip (record_at at (drop at trace)) here.chip ≡ stopped number offset d =
      its_bytes_lem trace at here.chip s.complete s.kind_from s.kind_to ∙
      then_bytes the_chip means trace (offset - (at + header_size)) (at + header_size) offset end here.chip d (omega (arith, s.after)) (omega (arith, s.inside)) fit early.bytes ∙
      turn_refused the_chip means trace offset end d number s.inside fit refusal in
      ran_on state memory trace at here (plays_stop trace at the_chip here.count here.chip _ front number offset d stop) ∙ rw (ran_there state memory trace at here, before_ran at offset here s.kind_from s.kind_to d early.bytes)

-- no call replies 10
never_ten : {number : ℕ} → Callable number → number ≡ read_differs → ⊥
never_ten m e = not_listed call_numbers read_differs e refl m

-- an event that meets 10 is a read that is taken, no dummy, and answers another byte
record Differing (kind byte : ℕ) (reply : Reply) : Type 0 where
  reads : kind ≡ 3
  happens : reply.number ≡ taken
  compared : reply.dummy ≡ false
  differs : reply.byte ≢ byte

differing_read : (byte : ℕ) (reply : Reply) (t d b : Bool) → eqb reply.number taken ≡ t → reply.dummy ≡ d → eqb reply.byte byte ≡ b → Callable reply.number → cond (t && not (d || b)) read_differs reply.number ≡ read_differs
    → (reply.number ≡ taken) × (reply.dummy ≡ false) × (reply.byte ≢ byte)
differing_read byte reply true false false t d b m e = (eqb-true reply.number taken t, d, eqb-false reply.byte byte b)
differing_read byte reply true false true t d b m e = absurd (never_ten m e)
differing_read byte reply true true b t d u m e = absurd (never_ten m e)
differing_read byte reply false d b t u v m e = absurd (never_ten m e)

meets_ten : (kind byte : ℕ) (reply : Reply) → 1 ≤ kind → kind ≤ 3 → Callable reply.number → meets (recorded_by kind byte) reply ≡ read_differs → Differing kind byte reply
meets_ten kind byte reply p q m e = by (eqb kind 1) (eqb kind 2) refl refl e
  where
    by : (a b : Bool) → eqb kind 1 ≡ a → eqb kind 2 ≡ b → meets (cond a (recorded_command byte) (cond b (recorded_write byte) (read_as byte))) reply ≡ read_differs → Differing kind byte reply
    by true b k l e = absurd (never_ten m e)
    by false true k l e = absurd (never_ten m e)
    by false false k l e =
        let third : kind ≡ 3 = omega (arith, eqb-false kind 1 k, eqb-false kind 2 l) in
        let read = differing_read byte reply _ _ _ refl refl refl m e in
        record { reads = third; happens = read.0; compared = read.1; differs = read.2 }

pub is_differing : (state memory trace : List ℕ) (offset : ℕ) (h : EventRefused state memory trace read_differs offset) → ReadDiffers state memory trace h.stands.place offset
is_differing state memory trace offset h =
    let d = meets_ten (kind_of (drop h.stands.place trace)) (get_or trace offset 0) (reply_there state memory trace h.stands.place offset) h.stands.kind_from h.stands.kind_to (given _ _ _).no_other h.met in
    record { reads = d.reads; happens = d.happens; compared = d.compared; differs = d.differs }

-- and such a read meets 10
meets_differing : (kind byte : ℕ) (reply : Reply) → kind ≡ 3 → reply.number ≡ taken → reply.dummy ≡ false → reply.byte ≢ byte → meets (recorded_by kind byte) reply ≡ read_differs
meets_differing kind byte reply k n d b = rw (k, n, d, ne_eqb reply.byte byte b)

pub differs_there : (state memory trace : List ℕ) (place offset : ℕ) → ReadDiffers state memory trace place offset → met_there state memory trace place offset ≡ read_differs
differs_there state memory trace place offset d =
    meets_differing (kind_of (drop place trace)) (get_or trace offset 0) (reply_there state memory trace place offset) d.reads d.happens d.compared d.differs
