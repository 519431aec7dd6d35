-- How a run stops: at a header that is cut or of no kind, or at a byte of a record whose event is refused, after whole records that are taken.
-- Assumes nothing.
use mathlib.Core.Path.{◌≡◌, refl, sym, ◌∙◌, ap, subst}
use mathlib.Core.Bool.{true}
use mathlib.Core.List.{List, []}
use Prim.Native.Nat.{ℕ, ◌+◌, ◌≤◌, ◌<◌}
use native.Mathlib.Omega.{arith}
use lib.ListN.{length, drop, take}
use lib.Seq.{length-take-le}
use Rattle.constants.specs.Numbers.{kind_unknown, taken, out_of_range, header_cut}
use Rattle.constants.specs.Sizes.{header_size}
use Rattle.bus.specs.Chip.{Chip, reset_pulse, step}
use Rattle.bus.specs.Events.{reset_pin}
use Rattle.bus.specs.Image.{asked}
use Rattle.bus.specs.declared.registers.Registers.{Registers}
use Rattle.bus.specs.Answer.{Asked}
use Rattle.bus.proofs.Asking.{OneOrTwo, asked_refusal}
use Rattle.trace.specs.Records.{length_of, kind_of, payload_of, whole, record_at, split}
use Rattle.trace.specs.Play.{Result, stopped, play_record, Played, played, play_from, play}
use Rattle.trace.specs.Kinds.{Recorded, event, happened, replay, the_chip, chip_of}
use Rattle.trace.specs.Given.{Unknown, recorded_by, HeaderAt, HeaderCut, KindUnknown}
use Rattle.trace.specs.Run.{Ran, ran_of, run}
use Rattle.trace.specs.AnyMachine.{Reached}
use Rattle.trace.proofs.ChipKinds.{kind_4, Kind, commands, writes, reads, reset, none, by_kind, front, its_bytes_lem, unknown_stops}
use Rattle.trace.proofs.WhatStands.{within_trace, payload_length, tests_cut}
use Rattle.trace.proofs.PayloadBytes.{never, StopsAt, stops_at, one_given}
use Rattle.trace.proofs.SplitLaws.{rest}
use Rattle.trace.proofs.PlayedJoined.{taken_offset}
use Rattle.trace.proofs.PlayedStops.{First, all, cut_at, stop_at, first, from_there}
use Rattle.trace.proofs.ChipRefusals.{the_chip_sound}
use Rattle.trace.proofs.RunOnLent.{run_found, by_asking, refused_run, refused_taken}

module _ (trace : List ℕ) where
  data RecordStop (at : ℕ) (c : Chip) (number offset : ℕ) (d : Chip) : Type 0 where
    at_header : Unknown (kind_of (drop at trace)) (length_of (drop at trace)) → number ≡ kind_unknown → offset ≡ at → RecordStop at c number offset d
    at_byte : 1 ≤ kind_of (drop at trace) → kind_of (drop at trace) ≤ 3 → StopsAt the_chip (recorded_by (kind_of (drop at trace))) trace (at + header_size) (at + header_size + length_of (drop at trace)) c number offset d → RecordStop at c number offset d

  module _ (at : ℕ) (c : Chip) (number offset : ℕ) (d : Chip) (w : whole (drop at trace) ≡ true) (h : play_record the_chip (record_at at (drop at trace)) c ≡ stopped number offset d) where
    byte_stop : 1 ≤ kind_of (drop at trace) → kind_of (drop at trace) ≤ 3 → RecordStop at c number offset d
    byte_stop p q =
        at_byte p q (stops_at the_chip (recorded_by (kind_of (drop at trace))) trace (length_of (drop at trace)) (at + header_size) _ c number offset d refl (within_trace trace at _ (front trace at c w)) (sym (its_bytes_lem trace at c w p q) ∙ h))

    record_stop : {result : Result (List Recorded)} → Kind (kind_of (drop at trace)) (payload_of (drop at trace)) result → RecordStop at c number offset d
    unfolding replay happened step reset_pin
    record_stop (commands k) = byte_stop (omega arith) (omega arith)
    record_stop (writes k) = byte_stop (omega arith) (omega arith)
    record_stop (reads k) = byte_stop (omega arith) (omega arith)
    record_stop (reset k e) =
        absurd (never (sym (one_given the_chip (event reset_pulse) (at + header_size) c _ refl) ∙ sym (kind_4 trace at _ (front trace at c w) c k (sym (payload_length trace at w) ∙ e)) ∙ h))
    record_stop (none u) =
        let here : stopped kind_unknown at c ≡ stopped number offset d = sym (unknown_stops trace at (front trace at c w) c (rw (payload_length trace at w) at u)) ∙ h in
        let its-number : kind_unknown ≡ number = cc in
        let its-offset : at ≡ offset = cc in
        at_header (rw (payload_length trace at w) at u) (sym its-number) (sym its-offset)

as_played : {S : Type 0} (p : Played S) {number offset : ℕ} → p.number ≡ number → p.offset ≡ offset → p ≡ played number offset p.count p.state
as_played p a b = rw (← a, ← b)

module _ (state memory trace : List ℕ) where
  -- a header should stand at an offset: the chip that the records before it leave
  pub record Standing (at : ℕ) : Type 0 where
    pub registers : Registers
    pub found : asked state memory ≡ Asked.Found registers
    pub count : ℕ
    pub chip : Chip
    pub reached : Reached the_chip trace (chip_of registers memory) at count chip

  pub standing : (at : ℕ) → at ≤ length trace → HeaderAt state memory trace at → Standing at
  unfolding ran_of
  standing at l h =
      by_asking state memory (Standing at)
      (λ r e.
      let p = play the_chip (split (take at trace)) (chip_of r memory) in
      let its-number : p.number ≡ taken = ap (λ (o : Ran). o.stop.number) (sym (run_found state memory r e (take at trace))) ∙ h in
      let its-offset : p.offset ≡ at = taken_offset the_chip the_chip_sound (take at trace) [] (chip_of r memory) its-number ∙ length-take-le at trace l in
      record { registers = r; found = e; count = p.count; chip = p.state; reached = as_played p its-number its-offset })
      (λ number e. absurd (refused_taken state memory (take at trace) number e h))

  module _ (at : ℕ) (here : Standing at) where
    pub ran_there : run state memory (take at trace) ≡ ran_of (played taken at here.count here.chip) state
    ran_there = run_found state memory here.registers here.found (take at trace) ∙ ap (λ p. ran_of p state) here.reached

    -- the run goes on there
    pub ran_on : {p : Played Chip} → play_from the_chip (rest trace at) here.count here.chip ≡ p → run state memory trace ≡ ran_of p state
    ran_on e =
        run_found state memory here.registers here.found trace ∙
        ap (λ p. ran_of p state) (from_there the_chip the_chip_sound trace (chip_of here.registers memory) here.chip at here.count here.reached ∙ e)

  -- how a run stops
  pub data RunStop (number offset : ℕ) : Type 0 where
    not_asked : taken < number → number ≤ out_of_range → RunStop number offset
    nowhere : number ≡ taken → RunStop number offset
    where_cut : HeaderCut state memory trace offset → number ≡ header_cut → RunStop number offset
    at_its_kind : KindUnknown state memory trace offset → number ≡ kind_unknown → RunStop number offset
    at_its_byte : (at : ℕ) (here : Standing at) (d : Chip) → whole (drop at trace) ≡ true → 1 ≤ kind_of (drop at trace) → kind_of (drop at trace) ≤ 3
        → StopsAt the_chip (recorded_by (kind_of (drop at trace))) trace (at + header_size) (at + header_size + length_of (drop at trace)) here.chip number offset d → RunStop number offset

  pub header_at : (at : ℕ) → Standing at → HeaderAt state memory trace at
  unfolding ran_of
  header_at at here = ap (λ (o : Ran). o.stop.number) (ran_there at here)

  from_record : (at : ℕ) (here : Standing at) (number offset : ℕ) (d : Chip) → whole (drop at trace) ≡ true → RecordStop trace at here.chip number offset d → RunStop number offset
  from_record at here number offset d w (at_header u n o) = at_its_kind (rw o (record { header = header_at at here; complete = w; unknown = u })) n
  from_record at here number offset d w (at_byte p q s) = at_its_byte at here d w p q s

  from_first : (r : Registers) → asked state memory ≡ Asked.Found r → {p : Played Chip} → First the_chip trace (chip_of r memory) p → RunStop p.number p.offset
  from_first r e (all n) = nowhere n
  from_first r e (cut_at at count c reached some cut q) =
      let here : Standing at = record { registers = r; found = e; count = count; chip = c; reached = reached } in
      rw q (where_cut (record { header = header_at at here; cut = tests_cut (drop at trace) some cut }) refl)
  from_first r e (stop_at at count c reached w number offset d stop q) =
      let here : Standing at = record { registers = r; found = e; count = count; chip = c; reached = reached } in
      rw q (from_record at here number offset d w (record_stop trace at c number offset d w stop (by_kind _ _)))

  pub run_stop : RunStop (run state memory trace).stop.number (run state memory trace).stop.offset
  unfolding ran_of
  run_stop =
      by_asking state memory _
      (λ r e. rw (run_found state memory r e trace) (from_first r e (first the_chip the_chip_sound trace (chip_of r memory))))
      (λ number e. rw (refused_run state memory trace number e) (let p = subst OneOrTwo e (asked_refusal state memory) in not_asked p.0 p.1))
