-- A whole trace by the two sides of the terminal.
-- Assumes nothing.
use mathlib.Core.Path.{◌≡◌, refl, sym, ◌∙◌, ap, subst}
use mathlib.Core.Logic.{◌≢◌}
use mathlib.Core.Bool.{Bool, true, false, cond}
use mathlib.Core.List.{List, [], ◌∷◌}
use Prim.Native.Nat.{ℕ, zero, suc, ◌+◌, ◌-◌, ◌≤◌}
use native.Mathlib.Omega.{arith}
use borrow.Author.Tests.{le-leb, lt-leb, eqb-true, eqb-false, eq-eqb, ne_eqb}
use lib.Dec.{eqb, leb}
use lib.ListN.{length, take, drop, length-drop}
use lib.Seq.{take_all, take-length, length-take-le}
use Rattle.constants.specs.Numbers.{taken}
use Rattle.constants.specs.Sizes.{header_size}
use Rattle.codes.proofs.Tests.{chosen}
use Rattle.bus.specs.Chip.{Chip}
use Rattle.bus.specs.Stretch.{Stretched, stretched, stretch}
use Rattle.bus.specs.StretchLaws.{NeverZero}
use Rattle.trace.specs.Records.{Record, Trace, ended, cut, ◌then◌, whole, record_at, split_from, length_of, payload_of}
use Rattle.trace.specs.Play.{Result, refuses, gives, Machine, Ending, stopped, on_ending, Played, played, play_record, play_from}
use Rattle.trace.specs.RecordsAreStretches.{ending_at}
use Rattle.trace.proofs.RecordsAreStretches.{are_stretches}
use Rattle.bus.proofs.StretchLaws.{stretches}
use Rattle.trace.proofs.WhatStands.{room}
use Rattle.widebus.specs.Pair.{◌beside◌}
use Rattle.widebus.specs.declared.selection.Selection.{Selection}
use Rattle.widebus.specs.declared.selection.Side.{Side}
use Rattle.widetrace.specs.Terminal.{Terminal, terminal, WideEvent, wide_events_of, wide_step, the_terminal}
use Rattle.widetrace.specs.Sides.{OneSide, one_side, side_step, the_side, up_to}
use Rattle.widetrace.proofs.TerminalStretches.{terminal_never_zero}
use Rattle.widetrace.proofs.SideNeverZero.{side_never_zero}
use Rattle.widetrace.proofs.SideRecords.{Made, bytewise, single, made}
use Rattle.widetrace.proofs.TwoSides.{left_of, right_of, second, both_taken, both_stopped}

-- the records of a trace follow each other from an offset on
abbrev pub WellPlaced : ℕ → Trace → Type 0
WellPlaced at (ended offset) = offset ≡ at
WellPlaced at (cut offset) = offset ≡ at
WellPlaced at (r then rest) = (r.place ≡ at) × WellPlaced (at + header_size + length r.payload) rest

pub split_placed : (passed offset : ℕ) (bytes : List ℕ) → passed ≤ length bytes → WellPlaced (offset + passed) (split_from passed offset bytes)
unfolding split_from
split_placed zero offset [] h = omega arith
split_placed (suc passed) offset [] h = absurd (omega arith)
split_placed (suc passed) offset (b ∷ bytes) h = subst (λ (n : ℕ). WellPlaced n (split_from passed (offset + 1) bytes)) (omega arith) (split_placed passed (offset + 1) bytes (omega arith))
split_placed zero offset (b ∷ bytes) h = by (whole (b ∷ bytes)) refl (λ passed next k. split_placed passed next bytes k)
  where
    by : (w : Bool) → whole (b ∷ bytes) ≡ w → ((passed next : ℕ) → passed ≤ length bytes → WellPlaced (next + passed) (split_from passed next bytes)) → WellPlaced (offset + 0) (cond w (record_at offset (b ∷ bytes) then split_from (header_size - 1 + length_of (b ∷ bytes)) (offset + 1) bytes) (cut offset))
    by true e later =
        let fits = room (b ∷ bytes) e in
        let size : length (payload_of (b ∷ bytes)) ≡ length_of (b ∷ bytes) = length-take-le (length_of (b ∷ bytes)) (drop header_size (b ∷ bytes)) (omega (arith, length-drop header_size (b ∷ bytes), fits.1)) in
        (omega arith, subst (λ (n : ℕ). WellPlaced n (split_from (header_size - 1 + length_of (b ∷ bytes)) (offset + 1) bytes)) (omega (arith, size)) (later (header_size - 1 + length_of (b ∷ bytes)) (offset + 1) (omega (arith, fits.1))))
    by false e later = omega arith

-- past the limit nothing is left
up_to_past : (limit at : ℕ) (trace : Trace) → WellPlaced at trace → limit ≤ at → up_to limit trace ≡ ended at
unfolding up_to
up_to_past limit at (ended offset) w l = ap ended w
up_to_past limit at (cut offset) w l = rw (w, le-leb limit at l)
up_to_past limit at (r then rest) w l = rw (w.0, le-leb limit at l)

-- a record whose header gives events ends as their stretch does
module _ {S : Type 0} (machine : Machine S WideEvent) (never : NeverZero machine.step) (r : Record) (events : List WideEvent) (h : machine.events r.kind r.payload ≡ gives events) (s : S) where
  record_ends : play_record machine r s ≡ ending_at (r.place + header_size) (stretch machine.step events s)
  unfolding play_record
  record_ends = rw h (are_stretches machine never events (r.place + header_size) s)

header_ends : {S : Type 0} (machine : Machine S WideEvent) (r : Record) (number : ℕ) → machine.events r.kind r.payload ≡ refuses number → (s : S) → play_record machine r s ≡ stopped number r.place s
unfolding play_record
header_ends machine r number h s = rw h

-- what follows a record's end, by its number
module _ {S : Type 0} (offset : ℕ) (x : Stretched S) (count : ℕ) (go : S → Played S) where
  abbrev on : Played S
  on = on_ending (ending_at offset x) (λ number stop t. played number stop count t) go

  goes_on_lem : x.number ≡ taken → on ≡ go x.state
  goes_on_lem e = rw (eq-eqb _ _ e)

  stops : x.number ≢ taken → on ≡ played x.number (offset + x.count) count x.state
  stops e = rw (ne_eqb _ _ e)

  ends_after : (at : ℕ) → at ≤ offset → ((t : S) → at ≤ (go t).offset) → at ≤ on.offset
  ends_after at l later = chosen (λ (e : Ending S). at ≤ (on_ending e (λ number stop t. played number stop count t) go).offset) (eqb x.number taken) _ _ (λ e. later x.state) (λ e. omega arith)

-- all of a trace lies from an offset on
abbrev From : ℕ → Trace → Type 0
From at (ended offset) = at ≤ offset
From at (cut offset) = at ≤ offset
From at (r then rest) = (at ≤ r.place) × From at rest

placed_from : (low at : ℕ) (trace : Trace) → WellPlaced at trace → low ≤ at → From low trace
placed_from low at (ended offset) w l = omega (arith, w)
placed_from low at (cut offset) w l = omega (arith, w)
placed_from low at (r then rest) w l = (omega (arith, w.0), placed_from low (at + header_size + length r.payload) rest w.1 (omega arith))

up_to_from : (limit at : ℕ) (trace : Trace) → From at trace → From at (up_to limit trace)
unfolding up_to
up_to_from limit at (ended offset) f = f
up_to_from limit at (cut offset) f = chosen (From at) (leb limit offset) _ _ (λ e. f) (λ e. f)
up_to_from limit at (r then rest) f = chosen (From at) (leb limit r.place) _ _ (λ e. f.0) (λ e. (f.0, up_to_from limit at rest f.1))

-- a trace that is played from an offset on stops there or later
offset_after : (side : Side) (at : ℕ) (trace : Trace) → From at trace → (count : ℕ) (s : OneSide) → at ≤ (play_from (the_side side) trace count s).offset
unfolding play_from
offset_after side at (ended offset) w count s = w
offset_after side at (cut offset) w count s = w
offset_after side at (r then rest) w count s = by (wide_events_of r.kind r.payload) refl (λ t. offset_after side at rest w.1 (count + 1) t)
  where
    by : (header : Result (List WideEvent)) → wide_events_of r.kind r.payload ≡ header → ((t : OneSide) → at ≤ (play_from (the_side side) rest (count + 1) t).offset) → at ≤ (play_from (the_side side) (r then rest) count s).offset
    by (refuses n) h later = rw (header_ends (the_side side) r n h s) w.0
    by (gives events) h later =
        rw (record_ends (the_side side) (side_never_zero side) r events h s)
        (ends_after (r.place + header_size) (stretch (side_step side) events s) count (λ t. play_from (the_side side) rest (count + 1) t) at (omega (arith, w.0)) later)

-- the left side, the right side as far as that, and the terminal
abbrev pub left_play : Trace → ℕ → Chip → Selection → Played OneSide
left_play trace count l selection = play_from (the_side Side.Left) trace count (one_side l selection)

abbrev pub right_play : Trace → ℕ → Chip → Chip → Selection → Played OneSide
right_play trace count l r selection = play_from (the_side Side.Right) (up_to (left_play trace count l selection).offset trace) count (one_side r selection)

abbrev pub both_play : Trace → ℕ → Chip → Chip → Selection → Played Terminal
both_play trace count l r selection = play_from the_terminal trace count (terminal (l beside r) selection)

abbrev pub TakenSo : Trace → ℕ → Chip → Chip → Selection → Type 0
TakenSo trace count l r selection =
    let p = left_play trace count l selection in
    let q = right_play trace count l r selection in
    q.number ≡ taken → both_play trace count l r selection ≡ played p.number p.offset p.count (terminal (p.state.chip beside q.state.chip) p.state.selection)

abbrev pub StoppedSo : Trace → ℕ → Chip → Chip → Selection → Type 0
StoppedSo trace count l r selection =
    let q = right_play trace count l r selection in
    let z = play_from (the_side Side.Left) (up_to q.offset trace) count (one_side l selection) in
    q.number ≢ taken → both_play trace count l r selection ≡ played q.number q.offset q.count (terminal (z.state.chip beside q.state.chip) q.state.selection)

-- a record as far as an offset past its header
module _ (r : Record) (rest : Trace) (at : ℕ) (placed : r.place ≡ at) (w : WellPlaced (at + header_size + length r.payload) rest) {S : Type 0} (machine : Machine S WideEvent) (never : NeverZero machine.step) (count : ℕ) (s : S) where
  -- all of it, and more
  whole_record : (limit : ℕ) → at + header_size + length r.payload ≤ limit → play_from machine (up_to limit (r then rest)) count s ≡ on_ending (play_record machine r s) (λ number offset t. played number offset count t) (λ t. play_from machine (up_to limit rest) (count + 1) t)
  unfolding up_to play_from
  whole_record limit l = rw (lt-leb limit r.place (omega (arith, placed)), take_all (limit - (r.place + header_size)) r.payload (omega (arith, placed)))

  -- so many bytes of it
  part_record : (j : ℕ) (events : List WideEvent) → machine.events r.kind (take j r.payload) ≡ gives events → j ≤ length r.payload
      → play_from machine (up_to (at + header_size + j) (r then rest)) count s ≡ on_ending (ending_at (at + header_size) (stretch machine.step events s)) (λ number offset t. played number offset count t) (λ t. played taken (at + header_size + length r.payload) (count + 1) t)
  unfolding up_to play_from
  part_record j events h l =
      let size : at + header_size + j - (r.place + header_size) ≡ j = omega (arith, placed) in
      rw (lt-leb (at + header_size + j) r.place (omega (arith, placed)), size, up_to_past (at + header_size + j) (at + header_size + length r.payload) rest w (omega arith), record_ends machine never (record { kind = r.kind; payload = take j r.payload; place = r.place }) events h s, placed)

-- what is left of a part, whether it was done or not
left_of_part : {S : Type 0} (offset next count : ℕ) (x : Stretched S) → (on_ending (ending_at offset x) (λ number stop t. played number stop count t) (λ t. played taken next (count + 1) t)).state ≡ x.state
left_of_part {S} offset next count x = chosen (λ (e : Ending S). (on_ending e (λ number stop t. played number stop count t) (λ t. played taken next (count + 1) t)).state ≡ x.state) (eqb x.number taken) _ _ (λ e. refl) (λ e. refl)

module _ (r : Record) (rest : Trace) (at : ℕ) (placed : r.place ≡ at) (w : WellPlaced (at + header_size + length r.payload) rest) (count : ℕ) (l right : Chip) (selection : Selection)
    (events : List WideEvent) (h : wide_events_of r.kind r.payload ≡ gives events) where
  abbrev next : ℕ
  next = at + header_size + length r.payload

  abbrev s : Stretched OneSide
  s = left_of events l selection

  abbrev z : Stretched Terminal
  z = stretch wide_step events (terminal (l beside right) selection)

  left_ends : left_play (r then rest) count l selection ≡ on_ending (ending_at (at + header_size) s) (λ number stop t. played number stop count t) (λ t. play_from (the_side Side.Left) rest (count + 1) t)
  unfolding play_from
  left_ends = rw (record_ends (the_side Side.Left) (side_never_zero Side.Left) r events h (one_side l selection), placed)

  both_ends : both_play (r then rest) count l right selection ≡ on_ending (ending_at (at + header_size) z) (λ number stop t. played number stop count t) (λ t. play_from the_terminal rest (count + 1) t)
  unfolding play_from
  both_ends = rw (record_ends the_terminal terminal_never_zero r events h (terminal (l beside right) selection), placed)

  -- the right side on all of the record
  right_ends : (limit : ℕ) → next ≤ limit → play_from (the_side Side.Right) (up_to limit (r then rest)) count (one_side right selection) ≡ on_ending (ending_at (at + header_size) (right_of events right selection)) (λ number stop t. played number stop count t) (λ t. play_from (the_side Side.Right) (up_to limit rest) (count + 1) t)
  right_ends limit m = whole_record r rest at placed w (the_side Side.Right) (side_never_zero Side.Right) count (one_side right selection) limit m ∙ rw (record_ends (the_side Side.Right) (side_never_zero Side.Right) r events h (one_side right selection), placed)

  left_again : (limit : ℕ) → next ≤ limit → play_from (the_side Side.Left) (up_to limit (r then rest)) count (one_side l selection) ≡ on_ending (ending_at (at + header_size) s) (λ number stop t. played number stop count t) (λ t. play_from (the_side Side.Left) (up_to limit rest) (count + 1) t)
  left_again limit m = whole_record r rest at placed w (the_side Side.Left) (side_never_zero Side.Left) count (one_side l selection) limit m ∙ rw (record_ends (the_side Side.Left) (side_never_zero Side.Left) r events h (one_side l selection), placed)

  -- the left side took the record
  module _ (e : s.number ≡ taken) where
    all_events : take s.count events ≡ events
    all_events = rw (((stretches (side_step Side.Left)).all_taken (side_never_zero Side.Left) events (one_side l selection)).0 e) (take-length events)

    p_is : left_play (r then rest) count l selection ≡ left_play rest (count + 1) s.state.chip s.state.selection
    p_is = left_ends ∙ goes_on_lem (at + header_size) s count (λ t. play_from (the_side Side.Left) rest (count + 1) t) e

    far : next ≤ (left_play (r then rest) count l selection).offset
    far = rw p_is (offset_after Side.Left next rest (placed_from next next rest w (omega arith)) (count + 1) s.state)

    abbrev t : Stretched OneSide
    t = right_of events right selection

    q_ends : right_play (r then rest) count l right selection ≡ on_ending (ending_at (at + header_size) t) (λ number stop x. played number stop count x) (λ x. play_from (the_side Side.Right) (up_to (left_play (r then rest) count l selection).offset rest) (count + 1) x)
    q_ends = right_ends (left_play (r then rest) count l selection).offset far

    same_second : second events l right selection ≡ t
    same_second = rw all_events

    -- the right side took it too: the rest decides
    module _ (f : t.number ≡ taken) where
      taken_both : (z ≡ stretched (terminal (s.state.chip beside t.state.chip) s.state.selection) s.count s.number) × (t.state.selection ≡ s.state.selection)
      taken_both =
          let both = both_taken events l right selection (ap (λ (x : Stretched OneSide). x.number) same_second ∙ f) in
          (both.0 ∙ rw same_second, sym (ap (λ (x : Stretched OneSide). x.state.selection) same_second) ∙ both.1)

      w_is : both_play (r then rest) count l right selection ≡ both_play rest (count + 1) s.state.chip t.state.chip s.state.selection
      w_is = both_ends ∙ goes_on_lem (at + header_size) z count (λ x. play_from the_terminal rest (count + 1) x) (ap (λ (x : Stretched Terminal). x.number) taken_both.0 ∙ e) ∙ ap (λ (x : Stretched Terminal). play_from the_terminal rest (count + 1) x.state) taken_both.0

      q_is : right_play (r then rest) count l right selection ≡ right_play rest (count + 1) s.state.chip t.state.chip s.state.selection
      q_is =
          q_ends ∙ goes_on_lem (at + header_size) t count (λ x. play_from (the_side Side.Right) (up_to (left_play (r then rest) count l selection).offset rest) (count + 1) x) f
          ∙ ap (λ (chosen : Selection). play_from (the_side Side.Right) (up_to (left_play (r then rest) count l selection).offset rest) (count + 1) (one_side t.state.chip chosen)) taken_both.1
          ∙ ap (λ (p : Played OneSide). play_from (the_side Side.Right) (up_to p.offset rest) (count + 1) (one_side t.state.chip s.state.selection)) p_is

      on_taken : TakenSo rest (count + 1) s.state.chip t.state.chip s.state.selection → TakenSo (r then rest) count l right selection
      on_taken later number =
          w_is ∙ later (ap (λ (p : Played OneSide). p.number) (sym q_is) ∙ number)
          ∙ ap (λ (p : Played OneSide). played p.number p.offset p.count (terminal (p.state.chip beside (right_play rest (count + 1) s.state.chip t.state.chip s.state.selection).state.chip) p.state.selection)) (sym p_is)
          ∙ ap (λ (q : Played OneSide). let p = left_play (r then rest) count l selection in played p.number p.offset p.count (terminal (p.state.chip beside q.state.chip) p.state.selection)) (sym q_is)

      q_far : next ≤ (right_play (r then rest) count l right selection).offset
      q_far = rw q_is (offset_after Side.Right next (up_to (left_play rest (count + 1) s.state.chip s.state.selection).offset rest) (up_to_from (left_play rest (count + 1) s.state.chip s.state.selection).offset next rest (placed_from next next rest w (omega arith))) (count + 1) (one_side t.state.chip s.state.selection))

      z_is : play_from (the_side Side.Left) (up_to (right_play (r then rest) count l right selection).offset (r then rest)) count (one_side l selection)
          ≡ play_from (the_side Side.Left) (up_to (right_play rest (count + 1) s.state.chip t.state.chip s.state.selection).offset rest) (count + 1) (one_side s.state.chip s.state.selection)
      z_is =
          left_again (right_play (r then rest) count l right selection).offset q_far
          ∙ goes_on_lem (at + header_size) s count (λ x. play_from (the_side Side.Left) (up_to (right_play (r then rest) count l right selection).offset rest) (count + 1) x) e
          ∙ ap (λ (q : Played OneSide). play_from (the_side Side.Left) (up_to q.offset rest) (count + 1) s.state) q_is

      on_stopped : StoppedSo rest (count + 1) s.state.chip t.state.chip s.state.selection → StoppedSo (r then rest) count l right selection
      on_stopped later number =
          w_is ∙ later (λ zero. number (ap (λ (p : Played OneSide). p.number) q_is ∙ zero))
          ∙ ap (λ (y : Played OneSide). let q = right_play rest (count + 1) s.state.chip t.state.chip s.state.selection in played q.number q.offset q.count (terminal (y.state.chip beside q.state.chip) q.state.selection)) (sym z_is)
          ∙ ap (λ (q : Played OneSide). played q.number q.offset q.count (terminal ((play_from (the_side Side.Left) (up_to (right_play (r then rest) count l right selection).offset (r then rest)) count (one_side l selection)).state.chip beside q.state.chip) q.state.selection)) (sym q_is)

  -- the right side stops within the record
  module _ (size : length events ≡ length r.payload) (fewer : (j : ℕ) → wide_events_of r.kind (take j r.payload) ≡ gives (take j events)) where
    abbrev u : Stretched OneSide
    u = second events l right selection

    within : (side : Side) (x : OneSide) (list : List WideEvent) → (stretch (side_step side) list x).count ≤ length list
    within side x list = (stretches (side_step side)).within list x

    left_within : s.count ≤ length r.payload
    left_within = omega (arith, size, within Side.Left (one_side l selection) events)

    right_within : u.count ≤ length r.payload
    right_within = omega (arith, size, within Side.Right (one_side right selection) (take s.count events), length-take-le s.count events (within Side.Left (one_side l selection) events), left_within)

    stops_so : u.number ≢ taken → right_play (r then rest) count l right selection ≡ played u.number (at + header_size + u.count) count u.state → StoppedSo (r then rest) count l right selection
    stops_so g q number =
        let stopped-both = both_stopped events l right selection g in
        let left-part = left_of (take u.count events) l selection in
        let z-state : (play_from (the_side Side.Left) (up_to (at + header_size + u.count) (r then rest)) count (one_side l selection)).state ≡ left-part.state =
        ap (λ (p : Played OneSide). p.state) (part_record r rest at placed w (the_side Side.Left) (side_never_zero Side.Left) count (one_side l selection) u.count (take u.count events) (fewer u.count) right_within)
        ∙ left_of_part (at + header_size) next count left-part in
        both_ends ∙ stops (at + header_size) z count (λ x. play_from the_terminal rest (count + 1) x) (λ zero. g (sym (ap (λ (x : Stretched Terminal). x.number) stopped-both) ∙ zero))
        ∙ ap (λ (x : Stretched Terminal). played x.number (at + header_size + x.count) count x.state) stopped-both
        ∙ ap (λ (x : OneSide). played u.number (at + header_size + u.count) count (terminal (x.chip beside u.state.chip) u.state.selection)) (sym z-state)
        ∙ ap (λ (y : Played OneSide). played y.number y.offset y.count (terminal ((play_from (the_side Side.Left) (up_to y.offset (r then rest)) count (one_side l selection)).state.chip beside y.state.chip) y.state.selection)) (sym q)

    -- the left side stops within the record
    module _ (e : s.number ≢ taken) where
      p_stops : left_play (r then rest) count l selection ≡ played s.number (at + header_size + s.count) count s.state
      p_stops = left_ends ∙ stops (at + header_size) s count (λ x. play_from (the_side Side.Left) rest (count + 1) x) e

      q_part : right_play (r then rest) count l right selection ≡ on_ending (ending_at (at + header_size) u) (λ number stop x. played number stop count x) (λ x. played taken next (count + 1) x)
      q_part =
          ap (λ (p : Played OneSide). play_from (the_side Side.Right) (up_to p.offset (r then rest)) count (one_side right selection)) p_stops
          ∙ part_record r rest at placed w (the_side Side.Right) (side_never_zero Side.Right) count (one_side right selection) s.count (take s.count events) (fewer s.count) left_within

      earlier_taken : u.number ≡ taken → TakenSo (r then rest) count l right selection
      earlier_taken g number =
          let both = both_taken events l right selection g in
          both_ends ∙ stops (at + header_size) z count (λ x. play_from the_terminal rest (count + 1) x) (λ zero. e (sym (ap (λ (x : Stretched Terminal). x.number) both.0) ∙ zero))
          ∙ ap (λ (x : Stretched Terminal). played x.number (at + header_size + x.count) count x.state) both.0
          ∙ ap (λ (x : OneSide). played s.number (at + header_size + s.count) count (terminal (s.state.chip beside x.chip) s.state.selection)) (sym (ap (λ (p : Played OneSide). p.state) q_part ∙ left_of_part (at + header_size) next count u))
          ∙ ap (λ (p : Played OneSide). played p.number p.offset p.count (terminal (p.state.chip beside (right_play (r then rest) count l right selection).state.chip) p.state.selection)) (sym p_stops)

      q_taken : u.number ≡ taken → (right_play (r then rest) count l right selection).number ≡ taken
      q_taken g = ap (λ (p : Played OneSide). p.number) (q_part ∙ goes_on_lem (at + header_size) u count (λ x. played taken next (count + 1) x) g)

      q_stops : u.number ≢ taken → right_play (r then rest) count l right selection ≡ played u.number (at + header_size + u.count) count u.state
      q_stops g = q_part ∙ stops (at + header_size) u count (λ x. played taken next (count + 1) x) g

  abbrev Both : Type 0
  Both = TakenSo (r then rest) count l right selection × StoppedSo (r then rest) count l right selection

  -- by what each side makes of the record
  of_record : Made r.kind r.payload events → ((l right : Chip) (selection : Selection) → TakenSo rest (count + 1) l right selection × StoppedSo rest (count + 1) l right selection) → Both
  of_record how later = chosen_so (eqb s.number taken) refl (eqb (right_of events right selection).number taken) refl how
    where
      right_stopped : (e : s.number ≡ taken) → ((right_of events right selection).number ≢ taken) → Made r.kind r.payload events → Both
      right_stopped e f (single g) = absurd (f (g Side.Right (one_side right selection)))
      right_stopped e f (bytewise size fewer) =
          let q = q_ends e ∙ stops (at + header_size) (right_of events right selection) count (λ x. play_from (the_side Side.Right) (up_to (left_play (r then rest) count l selection).offset rest) (count + 1) x) f in (
            (λ number. absurd (f (ap (λ (p : Played OneSide). p.number) (sym q) ∙ number))),
            stops_so size fewer (λ zero. f (sym (ap (λ (x : Stretched OneSide). x.number) (same_second e)) ∙ zero)) (q ∙ ap (λ (x : Stretched OneSide). played x.number (at + header_size + x.count) count x.state) (sym (same_second e))),
          )

      left_stopped : s.number ≢ taken → (size : length events ≡ length r.payload) (fewer : (j : ℕ) → wide_events_of r.kind (take j r.payload) ≡ gives (take j events)) (g : Bool) → eqb (second events l right selection).number taken ≡ g → Both
      left_stopped e size fewer true g = (earlier_taken size fewer e (eqb-true _ _ g), λ number. absurd (number (q_taken size fewer e (eqb-true _ _ g))))
      left_stopped e size fewer false g =
          let q = q_stops size fewer e (eqb-false _ _ g) in
          ((λ number. absurd (eqb-false _ _ g (ap (λ (p : Played OneSide). p.number) (sym q) ∙ number))), stops_so size fewer (eqb-false _ _ g) q)

      chosen_so : (a : Bool) → eqb s.number taken ≡ a → (b : Bool) → eqb (right_of events right selection).number taken ≡ b → Made r.kind r.payload events → Both
      chosen_so true a true b Made-so =
          let e = eqb-true _ _ a in
          let f = eqb-true _ _ b in
          let on = later s.state.chip (right_of events right selection).state.chip s.state.selection in
          (on_taken e f on.0, on_stopped e f on.1)
      chosen_so true a false b Made-so = right_stopped (eqb-true _ _ a) (eqb-false _ _ b) Made-so
      chosen_so false a b c (single g) = absurd (eqb-false _ _ a (g Side.Left (one_side l selection)))
      chosen_so false a b c (bytewise size fewer) = left_stopped (eqb-false _ _ a) size fewer (eqb (second events l right selection).number taken) refl

pub sides : (trace : Trace) (at : ℕ) → WellPlaced at trace → (count : ℕ) (l right : Chip) (selection : Selection) → TakenSo trace count l right selection × StoppedSo trace count l right selection
unfolding play_from up_to
sides (ended offset) at w count l right selection = ((λ number. refl), (λ number. absurd (number refl)))
sides (cut offset) at w count l right selection = rw (le-leb offset offset (omega arith)) ((λ number. refl), (λ number. absurd (number refl)))
sides (r then rest) at w count l right selection = by (wide_events_of r.kind r.payload) refl (λ l right selection. sides rest (at + header_size + length r.payload) w.1 (count + 1) l right selection)
  where
    by : (header : Result (List WideEvent)) → wide_events_of r.kind r.payload ≡ header → ((l right : Chip) (selection : Selection) → TakenSo rest (count + 1) l right selection × StoppedSo rest (count + 1) l right selection) → TakenSo (r then rest) count l right selection × StoppedSo (r then rest) count l right selection
    by (refuses n) h later = rw (header_ends (the_side Side.Left) r n h (one_side l selection), header_ends the_terminal r n h (terminal (l beside right) selection), le-leb r.place r.place (omega arith)) ((λ number. refl), (λ number. absurd (number refl)))
    by (gives events) h later = of_record r rest at w.0 w.1 count l right selection events h (made r.kind r.payload events h) later
