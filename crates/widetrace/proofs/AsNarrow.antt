-- A trace of one chip behind a record that selects it: each record plays as it does to that chip, and the other stays.
-- Assumes nothing.
use mathlib.Core.Path.{◌≡◌, refl, sym, ◌∙◌, ap}
use mathlib.Core.Logic.{◌≢◌}
use mathlib.Core.Bool.{Bool, true, false, cond}
use mathlib.Core.List.{List, map, ◌++◌}
use Prim.Native.Nat.{ℕ, ◌+◌}
use borrow.Author.Tests.{eqb-true}
use lib.Dec.{eqb}
use Rattle.constants.specs.Numbers.{taken, kind_unknown}
use Rattle.constants.specs.Sizes.{header_size}
use Rattle.bus.specs.Chip.{Chip}
use Rattle.bus.specs.CallsOnChip.{chip_in}
use Rattle.bus.specs.Image.{asked}
use Rattle.bus.specs.Stretch.{Stretched, stretched, stretch}
use Rattle.bus.proofs.Legal.{long}
use Rattle.bus.proofs.Stored.{stored_own}
use Rattle.bus.proofs.StretchLaws.{the_chip_never_zero}
use Rattle.trace.specs.Records.{Record, Trace, ended, cut, ◌then◌, split_from, split}
use Rattle.trace.specs.Play.{Result, refuses, gives, on_result, Ending, stopped, done, on_ending, Played, played, play_events, play_record, play_from, play}
use Rattle.trace.specs.Kinds.{Recorded, events_of, replay, the_chip}
use Rattle.trace.specs.RecordsAreStretches.{ending_at}
use Rattle.trace.specs.Run.{Ran, stop_of, ran_of, run_on, run}
use Rattle.trace.proofs.RecordsAreStretches.{are_stretches}
use Rattle.trace.proofs.AnyMachine.{any_machine}
use Rattle.widebus.specs.Pair.{Pair, Lent, at}
use Rattle.widebus.specs.Selection.{selection_of}
use Rattle.widebus.specs.declared.selection.Selection.{Selection}
use Rattle.widebus.specs.declared.selection.Side.{Side}
use Rattle.widetrace.specs.Terminal.{Terminal, terminal, happens, selected_by, wide_events_of, wide_step, the_terminal}
use Rattle.widetrace.specs.OneChipAlone.{alone, with_on}
use Rattle.widetrace.specs.WideRun.{WideRan, wide_ran_of, wide_run}
use Rattle.widetrace.specs.WideRunLaws.{BothAccepted, terminal_in, wide_further}
use Rattle.widetrace.specs.AsNarrow.{select_record, ran_on, AsNarrow}
use Rattle.widetrace.proofs.OneChipAlone.{one_chip_alone}
use Rattle.widetrace.proofs.TerminalStretches.{terminal_never_zero}
use Rattle.widetrace.proofs.WideRunOnLent.{run_found, accepted_on, the_chip_lem}
use Rattle.widetrace.proofs.WideRunLaws.{terminal_as_machine}

-- the terminal with one chip selected, as that chip leaves it
abbrev with : Side → Pair Chip → Chip → Terminal
with side chips c = terminal (with_on side c chips) (alone side)

-- a chip put where it is, where another was, and twice
with_on_own : (side : Side) (chips : Pair Chip) → with_on side (at side chips) chips ≡ chips
with_on_own Side.Left chips = refl
with_on_own Side.Right chips = refl

at_with_on : (side : Side) (c : Chip) (chips : Pair Chip) → at side (with_on side c chips) ≡ c
at_with_on Side.Left c chips = refl
at_with_on Side.Right c chips = refl

with_on_twice : (side : Side) (c d : Chip) (chips : Pair Chip) → with_on side c (with_on side d chips) ≡ with_on side c chips
with_on_twice Side.Left c d chips = refl
with_on_twice Side.Right c d chips = refl

-- a played trace of one chip, as the terminal's
abbrev wide : Side → Pair Chip → Played Chip → Played Terminal
wide side chips p = played p.number p.offset p.count (with side chips p.state)

abbrev wide_end : Side → Pair Chip → Ending Chip → Ending Terminal
wide_end side chips e = on_ending e (λ number offset c. stopped number offset (with side chips c)) (λ c. done (with side chips c))

-- kind 5 is unknown to one chip
kind_5 : (kind : ℕ) (payload : List ℕ) → kind ≡ 5 → events_of kind payload ≡ refuses kind_unknown
unfolding events_of
kind_5 kind payload k = rw k

-- how a play goes on behind a record, of the chip and of the terminal
abbrev later : Trace → ℕ → Ending Chip → Played Chip
later rest count e = on_ending e (λ number offset c. played number offset count c) (λ c. play_from the_chip rest (count + 1) c)

abbrev wider : Trace → ℕ → Ending Terminal → Played Terminal
wider rest count e = on_ending e (λ number offset t. played number offset count t) (λ t. play_from the_terminal rest (count + 1) t)

-- each part of a play, with that chip selected
module _ (side : Side) where
  end_of : (chips : Pair Chip) (offset : ℕ) (s : Stretched Chip) → ending_at offset (stretched (with side chips s.state) s.count s.number) ≡ wide_end side chips (ending_at offset s)
  end_of chips offset s = by (eqb s.number taken)
    where
      by : (b : Bool) → cond b (done (with side chips s.state)) (stopped s.number (offset + s.count) (with side chips s.state)) ≡ wide_end side chips (cond b (done s.state) (stopped s.number (offset + s.count) s.state))
      by true = refl
      by false = refl

  events_end : (chips : Pair Chip) (events : List Recorded) (offset : ℕ) → play_events the_terminal (map happens events) offset (terminal chips (alone side)) ≡ wide_end side chips (play_events the_chip events offset (at side chips))
  events_end chips events offset =
      are_stretches the_terminal terminal_never_zero (map happens events) offset (terminal chips (alone side))
      ∙ ap (λ (s : Stretched Terminal). ending_at offset s) (one_chip_alone.as_alone side events chips)
      ∙ end_of chips offset (stretch replay events (at side chips))
      ∙ ap (λ (e : Ending Chip). wide_end side chips e) (sym (are_stretches the_chip the_chip_never_zero events offset (at side chips)))

  abbrev On : Trace → ℕ → Type 0
  On trace count = (chips : Pair Chip) → (play_from the_chip trace count (at side chips)).number ≢ kind_unknown → play_from the_terminal trace count (terminal chips (alone side)) ≡ wide side chips (play_from the_chip trace count (at side chips))

  then_on : (rest : Trace) (count : ℕ) → On rest (count + 1) → (chips : Pair Chip) (e : Ending Chip) → (later rest count e).number ≢ kind_unknown → wider rest count (wide_end side chips e) ≡ wide side chips (later rest count e)
  then_on rest count go chips (stopped number offset c) n = refl
  then_on rest count go chips (done c) n =
      go (with_on side c chips) (λ z. n (ap (λ (d : Chip). (play_from the_chip rest (count + 1) d).number) (sym (at_with_on side c chips)) ∙ z))
      ∙ rw (at_with_on side c chips) (ap (λ (p : Pair Chip). played (play_from the_chip rest (count + 1) c).number (play_from the_chip rest (count + 1) c).offset (play_from the_chip rest (count + 1) c).count (terminal p (alone side))) (with_on_twice side (play_from the_chip rest (count + 1) c).state c chips))

  of_kind : (rest : Trace) (count place : ℕ) → On rest (count + 1) → (chips : Pair Chip) (x : Result (List Recorded))
      → (later rest count (on_result x (λ number. stopped number place (at side chips)) (λ events. play_events the_chip events (place + header_size) (at side chips)))).number ≢ kind_unknown
      → wider rest count (on_result (on_result x refuses (λ events. gives (map happens events))) (λ number. stopped number place (terminal chips (alone side))) (λ events. play_events the_terminal events (place + header_size) (terminal chips (alone side))))
      ≡ wide side chips (later rest count (on_result x (λ number. stopped number place (at side chips)) (λ events. play_events the_chip events (place + header_size) (at side chips))))
  of_kind rest count place go chips (refuses number) n = rw (with_on_own side chips)
  of_kind rest count place go chips (gives events) n = ap (λ (e : Ending Terminal). wider rest count e) (events_end chips events (place + header_size)) ∙ then_on rest count go chips (play_events the_chip events (place + header_size) (at side chips)) n

  first_on : (r : Record) (rest : Trace) (count : ℕ) → On rest (count + 1) → On (r then rest) count
  unfolding play_from play_record wide_events_of
  first_on r rest count go chips h = five (eqb r.kind 5) refl
    where
      five : (b : Bool) → eqb r.kind 5 ≡ b → play_from the_terminal (r then rest) count (terminal chips (alone side)) ≡ wide side chips (play_from the_chip (r then rest) count (at side chips))
      five true e = absurd (h (rw (kind_5 r.kind r.payload (eqb-true r.kind 5 e))))
      five false e = rw e (of_kind rest count r.place go chips (events_of r.kind r.payload) h)

  plays_on : (trace : Trace) (count : ℕ) → On trace count
  unfolding play_from
  plays_on (ended offset) count chips h = rw (with_on_own side chips)
  plays_on (cut offset) count chips h = rw (with_on_own side chips)
  plays_on (r then rest) count chips h = first_on r rest count (plays_on rest (count + 1)) chips h

-- the record that selects a side, played from both
module _ (all : Pair Lent) (ok : BothAccepted all) (side : Side) where
  abbrev start : Terminal
  start = terminal_in all Selection.Both

  selecting : play the_terminal (split (select_record side)) start ≡ played taken 5 1 (terminal start.chips (alone side))
  unfolding play_from play_record play_events split split_from wide_events_of selected_by selection_of wide_step
  selecting = by side
    where
      by : (s : Side) → play the_terminal (split (select_record s)) start ≡ played taken 5 1 (terminal start.chips (alone s))
      by Side.Left = refl
      by Side.Right = refl

  abbrev as_wide : Side → Ran → WideRan
  as_wide s narrow = wide_further (stop_of taken 5 1) (ran_on s narrow all)

  abbrev mine : Lent
  mine = at side all

  abbrev alone_played : List ℕ → Played Chip
  alone_played trace = play the_chip (split trace) (chip_in mine.state mine.memory)

  narrow_run : (trace : List ℕ) → run mine.state mine.memory trace ≡ ran_of (alone_played trace) mine.state
  unfolding run run_on asked
  narrow_run trace = let a = accepted_on all side ok in rw (a.long_enough, a.in_ranges)

  wide_run_lem : (trace : List ℕ) → (alone_played trace).number ≢ kind_unknown → wide_run all (select_record side ++ trace) ≡ wide_ran_of (played (alone_played trace).number (5 + (alone_played trace).offset) (1 + (alone_played trace).count) (with side start.chips (alone_played trace).state)) all
  wide_run_lem trace h =
      let there = (any_machine the_terminal).joined terminal_as_machine.sound (select_record side) trace start (ap (λ (p : Played Terminal). p.number) selecting) in
      let own : at side start.chips ≡ chip_in mine.state mine.memory = the_chip_lem all side in
      let on = plays_on side (split trace) 0 start.chips (rw own h) in
      run_found all ok (select_record side ++ trace) ∙ ap (λ (p : Played Terminal). wide_ran_of p all) (there ∙ rw (selecting, on, own))

  as_lent : (p : Played Chip) → wide_ran_of (played p.number (5 + p.offset) (1 + p.count) (with side start.chips p.state)) all ≡ as_wide side (ran_of p mine.state)
  unfolding wide_ran_of ran_of
  as_lent p = by side
    where
      by : (s : Side) → wide_ran_of (played p.number (5 + p.offset) (1 + p.count) (with s start.chips p.state)) all ≡ as_wide s (ran_of p (at s all).state)
      by Side.Left = rw (stored_own all.right.state (long _ _ ok.1.long_enough).0)
      by Side.Right = rw (stored_own all.left.state (long _ _ ok.0.long_enough).0)

  behind : (trace : List ℕ) → (run mine.state mine.memory trace).stop.number ≢ kind_unknown → wide_run all (select_record side ++ trace) ≡ as_wide side (run mine.state mine.memory trace)
  unfolding ran_of
  behind trace h =
      let e = narrow_run trace in
      wide_run_lem trace (λ z. h (ap (λ (o : Ran). o.stop.number) e ∙ z)) ∙ as_lent (alone_played trace) ∙ ap (λ (o : Ran). as_wide side o) (sym e)

pub as_narrow : (all : Pair Lent) → AsNarrow all
as_narrow all = record { behind = behind all }
