-- What a side leaves as it was: the memory's length, and its bytes past the display memory.
-- Assumes nothing.
use mathlib.Core.Path.{◌≡◌, refl, subst}
use mathlib.Core.Bool.{Bool, true, false, cond, ◌&&◌}
use mathlib.Core.List.{List, [], ◌∷◌, ◌++◌}
use Prim.Native.Nat.{ℕ, zero, suc, ◌+◌, ◌-◌, ◌≤◌, ◌<◌}
use native.Mathlib.Omega.{arith}
use borrow.Author.Tests.{lt-leb}
use lib.ListN.{length, take, drop, take-append-drop, length-drop}
use lib.Seq.{take_all, length-take-le}
use Rattle.codes.proofs.Tests.{chosen}
use Rattle.constants.specs.Sizes.{header_size, memory_size}
use Rattle.bus.specs.Bytes.{All}
use Rattle.bus.specs.Chip.{Chip}
use Rattle.trace.specs.Records.{Trace, ended, cut, ◌then◌, whole, record_at, split_from, split, length_of, payload_of}
use Rattle.trace.specs.Play.{Result, refuses, gives, on_result, play_from}
use Rattle.trace.specs.Kinds.{replay}
use Rattle.trace.specs.AnyMachine.{Gives}
use Rattle.trace.proofs.PlayedKeeps.{Carries, play_keeps, all_any}
use Rattle.trace.proofs.ChipKeeps.{Aside, replay_aside}
use Rattle.trace.proofs.WhatStands.{room}
use Rattle.widebus.specs.Events.{are_both, reads_data}
use Rattle.widebus.specs.declared.selection.Side.{Side}
use Rattle.widetrace.specs.Terminal.{WideEvent, selects, happens, wide_events_of}
use Rattle.widetrace.specs.EachChip.{hears}
use Rattle.widetrace.specs.Sides.{OneSide, one_side, side_step, the_side, up_to}

module _ (side : Side) (first : List ℕ) where
  on_replay : (x : Result Chip) (t : OneSide) → Gives (Aside first) x → Gives (λ (u : OneSide). Aside first u.chip) (on_result x refuses (λ chip. gives (one_side chip t.selection)))
  on_replay (refuses number) t g = tt
  on_replay (gives chip) t g = g

  step_aside : (e : WideEvent) (t : OneSide) → Unit {0} → Aside first t.chip → Gives (λ (u : OneSide). Aside first u.chip) (side_step side e t)
  unfolding side_step
  step_aside (selects next) t u h = h
  step_aside (happens recorded) t u h =
      chosen (Gives (λ (u : OneSide). Aside first u.chip)) (are_both t.selection && reads_data recorded) _ _ (λ e. tt)
      (λ e. chosen (Gives (λ (u : OneSide). Aside first u.chip)) (hears side t.selection) _ _ (λ a. on_replay (replay recorded t.chip) t (replay_aside first recorded t.chip tt h)) (λ a. h))

  brings_any : (kind : ℕ) (payload : List ℕ) → All (λ (b : ℕ). Unit {0}) payload → Gives (All (λ (e : WideEvent). Unit {0})) (wide_events_of kind payload)
  brings_any kind payload h = by (wide_events_of kind payload)
    where
      by : (result : Result (List WideEvent)) → Gives (All (λ (e : WideEvent). Unit {0})) result
      by (refuses number) = tt
      by (gives events) = all_any events

  carries_any : (trace : Trace) → Carries (λ (b : ℕ). Unit {0}) trace
  carries_any (ended offset) = tt
  carries_any (cut offset) = tt
  carries_any (r then rest) = (all_any r.payload, carries_any rest)

  pub left_aside : (trace : Trace) (count : ℕ) (t : OneSide) → Aside first t.chip → Aside first (play_from (the_side side) trace count t).state.chip
  left_aside trace count t h = play_keeps (the_side side) (λ (b : ℕ). Unit {0}) (λ (u : OneSide). Aside first u.chip) (λ (e : WideEvent). Unit {0}) brings_any step_aside trace count t (carries_any trace) h

-- the display memory put back, and the bytes past it as they were, are the memory
pub put_back : (first later : List ℕ) → drop memory_size later ≡ drop memory_size first → take memory_size first ++ drop memory_size later ≡ first
put_back first later h = rw h (take-append-drop memory_size first)

-- a trace lies before a limit
abbrev Within : ℕ → Trace → Type 0
Within limit (ended offset) = Unit {0}
Within limit (cut offset) = offset < limit
Within limit (r then rest) = (r.place + header_size + length r.payload ≤ limit) × Within limit rest

split_within : (passed offset : ℕ) (bytes : List ℕ) → passed ≤ length bytes → Within (offset + length bytes) (split_from passed offset bytes)
unfolding split_from
split_within passed offset [] h = tt
split_within (suc passed) offset (b ∷ bytes) h = subst (λ (n : ℕ). Within n (split_from passed (offset + 1) bytes)) (omega arith) (split_within passed (offset + 1) bytes (omega arith))
split_within zero offset (b ∷ bytes) h = by (whole (b ∷ bytes)) refl (λ passed next k. split_within passed next bytes k)
  where
    by : (w : Bool) → whole (b ∷ bytes) ≡ w → ((passed next : ℕ) → passed ≤ length bytes → Within (next + length bytes) (split_from passed next bytes))
        → Within (offset + length (b ∷ bytes)) (cond w (record_at offset (b ∷ bytes) then split_from (header_size - 1 + length_of (b ∷ bytes)) (offset + 1) bytes) (cut offset))
    by true e later =
        let fits = room (b ∷ bytes) e in
        let size : length (payload_of (b ∷ bytes)) ≡ length_of (b ∷ bytes) = length-take-le (length_of (b ∷ bytes)) (drop header_size (b ∷ bytes)) (omega (arith, length-drop header_size (b ∷ bytes), fits.1)) in
        (omega (arith, size, fits.1), subst (λ (n : ℕ). Within n (split_from (header_size - 1 + length_of (b ∷ bytes)) (offset + 1) bytes)) (omega arith) (later (header_size - 1 + length_of (b ∷ bytes)) (offset + 1) (omega (arith, fits.1))))
    by false e later = omega arith

up_to_all : (limit : ℕ) (trace : Trace) → Within limit trace → up_to limit trace ≡ trace
unfolding up_to
up_to_all limit (ended offset) w = refl
up_to_all limit (cut offset) w = rw (lt-leb limit offset w)
up_to_all limit (r then rest) w = rw (lt-leb limit r.place (omega (arith, w.0)), take_all (limit - (r.place + header_size)) r.payload (omega (arith, w.0)), up_to_all limit rest w.1)

-- up to its end a trace is itself
pub up_to_end : (trace : List ℕ) → up_to (length trace) (split trace) ≡ split trace
unfolding split
up_to_end trace = up_to_all (length trace) (split_from 0 0 trace) (subst (λ (n : ℕ). Within n (split_from 0 0 trace)) (omega arith) (split_within 0 0 trace (omega arith)))
