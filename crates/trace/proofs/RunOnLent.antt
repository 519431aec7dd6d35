-- A run on a lent state and memory: refused first, or played from the image's registers; an empty trace, `a ++ b`, what stays legal, and what is left as it was.
-- Assumes nothing.
use mathlib.Core.Path.{◌≡◌, refl, sym, ◌∙◌, ap, subst}
use mathlib.Core.List.{List, [], ◌++◌}
use Prim.Native.Nat.{ℕ}
use native.Mathlib.Omega.{arith}
use lib.ListN.{length, drop, length-drop}
use Rattle.constants.specs.Sizes.{image_size, memory_size}
use Rattle.constants.specs.Numbers.{taken}
use Rattle.bus.specs.Image.{asked, stored}
use Rattle.bus.specs.declared.registers.Registers.{Registers}
use Rattle.bus.specs.Answer.{Asked}
use Rattle.bus.specs.Bytes.{Bytes}
use Rattle.bus.proofs.Asking.{OneOrTwo, asked_refusal}
use Rattle.bus.proofs.Kept.{asked_legal}
use Rattle.bus.proofs.Stored.{Sized, sized, stored_long, stored_own, stored_again, stored_past, asked_stored}
use Rattle.trace.specs.Records.{split_from, split, records_in}
use Rattle.trace.specs.Play.{play_from, play}
use Rattle.trace.specs.Kinds.{chip_of, the_chip}
use Rattle.trace.specs.Run.{ran, stop_of, ran_of, run_on, run}
use Rattle.trace.specs.RunLaws.{run_further}
use Rattle.trace.proofs.PlayedJoined.{taken_offset, taken_count, joined}
use Rattle.trace.proofs.PlayedKeeps.{split_carries, play_keeps, all_any}
use Rattle.trace.proofs.ChipKeeps.{Held, Aside, Brings, Anything, brings, brings_any, replay_held, replay_aside}
use Rattle.trace.proofs.ChipRefusals.{the_chip_sound}

-- the run of a trace on a legal state and memory, which hold registers r
module _ (state memory : List ℕ) (r : Registers) (found : asked state memory ≡ Asked.Found r) where
  pub fits : Sized state memory r
  fits = sized state memory r found

  pub run_found : (trace : List ℕ) → run state memory trace ≡ ran_of (play the_chip (split trace) (chip_of r memory)) state
  unfolding run run_on
  run_found trace = rw found

  -- an empty trace is taken with offset 0, count 0 and nothing changed
  pub run_empty : run state memory [] ≡ ran (stop_of taken 0 0) state memory
  unfolding split split_from play_from ran_of
  run_empty = run_found [] ∙ rw (← fits.registers, stored_own state fits.image)

  pub left_held : (trace : List ℕ) → Bytes trace → Held memory (play the_chip (split trace) (chip_of r memory)).state
  unfolding split
  left_held trace b = play_keeps the_chip _ (Held memory) Brings brings (replay_held memory) (split trace) 0 (chip_of r memory) (split_carries _ 0 0 trace b) (record { registers = asked_legal state memory r found; size = refl; past = refl })

  -- a run from a legal image leaves a legal image
  pub run_legal : (trace : List ℕ) → Bytes trace → asked (run state memory trace).state (run state memory trace).memory ≡ Asked.Found (play the_chip (split trace) (chip_of r memory)).state.registers
  unfolding ran_of
  run_legal trace b =
      let h = left_held trace b in
      rw (run_found trace) (asked_stored state fits.image _ _ (omega (arith, h.size, fits.display)) h.registers)

  left_aside : (trace : List ℕ) → Aside memory (play the_chip (split trace) (chip_of r memory)).state
  unfolding split
  left_aside trace = play_keeps the_chip _ (Aside memory) Anything brings_any (replay_aside memory) (split trace) 0 (chip_of r memory) (split_carries _ 0 0 trace (all_any trace)) (record { size = refl; past = refl })

  past_found : (trace : List ℕ) → (drop image_size (run state memory trace).state ≡ drop image_size state) × (drop memory_size (run state memory trace).memory ≡ drop memory_size memory)
  unfolding ran_of
  past_found trace = rw (run_found trace) (stored_past state fits.image _, (left_aside trace).past)

  lengths_found : (trace : List ℕ) → (length (run state memory trace).state ≡ length state) × (length (run state memory trace).memory ≡ length memory)
  unfolding ran_of
  lengths_found trace =
      let h = fits.image in
      rw (run_found trace, stored_long state h (play the_chip (split trace) (chip_of r memory)).state.registers) (rw (length-drop image_size state) (omega arith), (left_aside trace).size)

  whole_found : (trace : List ℕ) → (run state memory trace).stop.number ≡ taken → ((run state memory trace).stop.offset ≡ length trace) × ((run state memory trace).stop.count ≡ records_in (split trace))
  unfolding ran_of
  whole_found trace h =
      let e = run_found trace in
      let n = ap (λ outcome. outcome.stop.number) (sym e) ∙ h in
      (ap (λ outcome. outcome.stop.offset) e ∙ taken_offset the_chip the_chip_sound trace [] (chip_of r memory) n, ap (λ outcome. outcome.stop.count) e ∙ taken_count the_chip the_chip_sound trace [] (chip_of r memory) n)

  joined_found : (a b : List ℕ) → Bytes a → (run state memory a).stop.number ≡ taken → run state memory (a ++ b) ≡ run_further (run state memory a).stop (run (run state memory a).state (run state memory a).memory b)
  unfolding ran_of run_on run
  joined_found a b bytes h =
      let e = run_found a in
      let first = play the_chip (split a) (chip_of r memory) in
      let later = stored first.state.registers state in
      let again : asked later first.state.memory ≡ Asked.Found first.state.registers = rw e at (run_legal a bytes) in
      let second : run_on (asked later first.state.memory) later first.state.memory b ≡ ran_of (play the_chip (split b) first.state) state =
      rw (again, stored_again state fits.image first.state.registers (play the_chip (split b) first.state).state.registers) in
      run_found (a ++ b) ∙ ap (λ p. ran_of p state) (joined the_chip the_chip_sound a b (chip_of r memory) (ap (λ outcome. outcome.stop.number) (sym e) ∙ h)) ∙ rw (e, second)

-- on any state and memory
module _ (state memory : List ℕ) where
  pub refused_run : (trace : List ℕ) (number : ℕ) → asked state memory ≡ Asked.Refused number → run state memory trace ≡ ran (stop_of number 0 0) state memory
  unfolding run run_on
  refused_run trace number e = rw e

  pub refused_taken : (trace : List ℕ) (number : ℕ) → asked state memory ≡ Asked.Refused number → (run state memory trace).stop.number ≡ taken → ⊥
  refused_taken trace number e h = omega (arith, (subst OneOrTwo e (asked_refusal state memory)).0, ap (λ outcome. outcome.stop.number) (sym (refused_run trace number e)) ∙ h)

  pub by_asking : (P : Type 0) → ((r : Registers) → asked state memory ≡ Asked.Found r → P) → ((number : ℕ) → asked state memory ≡ Asked.Refused number → P) → P
  by_asking P found refused = by (asked state memory) refl
    where
      by : (asking : Asked) → asked state memory ≡ asking → P
      by (Asked.Found r) e = found r e
      by (Asked.Refused number) e = refused number e

  -- no byte past the needed lengths changes
  pub run_past : (trace : List ℕ) → (drop image_size (run state memory trace).state ≡ drop image_size state) × (drop memory_size (run state memory trace).memory ≡ drop memory_size memory)
  run_past trace = by_asking _ (λ r e. past_found state memory r e trace) (λ number e. rw (refused_run trace number e) (refl, refl))

  pub run_lengths : (trace : List ℕ) → (length (run state memory trace).state ≡ length state) × (length (run state memory trace).memory ≡ length memory)
  run_lengths trace = by_asking _ (λ r e. lengths_found state memory r e trace) (λ number e. rw (refused_run trace number e) (refl, refl))

  -- where all is taken the offset is the trace's length, and the count is of all its records
  pub run_whole : (trace : List ℕ) → (run state memory trace).stop.number ≡ taken → ((run state memory trace).stop.offset ≡ length trace) × ((run state memory trace).stop.count ≡ records_in (split trace))
  run_whole trace h = by_asking _ (λ r e. whole_found state memory r e trace h) (λ number e. absurd (refused_taken trace number e h))

  -- running `a ++ b` is running `a`, then `b` from what it left, with offset and count added, whenever `a` is taken whole
  pub run_joined : (a b : List ℕ) → Bytes a → (run state memory a).stop.number ≡ taken → run state memory (a ++ b) ≡ run_further (run state memory a).stop (run (run state memory a).state (run state memory a).memory b)
  run_joined a b bytes h = by_asking _ (λ r e. joined_found state memory r e a b bytes h) (λ number e. absurd (refused_taken a number e h))
