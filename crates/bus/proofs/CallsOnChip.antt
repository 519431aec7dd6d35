-- A call on a lent state and memory is its event on the chip that they hold.
-- Assumes nothing.
use mathlib.Core.Path.{◌≡◌, refl, sym, ◌∙◌, ap}
use mathlib.Core.Bool.{false}
use mathlib.Core.List.{List, [], ◌∷◌, ◌++◌}
use Prim.Native.Nat.{ℕ, ◌≤◌}
use native.Mathlib.Omega.{arith}
use lib.ListN.{length, drop, length-append, length-replicate}
use Rattle.constants.specs.Sizes.{image_size, memory_size}
use Rattle.bus.specs.Registers.{registers_of, power_on}
use Rattle.bus.specs.Events.{number_of, byte_of, dummy_of, reset_pin}
use Rattle.bus.specs.Chip.{Event, reset_pulse, step, registers_after, chip_after, after_events}
use Rattle.bus.specs.Recorded.{chip_of}
use Rattle.bus.specs.Image.{short, stored, Accepted}
use Rattle.bus.specs.Start.{registers_at_start, memory_at_start, start_of}
use Rattle.bus.specs.Calls.{called, reply_of, state_after, concluded, asked_before, call_on, call}
use Rattle.bus.specs.Bytes.{All, IsByte}
use Rattle.bus.specs.StaysLegal.{LegalRegisters, Keeps}
use Rattle.bus.specs.CallsOnChip.{chip_in, imaged_in, lent, after_calls, CallsOnChip}
use Rattle.bus.specs.declared.registers.Registers.{Registers}
use Rattle.bus.specs.Answer.{Answer}
use Rattle.bus.specs.declared.start.Hung.{Hung}
use Rattle.bus.proofs.Legal.{long}
use Rattle.bus.proofs.Kept.{state_facts, step_keeps, start_legal}
use Rattle.bus.proofs.Untouched.{step_length}
use Rattle.bus.proofs.Stored.{stored_long, stored_own, stored_again, call_stored}

-- the registers after an answer are legal
after_legal : (answer : Answer) (r : Registers) → Keeps answer → LegalRegisters r → LegalRegisters (registers_after answer r)
unfolding registers_after
after_legal (Answer.Taken after) r k l = k
after_legal (Answer.Refused number) r k l = l

module _ (state : List ℕ) (h : image_size ≤ length state) where
  -- what is stored after an answer is the image of the registers after it
  state_after_lem : (answer : Answer) (r : Registers) → state_after answer (stored r state) ≡ stored (registers_after answer r) state
  unfolding state_after registers_after
  state_after_lem (Answer.Taken after) r = stored_again state h r after.registers
  state_after_lem (Answer.Refused number) r = refl

  call_on_chip : (event : Event) (r : Registers) (memory : List ℕ) → LegalRegisters r → memory_size ≤ length memory → call event (stored r state) memory ≡ called (reply_of (step event r memory).answer) (stored (chip_after event (chip_of r memory)).registers state) (chip_after event (chip_of r memory)).memory
  unfolding concluded chip_after
  call_on_chip event r memory l m =
      call_stored state h event r memory l m ∙ ap (λ later. called (reply_of (step event r memory).answer) later (step event r memory).memory) (state_after_lem (step event r memory).answer r)

  calls_on_chip_lem : (events : List Event) (r : Registers) (memory : List ℕ) → All IsByte events → LegalRegisters r → memory_size ≤ length memory → after_calls events (stored r state) memory ≡ lent (stored (after_events events (chip_of r memory)).registers state) (after_events events (chip_of r memory)).memory
  unfolding after_calls after_events chip_after
  calls_on_chip_lem [] r memory b l m = refl
  calls_on_chip_lem (event ∷ events) r memory b l m =
      rw (call_on_chip event r memory l m)
      (calls_on_chip_lem events (registers_after (step event r memory).answer r) (step event r memory).memory b.1 (after_legal (step event r memory).answer r (step_keeps event r memory b.0 l) l) (omega (arith, step_length event r memory)))

  -- the chip after events keeps legal registers and the memory's length
  after_kept : (events : List Event) (r : Registers) (memory : List ℕ) → All IsByte events → LegalRegisters r → LegalRegisters (after_events events (chip_of r memory)).registers × (length (after_events events (chip_of r memory)).memory ≡ length memory)
  unfolding after_events chip_after
  after_kept [] r memory b l = (l, refl)
  after_kept (event ∷ events) r memory b l =
      let later = after_kept events (registers_after (step event r memory).answer r) (step event r memory).memory b.1 (after_legal (step event r memory).answer r (step_keeps event r memory b.0 l) l) in
      (later.0, later.1 ∙ step_length event r memory)

module _ (state memory : List ℕ) (a : Accepted state memory) where
  h : image_size ≤ length state
  h = (long state memory a.long_enough).0

  m : memory_size ≤ length memory
  m = (long state memory a.long_enough).1

  own : stored (registers_of state) state ≡ state
  own = stored_own state h

  l : LegalRegisters (registers_of state)
  l = state_facts state h a.in_ranges

  one_call : (event : Event) → call event state memory ≡ called (reply_of (step event (registers_of state) memory).answer) (imaged_in state (chip_after event (chip_in state memory)).registers) (chip_after event (chip_in state memory)).memory
  one_call event =
      ap (λ image. call event image memory) (sym own) ∙
      call_on_chip state h event (registers_of state) memory l m ∙
      ap (λ later. called (reply_of (step event (registers_of state) memory).answer) later (chip_after event (chip_in state memory)).memory) (stored_long state h (chip_after event (chip_in state memory)).registers)

  call_by_call : (events : List Event) → All IsByte events → after_calls events state memory ≡ lent (stored (after_events events (chip_in state memory)).registers state) (after_events events (chip_in state memory)).memory
  call_by_call events b = ap (λ image. after_calls events image memory) (sym own) ∙ calls_on_chip_lem state h events (registers_of state) memory b l m

  the_next : (events : List Event) (event : Event) → All IsByte events → (call event (after_calls events state memory).state (after_calls events state memory).memory).reply ≡ reply_of (step event (after_events events (chip_in state memory)).registers (after_events events (chip_in state memory)).memory).answer
  the_next events event b =
      let kept = after_kept state h events (registers_of state) memory b l in
      rw (call_by_call events b, call_on_chip state h event (after_events events (chip_in state memory)).registers (after_events events (chip_in state memory)).memory kept.0 (omega (arith, kept.1, m)))

the_reset_pin : (state memory : List ℕ) → short state memory ≡ false → call reset_pulse state memory ≡ called (reply_of (reset_pin power_on)) (imaged_in state power_on) memory
unfolding call call_on asked_before concluded state_after step reset_pin
the_reset_pin state memory e = rw e (ap (λ later. called (reply_of (reset_pin power_on)) later memory) (stored_long state (long state memory e).0 power_on))

from_the_start : (hung : Hung) (events : List Event) (state memory : List ℕ) → All IsByte events → short state memory ≡ false → let chip = chip_of (registers_at_start hung) (memory_at_start ++ drop memory_size memory) in
    after_calls events (start_of hung state memory).state (start_of hung state memory).memory ≡ lent (imaged_in state (after_events events chip).registers) (after_events events chip).memory
unfolding start_of
from_the_start hung events state memory b e =
    let h = (long state memory e).0 in
    let zeros = memory_at_start ++ drop memory_size memory in
    let size : memory_size ≤ length zeros = rw (length-append memory_at_start (drop memory_size memory), length-replicate {A = ℕ} memory_size 0) (omega arith) in
    rw e
    (calls_on_chip_lem state h events (registers_at_start hung) zeros b (start_legal hung) size ∙
    ap (λ later. lent later (after_events events (chip_of (registers_at_start hung) zeros)).memory) (stored_long state h (after_events events (chip_of (registers_at_start hung) zeros)).registers))

pub calls_on_chip : CallsOnChip
unfolding reply_of number_of byte_of dummy_of reset_pin
calls_on_chip = record {
  one_call = λ event state memory a. one_call state memory a event;
  the_reset_pin = the_reset_pin;
  call_by_call = λ events state memory b a. call_by_call state memory a events b ∙ ap (λ later. lent later (after_events events (chip_in state memory)).memory) (stored_long state (long state memory a.long_enough).0 (after_events events (chip_in state memory)).registers);
  from_the_start = from_the_start;
  the_next = λ events event state memory b a. the_next state memory a events event b;
}
