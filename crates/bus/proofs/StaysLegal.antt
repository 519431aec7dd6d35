-- What a taken event leaves is legal where what it found was, and so is what a call leaves.
-- Assumes nothing.
use mathlib.Core.Path.{◌≡◌, subst}
use mathlib.Core.Bool.{false}
use mathlib.Core.List.{List, ◌++◌}
use Prim.Native.Nat.{ℕ, ◌≤◌}
use native.Mathlib.Omega.{arith}
use lib.ListN.{length, drop, length-append, length-replicate}
use Rattle.constants.specs.Sizes.{image_size, memory_size}
use Rattle.bus.specs.Registers.{registers_of, power_on}
use Rattle.bus.specs.Events.{reset_pin}
use Rattle.bus.specs.Chip.{Event, reset_pulse, step}
use Rattle.bus.specs.Image.{short, stored, Accepted}
use Rattle.bus.specs.Start.{registers_at_start, memory_at_start, start_of}
use Rattle.bus.specs.Calls.{state_after, concluded, asked_before, call_on, call}
use Rattle.bus.specs.Bytes.{IsByte}
use Rattle.bus.specs.StaysLegal.{LegalRegisters, Keeps, StaysLegal}
use Rattle.bus.specs.declared.registers.Registers.{Registers}
use Rattle.bus.specs.Answer.{Answer}
use Rattle.bus.specs.declared.start.Hung.{Hung}
use Rattle.bus.proofs.Legal.{long}
use Rattle.bus.proofs.Asking.{found_legal}
use Rattle.bus.proofs.Kept.{legal_facts, facts_legal, state_facts, power_on_legal, start_legal, step_keeps}
use Rattle.bus.proofs.Untouched.{step_length}
use Rattle.bus.proofs.Stored.{stored_own, asked_stored, call_stored}

-- a state that legal registers were stored in is accepted
stored_accepted : (state memory : List ℕ) → image_size ≤ length state → memory_size ≤ length memory → (r : Registers) → LegalRegisters r → Accepted (stored r state) memory
stored_accepted state memory h m r l =
    let f = found_legal (stored r state) memory (asked_stored state h memory r m l) in
    record { long_enough = f.0; in_ranges = f.1 }

module _ (event : Event) (state memory : List ℕ) (b : IsByte event) (a : Accepted state memory) where
  h : image_size ≤ length state
  h = (long state memory a.long_enough).0

  m : memory_size ≤ length memory
  m = (long state memory a.long_enough).1

  concluded_accepted : (answer : Answer) (left : List ℕ) → Keeps answer → memory_size ≤ length left → Accepted (state_after answer state) left
  unfolding state_after
  concluded_accepted (Answer.Taken after) left k n = stored_accepted state left h n after.registers k
  concluded_accepted (Answer.Refused number) left k n = subst (λ image. Accepted image left) (stored_own state h) (stored_accepted state left h n (registers_of state) (state_facts state h a.in_ranges))

  call_accepted : Accepted (call event state memory).state (call event state memory).memory
  unfolding concluded
  call_accepted =
      let l = state_facts state h a.in_ranges in
      let own : call event state memory ≡ concluded (step event (registers_of state) memory) state = rw (stored_own state h) at (call_stored state h event (registers_of state) memory l m) in
      rw own (concluded_accepted (step event (registers_of state) memory).answer (step event (registers_of state) memory).memory (step_keeps event (registers_of state) memory b l) (omega (arith, step_length event (registers_of state) memory, m)))

pin_accepted : (state memory : List ℕ) → short state memory ≡ false → Accepted (call reset_pulse state memory).state (call reset_pulse state memory).memory
unfolding call call_on asked_before concluded state_after step reset_pin
pin_accepted state memory e = let sizes = long state memory e in rw e (stored_accepted state memory sizes.0 sizes.1 power_on power_on_legal)

start_accepted : (hung : Hung) (state memory : List ℕ) → short state memory ≡ false → Accepted (start_of hung state memory).state (start_of hung state memory).memory
unfolding start_of
start_accepted hung state memory e =
    let sizes = long state memory e in
    rw e (stored_accepted state (memory_at_start ++ drop memory_size memory) sizes.0 (rw (length-append memory_at_start (drop memory_size memory), length-replicate {A = ℕ} memory_size 0) (omega arith)) (registers_at_start hung) (start_legal hung))

pub stays_legal : StaysLegal
stays_legal = record {
  the_image = λ r. (facts_legal r, legal_facts r);
  at_power_on = power_on_legal;
  at_start = start_legal;
  an_event = step_keeps;
  a_call = call_accepted;
  the_reset_pin = pin_accepted;
  the_start = start_accepted;
}
