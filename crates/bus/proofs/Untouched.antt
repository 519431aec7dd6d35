-- What an event leaves alone: a write changes one byte and no other, no call changes a byte past 23 of the state or past 1,188 of the memory, and a refused one changes nothing.
-- Assumes nothing.
use mathlib.Core.Path.{◌≡◌, refl, subst}
use mathlib.Core.Bool.{Bool, true, false, cond}
use mathlib.Core.Logic.{◌≢◌}
use mathlib.Core.List.{List, ◌++◌}
use Prim.Native.Nat.{ℕ, ◌<◌}
use native.Mathlib.Omega.{arith}
use lib.Dec.{ltb, eqb}
use lib.ListN.{length, get_or, drop, set, length-set, length-drop}
use lib.Seq.{drop-set-lt, get_or-set_same, get_or-set_other}
use borrow.Author.Tests.{eq-eqb, eqb-true, ltb-false}
use Rattle.codes.proofs.Tests.{chosen}
use Rattle.constants.specs.Sizes.{image_size, memory_size}
use Rattle.constants.specs.Numbers.{taken}
use Rattle.bus.specs.Memory.{address, kept}
use Rattle.bus.specs.Events.{number_of, silently, access, moved, write, written}
use Rattle.bus.specs.Chip.{Event, command_byte, data_written, data_read, reset_pulse, step}
use Rattle.bus.specs.Image.{asked, stored}
use Rattle.bus.specs.Places.{fresh}
use Rattle.bus.specs.Registers.{image_of, registers_of, ◌with◌≔◌}
use Rattle.bus.specs.Calls.{reply_of, state_after, concluded, refused, asked_before, call_on, call}
use Rattle.bus.specs.Untouched.{pointed_at, Untouched, OneByteWritten}
use Rattle.bus.specs.declared.registers.Registers.{Registers}
use Rattle.bus.specs.Answer.{After}
use Rattle.bus.specs.Answer.{Answer}
use Rattle.bus.specs.Answer.{Asked}
use Rattle.bus.proofs.Access.{opened, address_inside}
use Rattle.bus.proofs.Asking.{OneOrTwo, asked_refusal, found_legal}

-- what holds of the memory with one byte set, and of the memory, holds after a write
by_write : (P : List ℕ → Type 0) (b : ℕ) (r : Registers) (memory : List ℕ) → (access r (length memory) ≡ taken → P (set memory (address r.page r.column) (kept r.page b))) → P memory → P (written b r memory)
unfolding written
by_write P b r memory p q = chosen P (eqb (access r (length memory)) taken) _ _ (λ e. p (eqb-true (access r (length memory)) taken e)) (λ e. q)

-- a write changes no byte but the one at page and column
pub written_elsewhere : (b : ℕ) (r : Registers) (memory : List ℕ) (place : ℕ) → (place ≡ address r.page r.column → ⊥) → get_or (written b r memory) place 0 ≡ get_or memory place 0
written_elsewhere b r memory place h =
    by_write (λ left. get_or left place 0 ≡ get_or memory place 0) b r memory (λ e. get_or-set_other memory (address r.page r.column) place (kept r.page b) 0 h) refl

pub written_length : (b : ℕ) (r : Registers) (memory : List ℕ) → length (written b r memory) ≡ length memory
written_length b r memory = by_write (λ left. length left ≡ length memory) b r memory (λ e. length-set memory _ _) refl

-- no event changes the memory's length
pub step_length : (event : Event) (r : Registers) (memory : List ℕ) → length (step event r memory).memory ≡ length memory
unfolding step
step_length (command_byte b) r memory = refl
step_length (data_written b) r memory = written_length b r memory
step_length data_read r memory = refl
step_length reset_pulse r memory = refl

-- the state past its image is left as it was
pub state_past : (answer : Answer) (state : List ℕ) → drop image_size (state_after answer state) ≡ drop image_size state
unfolding state_after stored
state_past (Answer.Taken after) state = chosen (λ later. drop image_size later ≡ drop image_size state) (ltb (length state) image_size) _ _ (λ e. refl) (λ e. refl)
state_past (Answer.Refused number) state = refl

-- the memory past its 1,188 bytes is left as it was
pub memory_past : (event : Event) (r : Registers) (memory : List ℕ) → drop memory_size (step event r memory).memory ≡ drop memory_size memory
unfolding step
memory_past (command_byte b) r memory = refl
memory_past (data_written b) r memory =
    by_write (λ left. drop memory_size left ≡ drop memory_size memory) b r memory
    (λ e. drop-set-lt memory_size memory (address r.page r.column) (kept r.page b) (address_inside r (length memory) e))
    refl
memory_past data_read r memory = refl
memory_past reset_pulse r memory = refl

-- no call changes a byte past the needed lengths
pub call_past : (event : Event) (state memory : List ℕ) → (drop image_size (call event state memory).state ≡ drop image_size state) × (drop memory_size (call event state memory).memory ≡ drop memory_size memory)
unfolding call call_on concluded refused
call_past event state memory = on (asked_before event state memory)
  where
    on : (asking : Asked) → (drop image_size (call_on asking event state memory).state ≡ drop image_size state) × (drop memory_size (call_on asking event state memory).memory ≡ drop memory_size memory)
    on (Asked.Found r) = (state_past (step event r memory).answer state, memory_past event r memory)
    on (Asked.Refused number) = (refl, refl)

taken_refused : (after : After) (number : ℕ) → Answer.Taken after ≡ Answer.Refused number → ⊥
taken_refused after number e = let z : ◌≡◌ {A = ℕ} 0 1 = cc in omega arith

-- a refused event leaves the memory as it was
pub refused_leaves : (event : Event) (r : Registers) (memory : List ℕ) (number : ℕ) → (step event r memory).answer ≡ Answer.Refused number → (step event r memory).memory ≡ memory
unfolding step write written
refused_leaves (command_byte b) r memory number e = refl
refused_leaves (data_written b) r memory number e = by_write (λ left. left ≡ memory) b r memory (λ t. absurd (taken_refused _ number (rw (eq-eqb (access r (length memory)) taken t) at e))) refl
refused_leaves data_read r memory number e = refl
refused_leaves reset_pulse r memory number e = refl

-- a call that gives another number than 0 leaves the lent state and memory as they were
pub call_refused : (event : Event) (state memory : List ℕ) → (call event state memory).reply.number ≢ taken → ((call event state memory).state ≡ state) × ((call event state memory).memory ≡ memory)
unfolding call call_on concluded refused reply_of number_of state_after
call_refused event state memory = on (asked_before event state memory)
  where
    after : (r : Registers) (answer : Answer) → (step event r memory).answer ≡ answer → (reply_of answer).number ≢ taken → (state_after answer state ≡ state) × ((step event r memory).memory ≡ memory)
    after r (Answer.Taken t) e n = absurd (n refl)
    after r (Answer.Refused number) e n = (refl, refused_leaves event r memory number e)

    on : (asking : Asked) → (call_on asking event state memory).reply.number ≢ taken → ((call_on asking event state memory).state ≡ state) × ((call_on asking event state memory).memory ≡ memory)
    on (Asked.Found r) n = after r (step event r memory).answer refl n
    on (Asked.Refused number) n = (refl, refl)

-- the state stays as long as it was
state_length : (answer : Answer) (state : List ℕ) → length (state_after answer state) ≡ length state
unfolding state_after stored
state_length (Answer.Taken after) state = chosen (λ later. length later ≡ length state) (ltb (length state) image_size) state (image_of after.registers ++ drop image_size state) (λ e. refl) (λ e. omega (arith, length-drop image_size state, ltb-false (length state) image_size e))
state_length (Answer.Refused number) state = refl

call_lengths : (event : Event) (state memory : List ℕ) → (length (call event state memory).state ≡ length state) × (length (call event state memory).memory ≡ length memory)
unfolding call call_on concluded refused
call_lengths event state memory = on (asked_before event state memory)
  where
    on : (asking : Asked) → (length (call_on asking event state memory).state ≡ length state) × (length (call_on asking event state memory).memory ≡ length memory)
    on (Asked.Found r) = (state_length (step event r memory).answer state, step_length event r memory)
    on (Asked.Refused number) = (refl, refl)

-- no event but a data write touches the memory
no_write : (event : Event) (state memory : List ℕ) → ((b : ℕ) → event ≢ data_written b) → (call event state memory).memory ≡ memory
unfolding call call_on concluded refused step
no_write event state memory n = on (asked_before event state memory)
  where
    stepped : (event : Event) (r : Registers) → ((b : ℕ) → event ≢ data_written b) → (step event r memory).memory ≡ memory
    stepped (command_byte b) r n = refl
    stepped (data_written b) r n = absurd (n b refl)
    stepped data_read r n = refl
    stepped reset_pulse r n = refl

    on : (asking : Asked) → (call_on asking event state memory).memory ≡ memory
    on (Asked.Found r) = stepped event r n
    on (Asked.Refused number) = refl

pub untouched : (event : Event) (state memory : List ℕ) → Untouched event state memory
untouched event state memory = record {
  refused = call_refused event state memory;
  past = call_past event state memory;
  lengths = call_lengths event state memory;
  no_write = no_write event state memory;
}

-- a write that is taken passes its tests
write_open : (r : Registers) (size : ℕ) → number_of (write r size) ≡ taken → access r size ≡ taken
unfolding write number_of
write_open r size = by (access r size) (eqb (access r size) taken) refl
  where
    by : (number : ℕ) (t : Bool) → eqb number taken ≡ t → number_of (cond t (silently (moved r with fresh ≔ 1)) (Answer.Refused number)) ≡ taken → number ≡ taken
    by number true e n = eqb-true number taken e
    by number false e n = n

module _ (b : ℕ) (state memory : List ℕ) where
  written_here : (r : Registers) → access r (length memory) ≡ taken → get_or (written b r memory) (address r.page r.column) 0 ≡ kept r.page b
  unfolding written
  written_here r e = rw (eq-eqb (access r (length memory)) taken e) (get_or-set_same memory (address r.page r.column) (kept r.page b) 0 (omega (arith, address_inside r (length memory) e, (opened r (length memory) e).enough)))

  inside : (call (data_written b) state memory).reply.number ≡ taken → pointed_at state < memory_size
  unfolding call call_on concluded refused asked_before step reply_of number_of
  inside = on (asked state memory) refl
    where
      on : (asking : Asked) → asked state memory ≡ asking → (call_on asking (data_written b) state memory).reply.number ≡ taken → pointed_at state < memory_size
      on (Asked.Found r) e n = address_inside (registers_of state) (length memory) (rw (← (found_legal state memory e).2) at (write_open r (length memory) n))
      on (Asked.Refused number) e n = absurd (omega (arith, n, (subst OneOrTwo e (asked_refusal state memory)).0))

  here : (call (data_written b) state memory).reply.number ≡ taken → get_or (call (data_written b) state memory).memory (pointed_at state) 0 ≡ kept (registers_of state).page b
  unfolding call call_on concluded refused asked_before step reply_of number_of
  here = on (asked state memory) refl
    where
      on : (asking : Asked) → asked state memory ≡ asking → (call_on asking (data_written b) state memory).reply.number ≡ taken → get_or (call_on asking (data_written b) state memory).memory (pointed_at state) 0 ≡ kept (registers_of state).page b
      on (Asked.Found r) e n = rw (← (found_legal state memory e).2) (written_here (registers_of state) (rw (← (found_legal state memory e).2) at (write_open r (length memory) n)))
      on (Asked.Refused number) e n = absurd (omega (arith, n, (subst OneOrTwo e (asked_refusal state memory)).0))

  elsewhere : (place : ℕ) → place ≢ pointed_at state → get_or (call (data_written b) state memory).memory place 0 ≡ get_or memory place 0
  unfolding call call_on concluded refused asked_before step
  elsewhere place h = on (asked state memory) refl
    where
      on : (asking : Asked) → asked state memory ≡ asking → get_or (call_on asking (data_written b) state memory).memory place 0 ≡ get_or memory place 0
      on (Asked.Found r) e = rw (← (found_legal state memory e).2) (written_elsewhere b (registers_of state) memory place h)
      on (Asked.Refused number) e = refl

  pub one_byte_written : OneByteWritten b state memory
  one_byte_written = record { inside = inside; here = here; elsewhere = elsewhere }
