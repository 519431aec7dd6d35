-- A lent state that legal registers were stored in: what it is asked, and what is stored in it again.
-- Assumes nothing.
use mathlib.Core.Path.{◌≡◌, ◌∙◌}
use mathlib.Core.List.{List, ◌++◌}
use Prim.Native.Nat.{ℕ, ◌≤◌}
use native.Mathlib.Omega.{arith}
use borrow.Author.Tests.{le-ltb}
use lib.ListN.{length, drop}
use Rattle.constants.specs.Sizes.{image_size, memory_size}
use Rattle.bus.specs.Registers.{largest_values, image_of, registers_of}
use Rattle.bus.specs.Image.{within, legal, short, asked, stored}
use Rattle.bus.specs.Chip.{Event, command_byte, data_written, data_read, reset_pulse, step}
use Rattle.bus.specs.Calls.{concluded, asked_before, call_on, call}
use Rattle.bus.specs.declared.registers.Registers.{Registers}
use Rattle.bus.proofs.Legal.{long}
use Rattle.bus.proofs.Asking.{found_legal}
use Rattle.bus.specs.StaysLegal.{LegalRegisters}
use Rattle.bus.proofs.Kept.{facts_legal}
use Rattle.bus.proofs.ThereAndBack.{image_registers}
use Rattle.bus.specs.Answer.{Asked}

-- what was found in a state and memory: they are long enough, and the registers are the state's
pub record Sized (state memory : List ℕ) (r : Registers) : Type 0 where
  pub image : image_size ≤ length state
  pub display : memory_size ≤ length memory
  pub registers : registers_of state ≡ r

pub sized : (state memory : List ℕ) (r : Registers) → asked state memory ≡ Asked.Found r → Sized state memory r
sized state memory r e =
    let f = found_legal state memory e in
    let sizes = long state memory f.0 in
    record { image = sizes.0; display = sizes.1; registers = f.2 }

module _ (state : List ℕ) (h : image_size ≤ length state) where
  pub stored_long : (r : Registers) → stored r state ≡ image_of r ++ drop image_size state
  unfolding stored
  stored_long r = rw (le-ltb (length state) image_size h)

  -- the registers of a state, stored in it, are the state
  pub stored_own : stored (registers_of state) state ≡ state
  stored_own = stored_long (registers_of state) ∙ image_registers state h

  pub stored_again : (r s : Registers) → stored s (stored r state) ≡ stored s state
  unfolding stored
  stored_again r s = rw (le-ltb (length state) image_size h, le-ltb (length (image_of r ++ drop image_size state)) image_size (omega arith))

  pub stored_past : (r : Registers) → drop image_size (stored r state) ≡ drop image_size state
  stored_past r = rw (stored_long r)

  -- legal registers that were stored are found again
  pub asked_stored : (memory : List ℕ) (r : Registers) → memory_size ≤ length memory → LegalRegisters r → asked (stored r state) memory ≡ Asked.Found r
  unfolding asked short legal within largest_values
  asked_stored memory r m l =
      rw (stored_long r, le-ltb (length (image_of r ++ drop image_size state)) image_size (omega arith), le-ltb (length memory) memory_size m, facts_legal r l)

  -- what is asked before a call on a state that legal registers were stored in
  asked_before_lem : (e : Event) (r : Registers) (memory : List ℕ) → LegalRegisters r → memory_size ≤ length memory → asked_before e (stored r state) memory ≡ Asked.Found r
  unfolding asked_before short
  asked_before_lem (command_byte b) r memory l m = asked_stored memory r m l
  asked_before_lem (data_written b) r memory l m = asked_stored memory r m l
  asked_before_lem data_read r memory l m = asked_stored memory r m l
  asked_before_lem reset_pulse r memory l m =
      rw (stored_long r, le-ltb (length (image_of r ++ drop image_size state)) image_size (omega arith), le-ltb (length memory) memory_size m)

  -- a call on it is its event, from those registers
  pub call_stored : (e : Event) (r : Registers) (memory : List ℕ) → LegalRegisters r → memory_size ≤ length memory → call e (stored r state) memory ≡ concluded (step e r memory) (stored r state)
  unfolding call call_on
  call_stored e r memory l m = rw (asked_before_lem e r memory l m)
