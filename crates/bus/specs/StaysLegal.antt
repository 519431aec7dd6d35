-- Document 01's legal ranges are kept: what a taken event leaves is legal where what it found was.
use Rattle.std.specs.Prelude.{ℕ, ◌≡◌, true, false, List, ◌↔◌}
use Rattle.codes.specs.OneOf.{one_of}
use Rattle.bus.specs.Registers.{largest_values, image_of, power_on}
use Rattle.bus.specs.Chip.{Event, reset_pulse, step, Leaves}
use Rattle.bus.specs.Image.{within, awaited_codes, short, legal, Accepted}
use Rattle.bus.specs.Start.{registers_at_start, start_of}
use Rattle.bus.specs.Calls.{call}
use Rattle.bus.specs.Bytes.{IsByte}
use Rattle.bus.specs.declared.registers.Registers.{Registers}
use Rattle.bus.specs.Answer.{Answer}
use Rattle.bus.specs.declared.start.Hung.{Hung}

-- Legal registers: each in its range, the awaited code one of seven, and the saved column 0 while read-modify-write is 0.
pub record LegalRegisters (r : Registers) : Type 0 where
  pub in_ranges : within largest_values (image_of r) ≡ true
  pub code : one_of awaited_codes r.awaited ≡ true
  pub saved_zero : r.modify ≡ 0 → r.saved ≡ 0

-- A taken event leaves legal registers.
abbrev pub Keeps : Answer → Type 0
Keeps = Leaves LegalRegisters

pub record StaysLegal : Type 0 where
  -- Legal registers are those whose image is in its ranges.
  pub the_image : (r : Registers) → LegalRegisters r ↔ legal (image_of r) ≡ true
  -- The registers at power-on are legal.
  pub at_power_on : LegalRegisters power_on
  -- So are those at either start.
  pub at_start : (hung : Hung) → LegalRegisters (registers_at_start hung)
  -- A taken event leaves legal registers where it found them.
  pub an_event : (event : Event) (r : Registers) (memory : List ℕ) → IsByte event → LegalRegisters r → Keeps (step event r memory).answer
  -- A call, taken or refused, leaves a state and memory that the next call accepts, where it accepted them.
  pub a_call : (event : Event) (state memory : List ℕ) → IsByte event → Accepted state memory → Accepted (call event state memory).state (call event state memory).memory
  -- The reset pin leaves such a state whatever the image was, if it is long enough.
  pub the_reset_pin : (state memory : List ℕ) → short state memory ≡ false → Accepted (call reset_pulse state memory).state (call reset_pulse state memory).memory
  -- So does either start.
  pub the_start : (hung : Hung) (state memory : List ℕ) → short state memory ≡ false → Accepted (start_of hung state memory).state (start_of hung state memory).memory
