-- What a lent state and memory are asked first: what it says that they were found legal, and with what they are refused.
-- Assumes nothing.
use mathlib.Core.Path.{◌≡◌, refl}
use mathlib.Core.Bool.{Bool, true, false, cond}
use mathlib.Core.List.{List}
use Prim.Native.Nat.{ℕ, ◌≤◌, ◌<◌}
use native.Mathlib.Omega.{arith}
use lib.Dec.{lit≤}
use Rattle.codes.proofs.Tests.{chosen}
use Rattle.constants.specs.Numbers.{taken, too_short, out_of_range}
use Rattle.bus.specs.Registers.{registers_of}
use Rattle.bus.specs.Chip.{Event, command_byte, data_written, data_read, reset_pulse}
use Rattle.bus.specs.Image.{short, legal, asked}
use Rattle.bus.specs.Calls.{asked_before}
use Rattle.bus.specs.declared.registers.Registers.{Registers}
use Rattle.bus.specs.Answer.{Asked}

-- the two answers are never equal
never : {n : ℕ} {r : Registers} → Asked.Refused n ≡ Asked.Found r → ⊥
never e = let z : ◌≡◌ {A = ℕ} 0 1 = cc in omega arith

found : (s l : Bool) (own r : Registers) → cond s (Asked.Refused too_short) (cond l (Asked.Found own) (Asked.Refused out_of_range)) ≡ Asked.Found r → (s ≡ false) × (l ≡ true) × (own ≡ r)
found true l own r e = absurd (never e)
found false true own r e = (refl, refl, cc)
found false false own r e = absurd (never e)

-- found legal: they are long enough, the image is in its ranges, and the registers are the image's
pub found_legal : (state memory : List ℕ) {r : Registers} → asked state memory ≡ Asked.Found r → (short state memory ≡ false) × (legal state ≡ true) × (registers_of state ≡ r)
unfolding asked
found_legal state memory e = found (short state memory) (legal state) (registers_of state) _ e

-- what is asked first refuses with 1 or 2
abbrev pub OneOrTwo : Asked → Type 0
OneOrTwo (Asked.Found r) = Unit {0}
OneOrTwo (Asked.Refused number) = (taken < number) × (number ≤ out_of_range)

pub asked_refusal : (state memory : List ℕ) → OneOrTwo (asked state memory)
unfolding asked
asked_refusal state memory =
    chosen OneOrTwo (short state memory) _ _ (λ e. (lit≤ tt, lit≤ tt)) (λ e. chosen OneOrTwo (legal state) _ _ (λ e. tt) (λ e. (lit≤ tt, lit≤ tt)))

pub before_refusal : (event : Event) (state memory : List ℕ) → OneOrTwo (asked_before event state memory)
unfolding asked_before
before_refusal (command_byte b) state memory = asked_refusal state memory
before_refusal (data_written b) state memory = asked_refusal state memory
before_refusal data_read state memory = asked_refusal state memory
before_refusal reset_pulse state memory = chosen OneOrTwo (short state memory) _ _ (λ e. (lit≤ tt, lit≤ tt)) (λ e. tt)
