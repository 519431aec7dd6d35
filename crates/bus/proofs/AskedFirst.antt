-- What is asked first, by its tests; and what a data byte leaves of the registers.
-- Assumes nothing.
use mathlib.Core.Path.{◌≡◌, refl}
use mathlib.Core.Bool.{true, false}
use mathlib.Core.List.{List}
use Prim.Native.Nat.{ℕ}
use lib.Dec.{eqb}
use lib.ListN.{length}
use Rattle.codes.proofs.Tests.{chosen}
use Rattle.constants.specs.Numbers.{taken, too_short, out_of_range}
use Rattle.bus.specs.Places.{column, fresh}
use Rattle.bus.specs.Registers.{◌with◌≔◌}
use Rattle.bus.specs.Chip.{Leaves}
use Rattle.bus.specs.Events.{number_of, byte_of, dummy_of, access, moved, write, read}
use Rattle.bus.specs.Image.{short, legal, asked}
use Rattle.bus.specs.declared.registers.Registers.{Registers}
use Rattle.bus.specs.Calls.{reply_of}
use Rattle.bus.specs.Answer.{Answer}
use Rattle.bus.specs.Answer.{Asked}
use Rattle.bus.proofs.Answers.{Silent}

module _ (state memory : List ℕ) where
  pub short_first : short state memory ≡ true → asked state memory ≡ Asked.Refused too_short
  unfolding asked
  short_first s = rw s

  pub ranges_next : short state memory ≡ false → legal state ≡ false → asked state memory ≡ Asked.Refused out_of_range
  unfolding asked
  ranges_next s l = rw (s, l)

-- the reply of an answer that is silent
pub silent_reply : (number : ℕ) (answer : Answer) → Silent answer → number ≡ number_of answer → record { number = number; byte = 0; dummy = false } ≡ reply_of answer
unfolding reply_of number_of byte_of dummy_of
silent_reply number (Answer.Taken after) silent e = rw (e, silent.0, silent.1)
silent_reply number (Answer.Refused refusal) silent e = rw e

-- registers that differ in column and fresh alone
abbrev pub Moved : Registers → Registers → Type 0
Moved r left = left ≡ (r with column ≔ left.column with fresh ≔ left.fresh)

pub write_leaves : (r : Registers) (size : ℕ) → Leaves (Moved r) (write r size)
unfolding write
write_leaves r size = chosen (Leaves (Moved r)) (eqb (access r size) taken) _ _ (λ e. refl) (λ e. tt)

pub read_leaves : (r : Registers) (memory : List ℕ) → Leaves (Moved r) (read r memory)
unfolding read
read_leaves r memory =
    chosen (Leaves (Moved r)) (eqb (access r (length memory)) taken) _ _
    (λ e. chosen (Leaves (Moved r)) (eqb r.fresh 1) _ _ (λ e. refl) (λ e. chosen (Moved r) (eqb r.modify 1) r (moved r) (λ e. refl) (λ e. refl)))
    (λ e. tt)
