-- What the two starts give and leave, and what the chip's own resets make of it: by computing.
-- Assumes nothing.
use mathlib.Core.Path.{◌≡◌, refl, ◌∙◌, ap}
use mathlib.Core.Bool.{Bool, true, false, cond, true≢false, false≢true}
use mathlib.Core.Logic.{◌↔◌, ◌≢◌}
use mathlib.Core.List.{List, ◌++◌}
use Prim.Native.Nat.{ℕ}
use native.Mathlib.Omega.{arith}
use lib.ListN.{get_or, drop, length-replicate, get_or-append, get_or-replicate}
use lib.Seq.{drop_at, get_or-set_other}
use Rattle.constants.specs.Sizes.{image_size, memory_size}
use Rattle.constants.specs.Numbers.{taken, too_short}
use Rattle.codes.specs.Table.{table, command_by, command_of, meaning_of}
use Rattle.bus.specs.Places.{column_direction, row_direction}
use Rattle.bus.specs.Registers.{image_of, ranges, power_on, ◌with◌≔◌}
use Rattle.bus.specs.Events.{obeyed, command, reset_pin}
use Rattle.bus.specs.Image.{short, stored}
use Rattle.bus.specs.Start.{registers_at_start, memory_at_start, Started, started, start_of}
use Rattle.bus.specs.TheStart.{RegistersAtStart, TheStart}
use Rattle.bus.specs.declared.start.Hung.{Hung}
use Rattle.bus.proofs.Legal.{long}
use Rattle.bus.proofs.ThereAndBack.{image_with}
use Rattle.bus.proofs.Stored.{stored_long, stored_past}

-- a place that is neither direction has at the start what it has at power-on
others : (place : ℕ) → place ≢ column_direction → place ≢ row_direction → get_or (image_of (registers_at_start Hung.UpsideDown)) place 0 ≡ get_or (image_of power_on) place 0
others place c r =
    ap (λ image. get_or image place 0) (image_with (power_on with column_direction ≔ 1) row_direction 1) ∙
    get_or-set_other (image_of (power_on with column_direction ≔ 1)) row_direction place 1 0 r ∙
    ap (λ image. get_or image place 0) (image_with power_on column_direction 1) ∙
    get_or-set_other (image_of power_on) column_direction place 1 0 c

pub registers_at_start_so : RegistersAtStart
unfolding power_on ranges command obeyed command_of command_by meaning_of table reset_pin
registers_at_start_so = record {
  upright = refl;
  columns = refl;
  rows = refl;
  others = others;
  image_upright = refl;
  image_upside_down = refl;
  the_pin = λ r. refl;
  software_reset = refl;
}

module _ (hung : Hung) (state memory : List ℕ) where
  abbrev by : Bool → Started
  by s = cond s (started too_short state memory) (started taken (stored (registers_at_start hung) state) (memory_at_start ++ drop memory_size memory))

  zero_when : (s : Bool) → (by s).number ≡ taken ↔ s ≡ false
  zero_when true = (λ e. absurd (omega arith), λ e. absurd (true≢false e))
  zero_when false = (λ e. refl, λ e. refl)

  one_when : (s : Bool) → (by s).number ≡ too_short ↔ s ≡ true
  one_when true = (λ e. refl, λ e. refl)
  one_when false = (λ e. absurd (omega arith), λ e. absurd (false≢true e))

  past : (s : Bool) → short state memory ≡ s → (drop image_size (by s).state ≡ drop image_size state) × (drop memory_size (by s).memory ≡ drop memory_size memory)
  past true e = (refl, refl)
  past false e = (stored_past state (long state memory e).0 (registers_at_start hung), drop_at memory_at_start (drop memory_size memory) memory_size (length-replicate {A = ℕ} memory_size 0))

  pub the_start : TheStart hung state memory
  unfolding start_of
  the_start = record {
    number0 = zero_when (short state memory);
    number1 = one_when (short state memory);
    refused = λ e. rw e (refl, refl);
    registers = λ e. rw (e, stored_long state (long state memory e).0 (registers_at_start hung)) refl;
    zeros = λ e place l. rw e (get_or-append memory_at_start (drop memory_size memory) 0 place (rw (length-replicate {A = ℕ} memory_size 0) l) ∙ get_or-replicate memory_size place 0 0 l);
    past = past (short state memory) refl;
  }
