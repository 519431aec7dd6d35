-- What the two starts give and leave, and what the chip's own resets make of it.
use Rattle.std.specs.Prelude.{ℕ, ◌<◌, ◌≡◌, true, false, ◌↔◌, ◌≢◌, List, [], ◌∷◌, get_or, drop}
use Rattle.constants.specs.Sizes.{image_size, memory_size}
use Rattle.constants.specs.Numbers.{taken, too_short}
use Rattle.bus.specs.Places.{column_direction, row_direction}
use Rattle.bus.specs.Registers.{image_of, registers_of, power_on, ◌with◌≔◌}
use Rattle.bus.specs.Events.{silently, command, reset_pin}
use Rattle.bus.specs.Image.{short}
use Rattle.bus.specs.Start.{registers_at_start, start_of}
use Rattle.bus.specs.declared.registers.Registers.{Registers}
use Rattle.bus.specs.declared.start.Hung.{Hung}

-- The registers at the start, without a word on how they are had.
pub record RegistersAtStart : Type 0 where
  -- Upright is power-on.
  pub upright : registers_at_start Hung.Upright ≡ power_on
  -- Upside down has column direction 1 and row direction 1,
  pub columns : (registers_at_start Hung.UpsideDown).column_direction ≡ 1
  pub rows : (registers_at_start Hung.UpsideDown).row_direction ≡ 1
  -- and every other register as at power-on.
  pub others : (place : ℕ) → place ≢ column_direction → place ≢ row_direction → get_or (image_of (registers_at_start Hung.UpsideDown)) place 0 ≡ get_or (image_of power_on) place 0
  -- The images in figures.
  pub image_upright : image_of (registers_at_start Hung.Upright) ≡ 0 ∷ 0 ∷ 0 ∷ 0 ∷ 63 ∷ 32 ∷ 4 ∷ 0 ∷ 0 ∷ 0 ∷ 0 ∷ 0 ∷ 0 ∷ 0 ∷ 0 ∷ 0 ∷ 0 ∷ 0 ∷ 0 ∷ 0 ∷ 0 ∷ 0 ∷ 1 ∷ []
  pub image_upside_down : image_of (registers_at_start Hung.UpsideDown) ≡ 0 ∷ 0 ∷ 0 ∷ 0 ∷ 63 ∷ 32 ∷ 4 ∷ 0 ∷ 0 ∷ 0 ∷ 0 ∷ 0 ∷ 1 ∷ 1 ∷ 0 ∷ 0 ∷ 0 ∷ 0 ∷ 0 ∷ 0 ∷ 0 ∷ 0 ∷ 1 ∷ []
  -- The reset pin gives the chip's own values, whatever the registers were.
  pub the_pin : (r : Registers) → reset_pin r ≡ silently power_on
  -- E2 after the new start does as the chip does: row direction 0, and the column direction left.
  pub software_reset : command 0xE2 (registers_at_start Hung.UpsideDown) ≡ silently (power_on with column_direction ≔ 1)

pub record TheStart (hung : Hung) (state memory : List ℕ) : Type 0 where
  -- 1 exactly when a lent state or memory is too short, and else 0.
  pub number0 : (start_of hung state memory).number ≡ taken ↔ short state memory ≡ false
  pub number1 : (start_of hung state memory).number ≡ too_short ↔ short state memory ≡ true
  -- A refusal changes nothing.
  pub refused : short state memory ≡ true → ((start_of hung state memory).state ≡ state) × ((start_of hung state memory).memory ≡ memory)
  -- Taken, it leaves the registers at the start in the state, and 0 in each byte of the display memory.
  pub registers : short state memory ≡ false → registers_of (start_of hung state memory).state ≡ registers_at_start hung
  pub zeros : short state memory ≡ false → (place : ℕ) → place < memory_size → get_or (start_of hung state memory).memory place 0 ≡ 0
  -- Bytes of a lent buffer past its needed length never change.
  pub past : (drop image_size (start_of hung state memory).state ≡ drop image_size state) × (drop memory_size (start_of hung state memory).memory ≡ drop memory_size memory)
