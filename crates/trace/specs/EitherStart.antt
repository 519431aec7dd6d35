-- Document 02, Order 3: how the module hangs at the start is seen in the two directions alone, and only until they are set or the reset pin comes.
use Rattle.std.specs.Prelude.{ℕ, ◌≡◌, ◌≢◌, List, [], ◌∷◌, ◌++◌, length, get_or}
use Rattle.constants.specs.Numbers.{taken}
use Rattle.constants.specs.Sizes.{image_size, memory_size}
use Rattle.bus.specs.Places.{column_direction, row_direction}
use Rattle.bus.specs.Registers.{image_of}
use Rattle.bus.specs.Start.{registers_at_start, memory_at_start, start_of}
use Rattle.bus.specs.Directions.{SameButDirections, SameChips}
use Rattle.bus.specs.declared.registers.Registers.{Registers}
use Rattle.bus.specs.declared.start.Hung.{Hung}
use Rattle.trace.specs.Records.{split}
use Rattle.trace.specs.Play.{play}
use Rattle.trace.specs.Kinds.{chip_of, the_chip}
use Rattle.trace.specs.Run.{Ran, run}
use Rattle.trace.specs.AnyMachine.{SamePlay}

-- A record of the reset pin.
abbrev pub reset_record : List ℕ
reset_record = 0x00 ∷ 0x00 ∷ 0x04 ∷ 0x00 ∷ []

-- A trace run from the start, as the module hangs.
unfoldable pub ran_from_start : Hung → List ℕ → Ran
ran_from_start hung trace = run (image_of (registers_at_start hung)) memory_at_start trace

pub record EitherStart (trace : List ℕ) : Type 0 where
  -- A run from a start is what the start call and then the run give, on a state and memory of just the needed lengths.
  pub called : (hung : Hung) (state memory : List ℕ) → length state ≡ image_size → length memory ≡ memory_size → run (start_of hung state memory).state (start_of hung state memory).memory trace ≡ ran_from_start hung trace
  -- From registers that are the same but for the directions, a trace has one number, offset and count, and leaves one memory, and registers that are the same but for the directions.
  pub alike : (memory : List ℕ) (r s : Registers) → SameButDirections r s → SamePlay SameChips (play the_chip (split trace) (chip_of r memory)) (play the_chip (split trace) (chip_of s memory))
  -- So it is from the two starts: number, offset and count,
  pub stop : (ran_from_start Hung.UpsideDown trace).stop ≡ (ran_from_start Hung.Upright trace).stop
  -- the memory,
  pub memory : (ran_from_start Hung.UpsideDown trace).memory ≡ (ran_from_start Hung.Upright trace).memory
  -- and every byte of the image but the two directions.
  pub image : (place : ℕ) → place ≢ column_direction → place ≢ row_direction → get_or (ran_from_start Hung.UpsideDown trace).state place 0 ≡ get_or (ran_from_start Hung.Upright trace).state place 0
  -- Where they leave the directions the same, as after commands that set both, they are one whole.
  pub as_one : get_or (ran_from_start Hung.UpsideDown trace).state column_direction 0 ≡ get_or (ran_from_start Hung.Upright trace).state column_direction 0
      → get_or (ran_from_start Hung.UpsideDown trace).state row_direction 0 ≡ get_or (ran_from_start Hung.Upright trace).state row_direction 0
      → ran_from_start Hung.UpsideDown trace ≡ ran_from_start Hung.Upright trace
  -- After a reset record nothing is left of the start: where what came before it was taken, both play on as one.
  pub after_the_pin : (before : List ℕ) → (ran_from_start Hung.Upright before).stop.number ≡ taken → ran_from_start Hung.UpsideDown (before ++ (reset_record ++ trace)) ≡ ran_from_start Hung.Upright (before ++ (reset_record ++ trace))
