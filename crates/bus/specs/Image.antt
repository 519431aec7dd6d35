-- The state as hosts lend it: an image of 23 bytes, its legal ranges, and refusals 1 and 2.
use Rattle.std.specs.Prelude.{ℕ, ◌≡◌, Bool, true, false, cond, ◌&&◌, ◌||◌, List, [], ◌∷◌, ◌++◌, leb, ltb, eqb, length, get_or, drop}
pub use Rattle.codes.specs.OneOf.{one_of}
use Rattle.constants.specs.Sizes.{image_size, memory_size}
use Rattle.constants.specs.Numbers.{too_short, out_of_range}
use Rattle.bus.specs.Places.{awaited, modify, saved}
use Rattle.bus.specs.Registers.{largest_values, image_of, registers_of}
use Rattle.bus.specs.declared.registers.Registers.{Registers}
use Rattle.bus.specs.Answer.{Asked}

-- Each byte of an image is at most the largest value in the list beside it.
unfoldable pub within : List ℕ → List ℕ → Bool
within [] image = true
within (largest ∷ rest) [] = false
within (largest ∷ rest) (byte ∷ image) = leb byte largest && within rest image

-- The awaited code is one of these.
unfoldable pub awaited_codes : List ℕ
awaited_codes = 0x00 ∷ 0x81 ∷ 0xA8 ∷ 0xA9 ∷ 0xAD ∷ 0xD3 ∷ 0xD4 ∷ []

-- An image is in its ranges: each register in its own, the awaited code one of seven, and the saved column 0 while read-modify-write is 0.
unfoldable pub legal : List ℕ → Bool
legal image =
    within largest_values image &&
    one_of awaited_codes (get_or image awaited 0) &&
    cond (eqb (get_or image modify 0) 0) (eqb (get_or image saved 0) 0) true

-- A lent state or memory is too short.
unfoldable pub short : List ℕ → List ℕ → Bool
short state memory = ltb (length state) image_size || ltb (length memory) memory_size

-- What a lent state alone is asked: its length, then the ranges.
unfoldable pub asked_state : List ℕ → Asked
asked_state state = cond (ltb (length state) image_size) (Asked.Refused too_short) (cond (legal state) (Asked.Found (registers_of state)) (Asked.Refused out_of_range))

-- What a lent state and memory are asked first: their lengths, then the ranges.
unfoldable pub asked : List ℕ → List ℕ → Asked
asked state memory = cond (short state memory) (Asked.Refused too_short) (cond (legal state) (Asked.Found (registers_of state)) (Asked.Refused out_of_range))

-- A lent state with the image of the registers in its first 23 bytes; one that is too short stays as it is.
unfoldable pub stored : Registers → List ℕ → List ℕ
stored r state = cond (ltb (length state) image_size) state (image_of r ++ drop image_size state)

-- A lent state and memory that 1 and 2 do not refuse: long enough, and the image in its ranges.
pub record Accepted (state memory : List ℕ) : Type 0 where
  pub long_enough : short state memory ≡ false
  pub in_ranges : legal state ≡ true
