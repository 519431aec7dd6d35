-- Runs from power-on with zero memory, and what each must answer. proofs/Samples.antt proves `RunSamples` by computing.
use Rattle.std.specs.Prelude.{ℕ, ◌≡◌, List, [], ◌∷◌, ◌++◌, map, take, replicate, set}
use Rattle.constants.specs.Sizes.{memory_size}
use Rattle.bus.specs.Registers.{power_on, image_of, ◌with◌≔◌}
use Rattle.bus.specs.Places.{column, on, fresh}
use Rattle.trace.specs.Run.{Ran, ran, stop_of, run}

abbrev pub zeros : List ℕ
zeros = replicate memory_size 0

abbrev pub from_power_on : List ℕ → Ran
from_power_on trace = run (image_of power_on) zeros trace

-- document 01's own trace: display on, then data 03 and 01
abbrev pub own : List ℕ
own = 0x01 ∷ 0x00 ∷ 0x01 ∷ 0x00 ∷ 0xAF ∷ 0x02 ∷ 0x00 ∷ 0x02 ∷ 0x00 ∷ 0x03 ∷ 0x01 ∷ []

-- a refusal in the middle of a record: display on, B9, display off
abbrev pub middle : List ℕ
middle = 0x03 ∷ 0x00 ∷ 0x01 ∷ 0x00 ∷ 0xAF ∷ 0xB9 ∷ 0xAE ∷ []

-- a dummy read that the firmware read as FF, then a read of 0 that it read as 1
abbrev pub differs : List ℕ
differs = 0x02 ∷ 0x00 ∷ 0x03 ∷ 0x00 ∷ 0xFF ∷ 0x01 ∷ []

-- display on, data 03 and 01, then the reset pin
abbrev pub resets : List ℕ
resets = own ++ 0x00 ∷ 0x00 ∷ 0x04 ∷ 0x00 ∷ []

-- A trace and what it must answer.
pub record Sample : Type 0 where
  pub trace : List ℕ
  pub number : ℕ
  pub offset : ℕ
  pub count : ℕ

abbrev pub sample : List ℕ → ℕ → ℕ → ℕ → Sample
sample bytes n at c = record { trace = bytes; number = n; offset = at; count = c }

abbrev pub samples : List Sample
samples =
    -- document 01's own trace cut at each of its bytes, and whole
    sample (take 0 own) 0 0 0 ∷
    sample (take 1 own) 8 0 0 ∷
    sample (take 2 own) 8 0 0 ∷
    sample (take 3 own) 8 0 0 ∷
    sample (take 4 own) 8 0 0 ∷
    sample (take 5 own) 0 5 1 ∷
    sample (take 6 own) 8 5 1 ∷
    sample (take 7 own) 8 5 1 ∷
    sample (take 8 own) 8 5 1 ∷
    sample (take 9 own) 8 5 1 ∷
    sample (take 10 own) 8 5 1 ∷
    sample own 0 11 2 ∷
    -- kinds 1 to 4 with length 0
    sample (0 ∷ 0 ∷ 1 ∷ 0 ∷ 0 ∷ 0 ∷ 2 ∷ 0 ∷ 0 ∷ 0 ∷ 3 ∷ 0 ∷ 0 ∷ 0 ∷ 4 ∷ 0 ∷ []) 0 16 4 ∷
    -- kind 4 with a payload, kinds 0, 5 and 257
    sample (1 ∷ 0 ∷ 4 ∷ 0 ∷ 0 ∷ []) 9 0 0 ∷
    sample (0 ∷ 0 ∷ 0 ∷ 0 ∷ []) 9 0 0 ∷
    sample (0 ∷ 0 ∷ 4 ∷ 0 ∷ 0 ∷ 0 ∷ 5 ∷ 0 ∷ []) 9 4 1 ∷
    sample (0 ∷ 0 ∷ 1 ∷ 1 ∷ []) 9 0 0 ∷
    -- a payload of 256 bytes that is past the end, and 8 before 9
    sample (0 ∷ 1 ∷ 1 ∷ 0 ∷ 0xAF ∷ []) 8 0 0 ∷
    sample (2 ∷ 0 ∷ 5 ∷ 0 ∷ 0 ∷ []) 8 0 0 ∷
    -- a refusal in the middle of a record
    sample middle 4 5 0 ∷
    -- D3 40, the n refused
    sample (2 ∷ 0 ∷ 1 ∷ 0 ∷ 0xD3 ∷ 0x40 ∷ []) 5 5 0 ∷
    -- EF is outside the table; F0 and, after a record and a byte of its own, FF are test mode
    sample (1 ∷ 0 ∷ 1 ∷ 0 ∷ 0xEF ∷ []) 3 4 0 ∷
    sample (1 ∷ 0 ∷ 1 ∷ 0 ∷ 0xF0 ∷ []) 15 4 0 ∷
    sample (0 ∷ 0 ∷ 4 ∷ 0 ∷ 3 ∷ 0 ∷ 1 ∷ 0 ∷ 0xAF ∷ 0xFF ∷ 0xAE ∷ []) 15 9 1 ∷
    -- where a code is awaited they are n: 81 takes F4, D3 does not
    sample (2 ∷ 0 ∷ 1 ∷ 0 ∷ 0x81 ∷ 0xF4 ∷ []) 0 6 1 ∷
    sample (2 ∷ 0 ∷ 1 ∷ 0 ∷ 0xD3 ∷ 0xF4 ∷ []) 5 5 0 ∷
    -- a dummy read is not compared, the read after it is
    sample (2 ∷ 0 ∷ 3 ∷ 0 ∷ 0xFF ∷ 0x00 ∷ []) 0 6 1 ∷
    sample differs 10 5 0 ∷
    -- reads that would differ, with 81 awaited and with column 143: 6 and 7 before 10
    sample (1 ∷ 0 ∷ 1 ∷ 0 ∷ 0x81 ∷ 1 ∷ 0 ∷ 3 ∷ 0 ∷ 5 ∷ []) 6 9 1 ∷
    sample (2 ∷ 0 ∷ 1 ∷ 0 ∷ 0x0F ∷ 0x18 ∷ 1 ∷ 0 ∷ 3 ∷ 0 ∷ 5 ∷ []) 7 10 1 ∷
    []

pub record RunSamples : Type 0 where
  -- Number, offset and count of each sample.
  pub answers : map (λ s. (from_power_on s.trace).stop) samples ≡ map (λ s. stop_of s.number s.offset s.count) samples
  -- The whole outcome of four: earlier effects stand, a read that differs has not happened, and the reset pin gives power-on and leaves the memory.
  pub outcomes : map from_power_on (own ∷ middle ∷ differs ∷ resets ∷ []) ≡
      ran (stop_of 0 11 2) (image_of (power_on with on ≔ 1 with column ≔ 2)) (set (set zeros 0 0x03) 1 0x01) ∷
      ran (stop_of 4 5 0) (image_of (power_on with on ≔ 1)) zeros ∷
      ran (stop_of 10 5 0) (image_of (power_on with fresh ≔ 0)) zeros ∷
      ran (stop_of 0 15 3) (image_of power_on) (set (set zeros 0 0x03) 1 0x01) ∷
      []
