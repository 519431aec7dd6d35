-- Runs of the wide terminal from power-on with zero memories, and what each must answer. proofs/Samples.antt proves `WideRunSamples` by computing.
use Rattle.std.specs.Prelude.{ℕ, ◌≡◌, List, [], ◌∷◌, ◌++◌, map, set}
use Rattle.bus.specs.Places.{column, column_direction, on, awaited}
use Rattle.bus.specs.Registers.{power_on, image_of, ◌with◌≔◌}
use Rattle.trace.specs.Run.{stop_of}
use Rattle.trace.specs.Samples.{Sample, sample}
use Rattle.widebus.specs.Pair.{◌beside◌, lent}
use Rattle.widebus.specs.Samples.{zeros, at_power_on}
use Rattle.widetrace.specs.WideRun.{WideRan, wide_ran, wide_run}

abbrev pub wide_from_power_on : List ℕ → WideRan
wide_from_power_on trace = wide_run (at_power_on beside at_power_on) trace

-- Records that select left,
abbrev pub select_left : List ℕ
select_left = 1 ∷ 0 ∷ 5 ∷ 0 ∷ 1 ∷ []

-- right,
abbrev pub select_right : List ℕ
select_right = 1 ∷ 0 ∷ 5 ∷ 0 ∷ 2 ∷ []

-- and both.
abbrev pub select_both : List ℕ
select_both = 1 ∷ 0 ∷ 5 ∷ 0 ∷ 3 ∷ []

-- Records of one command byte,
abbrev pub command_one : ℕ → List ℕ
command_one byte = 1 ∷ 0 ∷ 1 ∷ 0 ∷ byte ∷ []

-- of one data byte written,
abbrev pub write_one : ℕ → List ℕ
write_one byte = 1 ∷ 0 ∷ 2 ∷ 0 ∷ byte ∷ []

-- of one read,
abbrev pub read_one : ℕ → List ℕ
read_one byte = 1 ∷ 0 ∷ 3 ∷ 0 ∷ byte ∷ []

-- of the reset pin,
abbrev pub pulse : List ℕ
pulse = 0 ∷ 0 ∷ 4 ∷ 0 ∷ []

-- and of the two commands for column 143.
abbrev pub far_column : List ℕ
far_column = 2 ∷ 0 ∷ 1 ∷ 0 ∷ 0x0F ∷ 0x18 ∷ []

abbrev pub wide_samples : List Sample
wide_samples =
    -- select records; each is a record done
    sample [] 0 0 0 ∷
    sample select_left 0 5 1 ∷
    sample select_right 0 5 1 ∷
    sample select_both 0 5 1 ∷
    -- 13: payload 0 and 4, none, two bytes; after a record
    sample (1 ∷ 0 ∷ 5 ∷ 0 ∷ 0 ∷ []) 13 0 0 ∷
    sample (1 ∷ 0 ∷ 5 ∷ 0 ∷ 4 ∷ []) 13 0 0 ∷
    sample (0 ∷ 0 ∷ 5 ∷ 0 ∷ []) 13 0 0 ∷
    sample (2 ∷ 0 ∷ 5 ∷ 0 ∷ 1 ∷ 2 ∷ []) 13 0 0 ∷
    sample (pulse ++ 1 ∷ 0 ∷ 5 ∷ 0 ∷ 9 ∷ []) 13 4 1 ∷
    -- 8 before 13; 9 for kind 6, kind 261 and kind 4 with a payload
    sample (2 ∷ 0 ∷ 5 ∷ 0 ∷ 1 ∷ []) 8 0 0 ∷
    sample (0 ∷ 0 ∷ 6 ∷ 0 ∷ []) 9 0 0 ∷
    sample (1 ∷ 0 ∷ 5 ∷ 1 ∷ 1 ∷ []) 9 0 0 ∷
    sample (1 ∷ 0 ∷ 4 ∷ 0 ∷ 0 ∷ []) 9 0 0 ∷
    -- 14: each run starts with both; an empty record of reads is taken; before 6 and 7
    sample (read_one 0) 14 4 0 ∷
    sample (0 ∷ 0 ∷ 3 ∷ 0 ∷ []) 0 4 1 ∷
    sample (command_one 0x81 ++ read_one 5) 14 9 1 ∷
    sample (far_column ++ read_one 5) 14 10 1 ∷
    -- one chip read: a dummy read is not compared, the read after it is
    sample (select_left ++ 2 ∷ 0 ∷ 3 ∷ 0 ∷ 0xFF ∷ 0x00 ∷ []) 0 11 2 ∷
    sample (select_right ++ 2 ∷ 0 ∷ 3 ∷ 0 ∷ 0xFF ∷ 0x01 ∷ []) 10 10 1 ∷
    -- the right's byte is not the left's: left has 03 at column 0, right 00
    sample (select_left ++ write_one 0x03 ++ select_right ++ 2 ∷ 0 ∷ 3 ∷ 0 ∷ 0x00 ∷ 0x00 ∷ []) 0 21 4 ∷
    -- the number is the left's where both refuse: 7 and 6, then 6 and 7
    sample (select_left ++ far_column ++ select_right ++ command_one 0x81 ++ select_both ++ write_one 0xFF) 7 30 5 ∷
    sample (select_left ++ command_one 0x81 ++ select_right ++ far_column ++ select_both ++ write_one 0xFF) 6 30 5 ∷
    -- 15 at its byte, and EF 3; where a code is awaited F4 is an n
    sample (command_one 0xAF ++ command_one 0xF4) 15 9 1 ∷
    sample (command_one 0xAF ++ command_one 0xEF) 3 9 1 ∷
    sample (select_left ++ command_one 0x81 ++ command_one 0xF4) 0 15 3 ∷
    sample (select_left ++ command_one 0x81 ++ select_right ++ command_one 0xF4) 15 19 3 ∷
    []

pub record WideRunSamples : Type 0 where
  -- Number, offset and count of each sample.
  pub answers : map (λ s. (wide_from_power_on s.trace).stop) wide_samples ≡ map (λ s. stop_of s.number s.offset s.count) wide_samples
  -- The whole outcome of some: data for both, for left and for right;
  pub writes : wide_from_power_on (write_one 3 ++ select_left ++ write_one 5 ++ select_right ++ write_one 7) ≡
      wide_ran (stop_of 0 25 5) (lent (image_of (power_on with column ≔ 2)) (set (set zeros 0 3) 1 5) beside lent (image_of (power_on with column ≔ 2)) (set (set zeros 0 3) 1 7))
  -- the reset pin goes to the selected chip alone,
  pub pin : wide_from_power_on (2 ∷ 0 ∷ 1 ∷ 0 ∷ 0xAF ∷ 0xA1 ∷ select_right ++ pulse) ≡
      wide_ran (stop_of 0 15 3) (lent (image_of (power_on with on ≔ 1 with column_direction ≔ 1)) zeros beside at_power_on)
  -- and keeps the selection;
  pub pin_keeps : wide_from_power_on (select_left ++ pulse ++ command_one 0xAF) ≡ wide_ran (stop_of 0 14 3) (lent (image_of (power_on with on ≔ 1)) zeros beside at_power_on)
  -- a byte that the right refuses with 5 and the left would take: neither changes;
  pub neither : wide_from_power_on (select_right ++ command_one 0xD3 ++ select_both ++ command_one 0x41) ≡ wide_ran (stop_of 5 19 3) (at_power_on beside lent (image_of (power_on with awaited ≔ 0xD3)) zeros)
  -- a byte that the right refuses as test mode's and the left would take as its n;
  pub neither_tests : wide_from_power_on (select_left ++ command_one 0x81 ++ select_both ++ command_one 0xF4) ≡ wide_ran (stop_of 15 19 3) (lent (image_of (power_on with awaited ≔ 0x81)) zeros beside at_power_on)
  -- data that the left refuses with 6 and the right would store.
  pub neither_stores : wide_from_power_on (select_left ++ command_one 0x81 ++ select_both ++ write_one 0xFF) ≡ wide_ran (stop_of 6 19 3) (lent (image_of (power_on with awaited ≔ 0x81)) zeros beside at_power_on)
