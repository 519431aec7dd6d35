-- Calls of the wide terminal worked out: a number, an event and what is lent, and what each call must answer. proofs/Samples.antt proves `CallSamples` by computing.
use Rattle.std.specs.Prelude.{ℕ, ◌≡◌, true, false, List, [], ◌∷◌, map, replicate}
use Rattle.constants.specs.Sizes.{memory_size}
use Rattle.bus.specs.Places.{page, awaited, fresh}
use Rattle.bus.specs.Registers.{power_on, image_of, ◌with◌≔◌}
use Rattle.bus.specs.Chip.{Event, command_byte, data_written, data_read, reset_pulse}
use Rattle.widebus.specs.Pair.{Pair, ◌beside◌, Lent, lent}
use Rattle.widebus.specs.WideCalls.{wide_called, wide_call}

abbrev pub zeros : List ℕ
zeros = replicate memory_size 0

-- A chip at power-on, with a zero memory.
abbrev pub at_power_on : Lent
at_power_on = lent (image_of power_on) zeros

-- One whose image is out of its ranges: page 9.
abbrev pub outside : Lent
outside = lent (image_of (power_on with page ≔ 9)) zeros

-- One whose memory is a byte too short.
abbrev pub one_short : Lent
one_short = lent (image_of power_on) (replicate 1187 0)

-- One that awaits the n of 81.
abbrev pub awaiting : Lent
awaiting = lent (image_of (power_on with awaited ≔ 0x81)) zeros

-- One that awaits the n of D3.
abbrev pub awaiting_offset : Lent
awaiting_offset = lent (image_of (power_on with awaited ≔ 0xD3)) zeros

-- A call, and the number that it must answer.
pub record CallSample : Type 0 where
  pub selection : ℕ
  pub event : Event
  pub all : Pair Lent
  pub number : ℕ

abbrev pub call_sample : ℕ → Event → Pair Lent → ℕ → CallSample
call_sample s e a n = record { selection = s; event = e; all = a; number = n }

abbrev pub call_samples : List CallSample
call_samples =
    -- 2 asks both images, whoever is selected, but not at the reset pin; 1 goes before it, of either chip
    call_sample 1 (command_byte 0xAF) (outside beside at_power_on) 2 ∷
    call_sample 2 (command_byte 0xAF) (outside beside at_power_on) 2 ∷
    call_sample 1 (command_byte 0xAF) (outside beside one_short) 1 ∷
    call_sample 2 (command_byte 0xAF) (one_short beside outside) 1 ∷
    call_sample 1 reset_pulse (outside beside outside) 0 ∷
    call_sample 1 reset_pulse (outside beside one_short) 1 ∷
    -- 13 after 1 and 2
    call_sample 0 (command_byte 0xAF) (at_power_on beside at_power_on) 13 ∷
    call_sample 4 (data_written 0) (at_power_on beside at_power_on) 13 ∷
    call_sample 0 (command_byte 0xAF) (at_power_on beside outside) 2 ∷
    call_sample 0 reset_pulse (at_power_on beside outside) 13 ∷
    call_sample 0 data_read (at_power_on beside one_short) 1 ∷
    -- 14 before 6, and a chip that is not selected is not asked
    call_sample 3 data_read (at_power_on beside at_power_on) 14 ∷
    call_sample 3 data_read (awaiting beside awaiting) 14 ∷
    call_sample 2 data_read (at_power_on beside awaiting) 6 ∷
    call_sample 1 data_read (at_power_on beside awaiting) 0 ∷
    -- 15 of the chip that awaits no code, where the other takes F4 as its n; where both refuse the left's; EF is 3
    call_sample 3 (command_byte 0xF4) (at_power_on beside at_power_on) 15 ∷
    call_sample 3 (command_byte 0xF4) (awaiting beside at_power_on) 15 ∷
    call_sample 3 (command_byte 0xF4) (at_power_on beside awaiting) 15 ∷
    call_sample 3 (command_byte 0xF4) (awaiting beside awaiting) 0 ∷
    call_sample 3 (command_byte 0xF4) (at_power_on beside awaiting_offset) 15 ∷
    call_sample 3 (command_byte 0xF4) (awaiting_offset beside at_power_on) 5 ∷
    call_sample 1 (command_byte 0xF4) (awaiting beside at_power_on) 0 ∷
    call_sample 2 (command_byte 0xF4) (awaiting beside at_power_on) 15 ∷
    call_sample 3 (command_byte 0xEF) (awaiting beside at_power_on) 3 ∷
    call_sample 0 (command_byte 0xF4) (at_power_on beside at_power_on) 13 ∷
    []

pub record CallSamples : Type 0 where
  -- The number of each sample.
  pub answers : map (λ s. (wide_call s.selection s.event s.all).reply.number) call_samples ≡ map (λ s. s.number) call_samples
  -- The whole outcome of two: the reset pin for the right chip, both images out of their ranges,
  pub pin : wide_call 2 reset_pulse (outside beside outside) ≡ wide_called (record { number = 0; byte = 0; dummy = false }) (outside beside at_power_on)
  -- and a dummy read of the left chip.
  pub dummy_read : wide_call 1 data_read (at_power_on beside at_power_on) ≡ wide_called (record { number = 0; byte = 0; dummy = true }) (lent (image_of (power_on with fresh ≔ 0)) zeros beside at_power_on)
