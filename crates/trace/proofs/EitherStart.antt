-- The start is seen in the two directions alone: they change no answer, and the reset pin gives the chip's own values to both.
-- Assumes nothing.
use mathlib.Core.Path.{◌≡◌, refl, sym, ◌∙◌, ap}
use mathlib.Core.List.{List, ◌++◌, append-nil}
use Prim.Native.Nat.{ℕ}
use native.Mathlib.Omega.{arith}
use lib.ListN.{length, get_or, drop, drop_of_length-le}
use Rattle.constants.specs.Numbers.{taken}
use Rattle.constants.specs.Sizes.{image_size, memory_size}
use Rattle.bus.specs.Places.{column_direction, row_direction}
use Rattle.bus.specs.Registers.{image_of, largest_values, power_on}
use Rattle.bus.specs.Events.{reset_pin}
use Rattle.bus.specs.Chip.{Chip, step}
use Rattle.bus.specs.Image.{within, awaited_codes, legal, short, asked, stored}
use Rattle.bus.specs.Start.{registers_at_start, memory_at_start, started, start_of}
use Rattle.bus.specs.Directions.{SameButDirections, SameChips}
use Rattle.bus.specs.declared.registers.Registers.{Registers}
use Rattle.bus.specs.Answer.{Asked}
use Rattle.bus.specs.declared.start.Hung.{Hung}
use Rattle.bus.proofs.Directions.{the_starts, directions}
use Rattle.trace.specs.Records.{split_from, split}
use Rattle.trace.specs.Play.{Played, played, play_events, play_record, play_from, play}
use Rattle.trace.specs.Kinds.{events_of, happened, replay, chip_of, the_chip}
use Rattle.trace.specs.Run.{ran, stop_of, ran_of, run_on, run}
use Rattle.trace.specs.AnyMachine.{further, SamePlay}
use Rattle.trace.specs.EitherStart.{reset_record, ran_from_start, EitherStart}
use Rattle.trace.proofs.AnyMachine.{any_machine}
use Rattle.trace.proofs.ChipRefusals.{the_chip_sound}

alike : (trace memory : List ℕ) (r s : Registers) → SameButDirections r s → SamePlay SameChips (play the_chip (split trace) (chip_of r memory)) (play the_chip (split trace) (chip_of s memory))
alike trace memory r s same = (any_machine the_chip).alike SameChips directions.recorded trace (chip_of r memory) (chip_of s memory) (refl, same)

-- the chip as it starts, and what a trace makes of it
abbrev begun : Hung → Chip
begun hung = chip_of (registers_at_start hung) memory_at_start

abbrev ended : Hung → List ℕ → Played Chip
ended hung trace = play the_chip (split trace) (begun hung)

-- the image that a run from the start asks first is found legal
pub found : (hung : Hung) → asked (image_of (registers_at_start hung)) memory_at_start ≡ Asked.Found (registers_at_start hung)
unfolding power_on largest_values within awaited_codes legal short asked
found Hung.UpsideDown = refl
found Hung.Upright = refl

image_stored : (hung : Hung) (r : Registers) → stored r (image_of (registers_at_start hung)) ≡ image_of r
unfolding stored
image_stored hung r = refl

ran_so : (hung : Hung) (trace : List ℕ) → ran_from_start hung trace ≡ ran (stop_of (ended hung trace).number (ended hung trace).offset (ended hung trace).count) (image_of (ended hung trace).state.registers) (ended hung trace).state.memory
unfolding ran_from_start run run_on ran_of
ran_so hung trace = rw (found hung, image_stored hung (ended hung trace).state.registers) refl

both : (trace : List ℕ) → SamePlay SameChips (ended Hung.UpsideDown trace) (ended Hung.Upright trace)
both trace = alike trace memory_at_start (registers_at_start Hung.UpsideDown) (registers_at_start Hung.Upright) the_starts

-- a reset record leaves the chip at power-on, with its memory
the_pin : (chip : Chip) → play the_chip (split reset_record) chip ≡ played taken 4 1 (chip_of power_on chip.memory)
unfolding split split_from play_from play_record play_events events_of replay happened step reset_pin
the_pin chip = refl

-- and so whatever comes after it
from_the_pin : (chip : Chip) (trace : List ℕ) → play the_chip (split (reset_record ++ trace)) chip ≡ further 4 1 (play the_chip (split trace) (chip_of power_on chip.memory))
from_the_pin chip trace =
    (any_machine the_chip).joined the_chip_sound reset_record trace chip (ap (λ p. p.number) (the_pin chip)) ∙
    ap (λ p. further p.offset p.count (play the_chip (split trace) p.state)) (the_pin chip)

-- so with records before it that were taken
after_the_pin : (before trace : List ℕ) → (ended Hung.Upright before).number ≡ taken → ended Hung.UpsideDown (before ++ (reset_record ++ trace)) ≡ ended Hung.Upright (before ++ (reset_record ++ trace))
after_the_pin before trace h =
    let same = both before in
    let one = ended Hung.UpsideDown before in
    let other = ended Hung.Upright before in
    let rest : List ℕ → Played Chip = λ memory. play the_chip (split trace) (chip_of power_on memory) in
    (any_machine the_chip).joined the_chip_sound before (reset_record ++ trace) (begun Hung.UpsideDown) (same.number ∙ h) ∙
    ap (further one.offset one.count) (from_the_pin one.state trace) ∙
    ap (λ offset. further offset one.count (further 4 1 (rest one.state.memory))) same.offset ∙
    ap (λ count. further other.offset count (further 4 1 (rest one.state.memory))) same.count ∙
    ap (λ memory. further other.offset other.count (further 4 1 (rest memory))) same.state.0 ∙
    sym
    ((any_machine the_chip).joined the_chip_sound before (reset_record ++ trace) (begun Hung.Upright) h ∙
    ap (further other.offset other.count) (from_the_pin other.state trace))

-- with the directions the same, both are one whole
as_one : (trace : List ℕ) → get_or (ran_from_start Hung.UpsideDown trace).state column_direction 0 ≡ get_or (ran_from_start Hung.Upright trace).state column_direction 0
    → get_or (ran_from_start Hung.UpsideDown trace).state row_direction 0 ≡ get_or (ran_from_start Hung.Upright trace).state row_direction 0
    → ran_from_start Hung.UpsideDown trace ≡ ran_from_start Hung.Upright trace
as_one trace c d =
    let same = both trace in
    let one = ended Hung.UpsideDown trace in
    let other = ended Hung.Upright trace in
    let there : (place : ℕ) → get_or (ran_from_start Hung.UpsideDown trace).state place 0 ≡ get_or (ran_from_start Hung.Upright trace).state place 0 → get_or (image_of one.state.registers) place 0 ≡ get_or (image_of other.state.registers) place 0
    = λ place e. sym (ap (λ r. get_or r.state place 0) (ran_so Hung.UpsideDown trace)) ∙ e ∙ ap (λ r. get_or r.state place 0) (ran_so Hung.Upright trace) in
    ran_so Hung.UpsideDown trace ∙
    ap (λ number. ran (stop_of number one.offset one.count) (image_of one.state.registers) one.state.memory) same.number ∙
    ap (λ offset. ran (stop_of other.number offset one.count) (image_of one.state.registers) one.state.memory) same.offset ∙
    ap (λ count. ran (stop_of other.number other.offset count) (image_of one.state.registers) one.state.memory) same.count ∙
    ap (λ memory. ran (stop_of other.number other.offset other.count) (image_of one.state.registers) memory) same.state.0 ∙
    ap (λ registers. ran (stop_of other.number other.offset other.count) (image_of registers) other.state.memory) ((directions.alike one.state.registers other.state.registers same.state.1).the_same (there column_direction c) (there row_direction d)) ∙
    sym (ran_so Hung.Upright trace)

-- the start call leaves just the image and the memory that a run from the start begins with
started_so : (hung : Hung) (state memory : List ℕ) → length state ≡ image_size → length memory ≡ memory_size → start_of hung state memory ≡ started taken (image_of (registers_at_start hung)) memory_at_start
unfolding start_of short stored
started_so hung state memory s m =
    rw (s, m) (ap (λ l. started taken (image_of (registers_at_start hung) ++ l) (memory_at_start ++ drop memory_size memory)) (drop_of_length-le state {i = image_size} (omega arith)) ∙
    ap (λ l. started taken (image_of (registers_at_start hung)) (memory_at_start ++ l)) (drop_of_length-le memory {i = memory_size} (omega arith)) ∙
    ap (started taken (image_of (registers_at_start hung))) (append-nil memory_at_start))

begin_so : (hung : Hung) (trace : List ℕ) → run (image_of (registers_at_start hung)) memory_at_start trace ≡ ran_from_start hung trace
unfolding ran_from_start
begin_so hung trace = refl

pub either_start : (trace : List ℕ) → EitherStart trace
either_start trace =
    let same = both trace in
    let one = ended Hung.UpsideDown trace in
    let other = ended Hung.Upright trace in
    record {
      called = λ hung state memory s m. ap (λ begin. run begin.state begin.memory trace) (started_so hung state memory s m) ∙ begin_so hung trace;
      alike = alike trace;
      stop =
          ap (λ r. r.stop) (ran_so Hung.UpsideDown trace) ∙
          ap (λ number. stop_of number one.offset one.count) same.number ∙
          ap (λ offset. stop_of other.number offset one.count) same.offset ∙
          ap (λ count. stop_of other.number other.offset count) same.count ∙
          sym (ap (λ r. r.stop) (ran_so Hung.Upright trace));
      memory = ap (λ r. r.memory) (ran_so Hung.UpsideDown trace) ∙ same.state.0 ∙ sym (ap (λ r. r.memory) (ran_so Hung.Upright trace));
      image = λ place c d.
          ap (λ r. get_or r.state place 0) (ran_so Hung.UpsideDown trace) ∙
          (directions.meaning one.state.registers other.state.registers).0 same.state.1 place c d ∙
          sym (ap (λ r. get_or r.state place 0) (ran_so Hung.Upright trace));
      as_one = as_one trace;
      after_the_pin = λ before h.
          ran_so Hung.UpsideDown (before ++ (reset_record ++ trace)) ∙
          ap (λ p. ran (stop_of p.number p.offset p.count) (image_of p.state.registers) p.state.memory) (after_the_pin before trace (ap (λ r. r.stop.number) (sym (ran_so Hung.Upright before)) ∙ h)) ∙
          sym (ran_so Hung.Upright (before ++ (reset_record ++ trace)));
    }
