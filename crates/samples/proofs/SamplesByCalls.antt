-- The twelve sample events hold of the calls: calls on lent images are events on the chip, and what they leave is drawn.
-- Assumes nothing.
use mathlib.Core.Path.{◌≡◌, sym, ◌∙◌, ap}
use mathlib.Core.List.{List, [], ◌∷◌, ◌++◌}
use Prim.Native.Nat.{ℕ, ◌*◌, ◌≤◌, ◌<◌}
use native.Mathlib.Omega.{arith}
use native.Mathlib.Nat.{le_of_eq}
use borrow.Author.Tests.{le-ltb}
use lib.ListN.{length, get_or, drop, replicate, length-replicate, length-drop}
use lib.Seq.{take-append-le, drop-append-le}
use Rattle.constants.specs.Sizes.{width, memory_size, frame_rows, frame_size}
use Rattle.constants.specs.Numbers.{taken}
use Rattle.bus.specs.Registers.{image_of, registers_of, power_on}
use Rattle.bus.specs.Image.{short}
use Rattle.bus.specs.Chip.{Event, after_events}
use Rattle.bus.specs.Calls.{reply_of}
use Rattle.bus.specs.Bytes.{All, IsByte}
use Rattle.bus.specs.Image.{Accepted}
use Rattle.bus.specs.CallsOnChip.{Lent, lent, after_calls}
use Rattle.bus.proofs.StaysLegal.{stays_legal}
use Rattle.bus.proofs.CallsOnChip.{calls_on_chip}
use Rattle.picture.specs.Frame.{frame, row_of}
use Rattle.picture.specs.Draw.{Drawn, drawn, draw}
use Rattle.samples.specs.Samples.{started, from_power_on, number_for, picture}
use Rattle.samples.specs.Samples.{Shows as Chip-as-Shows}
use Rattle.samples.specs.SamplesByCalls.{left, register, memory_byte, answer_to, Draws, Shows, SamplesByCalls}
use Rattle.picture.proofs.Places.{frame_length}
use Rattle.picture.proofs.Drawing.{drawing}
use Rattle.samples.proofs.Samples.{samples}

-- the image of power-on and a memory that is long enough are accepted
at_power_on : (memory : List ℕ) → memory_size ≤ length memory → Accepted (image_of power_on) memory
unfolding short
at_power_on memory m = record { long_enough = le-ltb (length memory) memory_size m; in_ranges = (stays_legal.the_image power_on).0 stays_legal.at_power_on }

-- and so is what calls leave of them
still_accepted : (events : List Event) (state memory : List ℕ) → All IsByte events → Accepted state memory → Accepted (after_calls events state memory).state (after_calls events state memory).memory
unfolding after_calls
still_accepted [] state memory b a = a
still_accepted (event ∷ events) state memory b a = still_accepted events _ _ b.1 (stays_legal.a_call event state memory b.0 a)

-- what is accepted is drawn
draw_accepted : (state memory was : List ℕ) → Accepted state memory → frame_size ≤ length was → draw state memory was ≡ drawn taken (frame (registers_of state) memory ++ drop frame_size was)
draw_accepted state memory was a l =
    let call = drawing.call state memory was in
    let number = call.zero.1 (rw (le-ltb (length was) frame_size l) a.long_enough, a.in_ranges) in
    let places = call.drawn number in
    λ i. drawn (number i) (places i)

module _ (memory : List ℕ) (m : memory_size ≤ length memory) (events : List Event) (b : All IsByte events) where
  -- the calls leave the image and the memory of the chip after the events
  leaves : after_calls events (image_of power_on) memory ≡ lent (image_of (after_events events (started memory)).registers) (after_events events (started memory)).memory
  leaves = calls_on_chip.call_by_call events (image_of power_on) memory b (at_power_on memory m)

  -- the next call answers the chip's number
  answers : (event : Event) → answer_to event (after_calls events (image_of power_on) memory) ≡ number_for event (after_events events (started memory))
  unfolding reply_of number_for
  answers event = ap (λ reply. reply.number) (calls_on_chip.the_next events event (image_of power_on) memory b (at_power_on memory m))

  -- and what they leave is drawn as the chip's frame
  draws : (was : List ℕ) → frame_size ≤ length was → draw (after_calls events (image_of power_on) memory).state (after_calls events (image_of power_on) memory).memory was ≡ drawn taken (picture (after_events events (started memory)) ++ drop frame_size was)
  unfolding picture
  draws was l =
      draw_accepted _ _ was (still_accepted events (image_of power_on) memory b (at_power_on memory m)) l ∙
      ap (λ held. drawn taken (frame (registers_of held.state) held.memory ++ drop frame_size was)) leaves

  -- a row of what is drawn is the row of the chip's frame
  drawn_row : (was : List ℕ) → frame_size ≤ length was → (y : ℕ) → y < frame_rows → row_of width y (draw (after_calls events (image_of power_on) memory).state (after_calls events (image_of power_on) memory).memory was).frame ≡ row_of width y (picture (after_events events (started memory)))
  unfolding row_of picture
  drawn_row was l y k =
      let chip = after_events events (started memory) in
      let long = frame_length chip.registers chip.memory in
      ap (λ (d : Drawn). row_of width y d.frame) (draws was l) ∙
      rw (drop-append-le (y * width) (frame chip.registers chip.memory) (drop frame_size was) (omega arith), take-append-le width (drop (y * width) (frame chip.registers chip.memory)) (drop frame_size was) (rw (length-drop (y * width) (frame chip.registers chip.memory)) (omega arith)))

-- with zero memory, and with any
zero_long : memory_size ≤ length (replicate {A = ℕ} memory_size 0)
zero_long = le_of_eq (sym (length-replicate {A = ℕ} memory_size 0))

zero_leaves : (events : List Event) → All IsByte events → left events ≡ lent (image_of (from_power_on events).registers) (from_power_on events).memory
zero_leaves = leaves (replicate memory_size 0) zero_long

zero_answers : (events : List Event) → All IsByte events → (event : Event) → answer_to event (left events) ≡ number_for event (from_power_on events)
zero_answers = answers (replicate memory_size 0) zero_long

zero_draws : (events : List Event) (places : List ℕ) → All IsByte events → picture (from_power_on events) ≡ places → Draws events places
zero_draws events places b e was l = draws (replicate memory_size 0) zero_long events b was l ∙ ap (λ shown. drawn taken (shown ++ drop frame_size was)) e

shows : (events : List Event) (p n : ℕ) → All IsByte events → p < frame_rows → Chip-as-Shows events p n → Shows events p n
shows events p n b k e memory was m l = drawn_row memory m events b was l p k ∙ e memory

-- a register after events, and a byte of the memory
held : (events : List Event) (place : ℕ) → All IsByte events → register place (left events) ≡ get_or (image_of (from_power_on events).registers) place 0
held events place b = ap (λ (l : Lent). get_or l.state place 0) (zero_leaves events b)

byte : (events : List Event) (place : ℕ) → All IsByte events → memory_byte place (left events) ≡ get_or (from_power_on events).memory place 0
byte events place b = ap (λ (l : Lent). get_or l.memory place 0) (zero_leaves events b)

pub samples_by_calls : SamplesByCalls
samples_by_calls = record {
  sample1 = (byte _ _ (omega arith) ∙ samples.sample1.0, held _ _ (omega arith) ∙ samples.sample1.1);
  sample2 = (held _ _ (omega arith) ∙ samples.sample2.0, byte _ _ (omega arith) ∙ samples.sample2.1, held _ _ (omega arith) ∙ samples.sample2.2, held _ _ (omega arith) ∙ samples.sample2.3);
  sample3 = (held _ _ (omega arith) ∙ samples.sample3.0, zero_answers _ (omega arith) _ ∙ samples.sample3.1);
  sample4 = (zero_answers _ (omega arith) _ ∙ samples.sample4.0, zero_answers _ (omega arith) _ ∙ samples.sample4.1);
  sample5 = byte _ _ (omega arith) ∙ samples.sample5;
  sample6 = λ a b l k. (held _ _ (omega arith) ∙ (samples.sample6 a b).0, held _ _ (omega arith) ∙ (samples.sample6 a b).1);
  sample7 = (zero_answers _ (omega arith) _ ∙ samples.sample7.0, held _ _ (omega arith) ∙ samples.sample7.1);
  sample8 = (zero_answers _ (omega arith) _ ∙ samples.sample8.0, held _ _ (omega arith) ∙ samples.sample8.1);
  sample9 = zero_draws _ _ (omega arith) samples.sample9;
  sample10 = (shows _ _ _ (omega arith) (omega arith) samples.sample10.0, shows _ _ _ (omega arith) (omega arith) samples.sample10.1, shows _ _ _ (omega arith) (omega arith) samples.sample10.2, shows _ _ _ (omega arith) (omega arith) samples.sample10.3);
  sample11 = shows _ _ _ (omega arith) (omega arith) samples.sample11;
  sample12 = zero_draws _ _ (omega arith) samples.sample12;
}
