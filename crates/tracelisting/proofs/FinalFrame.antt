-- The frame that is listed is the one of the registers and memory that the run leaves: from a legal start the run leaves a legal state.
-- Assumes nothing.
use mathlib.Core.Path.{◌≡◌, refl, sym, ◌∙◌, ap}
use mathlib.Core.Bool.{cond}
use mathlib.Core.List.{List, ◌++◌, append-nil}
use Prim.Native.Nat.{ℕ}
use lib.Dec.{ltb}
use lib.ListN.{length, replicate}
use Rattle.constants.specs.Sizes.{frame_size, longest_trace}
use Rattle.bus.specs.Registers.{image_of, registers_of}
use Rattle.bus.specs.Chip.{Chip}
use Rattle.bus.specs.Image.{asked}
use Rattle.bus.specs.Start.{registers_at_start, memory_at_start}
use Rattle.bus.specs.Answer.{Asked}
use Rattle.bus.specs.declared.start.Hung.{Hung}
use Rattle.bus.proofs.Asking.{found_legal}
use Rattle.trace.specs.Records.{split}
use Rattle.trace.specs.Play.{play}
use Rattle.trace.specs.Kinds.{chip_of, the_chip}
use Rattle.trace.specs.Run.{Ran, stop_of, ran_of, run_on, run}
use Rattle.bus.specs.Bytes.{Bytes}
use Rattle.trace.proofs.RunOnLent.{run_legal}
use Rattle.picture.specs.Frame.{frame}
use Rattle.picture.specs.Draw.{draw_on, draw}
use Rattle.trace.specs.EitherStart.{reset_record, ran_from_start}
use Rattle.trace.proofs.EitherStart.{found, either_start}
use Rattle.tracelisting.specs.TraceListing.{frame_after, listing_of_trace, text_for}
use Rattle.framelisting.specs.Ascii.{ascii}
use Rattle.framelisting.specs.Text.{listing_of}
use Rattle.tracelisting.specs.FinalFrame.{FinalFrames, ListedAfterThePin}

abbrev played : Hung → List ℕ → Chip
played hung trace = (play the_chip (split trace) (chip_of (registers_at_start hung) memory_at_start)).state

module _ (hung : Hung) (trace : List ℕ) (bytes : Bytes trace) where
  -- the state that is left is found legal
  left : asked (ran_from_start hung trace).state (ran_from_start hung trace).memory ≡ Asked.Found (played hung trace).registers
  unfolding ran_from_start
  left = run_legal (image_of (registers_at_start hung)) memory_at_start (registers_at_start hung) (found hung) trace bytes

  registers_left : registers_of (ran_from_start hung trace).state ≡ (played hung trace).registers
  registers_left = (found_legal (ran_from_start hung trace).state (ran_from_start hung trace).memory left).2

  memory_left : (ran_from_start hung trace).memory ≡ (played hung trace).memory
  unfolding ran_from_start run run_on ran_of
  memory_left = rw (found hung)

stop_left : (hung : Hung) (trace : List ℕ) → let p = play the_chip (split trace) (chip_of (registers_at_start hung) memory_at_start) in (ran_from_start hung trace).stop ≡ stop_of p.number p.offset p.count
unfolding ran_from_start run run_on ran_of
stop_left hung trace = rw (found hung) refl

drawn_left : (hung : Hung) (trace : List ℕ) → Bytes trace → frame_after (ran_from_start hung trace) ≡ frame (registers_of (ran_from_start hung trace).state) (ran_from_start hung trace).memory
unfolding frame_after draw draw_on
drawn_left hung trace bytes = ap (λ asking. (draw_on asking (ran_from_start hung trace).memory (replicate frame_size 0)).frame) (left hung trace bytes) ∙ append-nil _ ∙ ap (λ registers. frame registers (ran_from_start hung trace).memory) (sym (registers_left hung trace bytes))

text_left : (hung : Hung) (trace : List ℕ) → Bytes trace → let p = play the_chip (split trace) (chip_of (registers_at_start hung) memory_at_start) in listing_of_trace hung trace ≡ listing_of p.number p.offset (frame p.state.registers p.state.memory)
unfolding listing_of_trace
text_left hung trace bytes =
    ap (λ stop. listing_of stop.number stop.offset (frame_after (ran_from_start hung trace))) (stop_left hung trace) ∙
    ap (listing_of (play the_chip (split trace) (chip_of (registers_at_start hung) memory_at_start)).number (play the_chip (split trace) (chip_of (registers_at_start hung) memory_at_start)).offset)
    (drawn_left hung trace bytes ∙ ap (λ registers. frame registers (ran_from_start hung trace).memory) (registers_left hung trace bytes) ∙ ap (frame (played hung trace).registers) (memory_left hung trace bytes))

pub final_frames : FinalFrames
unfolding frame_after draw draw_on
final_frames hung trace bytes =
    let ran = ran_from_start hung trace in
    record {
      drawn = ap (λ asking. (draw_on asking ran.memory (replicate frame_size 0)).number) (left hung trace bytes);
      listed = drawn_left hung trace bytes;
      played = rw (registers_left hung trace bytes, memory_left hung trace bytes);
      text = text_left hung trace bytes;
    }

pub listed_after_the_pin : ListedAfterThePin
unfolding text_for listing_of_trace
listed_after_the_pin before trace h =
    ap (λ (r : Ran). cond (ltb longest_trace (length (before ++ (reset_record ++ trace)))) (ascii "input too long\n") (listing_of r.stop.number r.stop.offset (frame_after r))) ((either_start trace).after_the_pin before h)
