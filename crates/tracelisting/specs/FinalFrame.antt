-- The final frame: what is listed is what the run leaves on the glass.
use Rattle.std.specs.Prelude.{ℕ, ◌≡◌, List, ◌++◌, replicate}
use Rattle.constants.specs.Numbers.{taken}
use Rattle.constants.specs.Sizes.{frame_size}
use Rattle.bus.specs.Registers.{registers_of}
use Rattle.bus.specs.Chip.{Chip}
use Rattle.bus.specs.Start.{registers_at_start, memory_at_start}
use Rattle.bus.specs.declared.start.Hung.{Hung}
use Rattle.trace.specs.Records.{split}
use Rattle.trace.specs.Play.{play}
use Rattle.trace.specs.Kinds.{chip_of, the_chip}
use Rattle.trace.specs.Run.{Ran}
use Rattle.bus.specs.Bytes.{Bytes}
use Rattle.picture.specs.Frame.{frame}
use Rattle.picture.specs.Draw.{draw}
use Rattle.trace.specs.EitherStart.{reset_record, ran_from_start}
use Rattle.framelisting.specs.Text.{listing_of}
use Rattle.tracelisting.specs.TraceListing.{frame_after, listing_of_trace, text_for}

-- The chip that a run leaves: the registers of its state, and its memory.
abbrev pub chip_after : Ran → Chip
chip_after ran = chip_of (registers_of ran.state) ran.memory

pub record FinalFrame (hung : Hung) (trace : List ℕ) : Type 0 where
  -- the drawing is never refused
  pub drawn : (draw (ran_from_start hung trace).state (ran_from_start hung trace).memory (replicate frame_size 0)).number ≡ taken
  -- the frame that is listed is that of the registers and memory that the run leaves
  pub listed : frame_after (ran_from_start hung trace) ≡ frame (chip_after (ran_from_start hung trace)).registers (chip_after (ran_from_start hung trace)).memory
  -- and these are what the trace's records leave of the chip as it starts
  pub played : chip_after (ran_from_start hung trace) ≡ (play the_chip (split trace) (chip_of (registers_at_start hung) memory_at_start)).state
  -- The listing is of the number, the offset and the frame that the records leave, from the start that is named.
  pub text : let p = play the_chip (split trace) (chip_of (registers_at_start hung) memory_at_start) in listing_of_trace hung trace ≡ listing_of p.number p.offset (frame p.state.registers p.state.memory)

-- For each start, and each trace of bytes.
abbrev pub FinalFrames : Type 0
FinalFrames = (hung : Hung) (trace : List ℕ) → Bytes trace → FinalFrame hung trace

-- After a reset record nothing is left of the start in what is printed.
abbrev pub ListedAfterThePin : Type 0
ListedAfterThePin = (before trace : List ℕ) → (ran_from_start Hung.Upright before).stop.number ≡ taken → text_for Hung.UpsideDown (before ++ (reset_record ++ trace)) ≡ text_for Hung.Upright (before ++ (reset_record ++ trace))
