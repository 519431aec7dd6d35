-- What the call that draws the wide frame comes to, as documents 01 and 02 say it.
use Rattle.std.specs.Prelude.{ℕ, ◌≤◌, ◌<◌, ◌≡◌, ◌≢◌, ◌↔◌, ◌⊎◌, List, ◌++◌, length, drop}
use Rattle.constants.specs.Sizes.{frame_size, wide_frame_size}
use Rattle.constants.specs.Numbers.{taken, too_short, out_of_range}
use Rattle.bus.specs.Chip.{Chip}
use Rattle.bus.specs.CallsOnChip.{chip_in}
use Rattle.picture.specs.Draw.{drawn, draw}
use Rattle.widebus.specs.Pair.{Pair, Lent, ◌beside◌, at}
use Rattle.widebus.specs.OneAndTwo.{EitherShort, BothLong, EitherOutside, BothLegal}
use Rattle.widebus.specs.declared.selection.Side.{Side}
use Rattle.widepicture.specs.WideFrame.{wide_frame, half_of}
use Rattle.widepicture.specs.WideDraw.{draw_wide}

-- A lent frame, or a lent state or memory of either chip, is shorter than 17,160, 23, 1,188.
abbrev pub TooShortToDraw : Pair Lent → List ℕ → Type 0
TooShortToDraw all was = (length was < wide_frame_size) ⊎ EitherShort all

-- None of the five is.
abbrev pub LongToDraw : Pair Lent → List ℕ → Type 0
LongToDraw all was = (wide_frame_size ≤ length was) × BothLong all

-- The chips that the lent states and memories hold.
abbrev pub chips_in : Pair Lent → Pair Chip
chips_in all = chip_in all.left.state all.left.memory beside chip_in all.right.state all.right.memory

pub record WideDrawCall (all : Pair Lent) (was : List ℕ) : Type 0 where
  -- It answers 1 exactly when one of the five is too short,
  pub one : ((draw_wide all was).number ≡ too_short) ↔ TooShortToDraw all was
  -- 2 exactly when none is, and a state image is out of its ranges,
  pub two : ((draw_wide all was).number ≡ out_of_range) ↔ LongToDraw all was × EitherOutside all
  -- and 0 exactly when none is, and both images are in their ranges.
  pub zero : ((draw_wide all was).number ≡ taken) ↔ LongToDraw all was × BothLegal all
  -- Demand 1: it writes nothing when it refuses.
  pub refused : (draw_wide all was).number ≢ taken → (draw_wide all was).frame ≡ was
  -- Taken, it leaves the wide frame of the registers in the images and of the memories.
  pub whole : (draw_wide all was).number ≡ taken → (draw_wide all was).frame ≡ wide_frame (chips_in all) ++ drop wide_frame_size was
  -- Bytes of the lent frame past its needed length never change.
  pub past : drop wide_frame_size (draw_wide all was).frame ≡ drop wide_frame_size was
  -- Taken, each half of what is left is what the call that draws one chip leaves in a frame of its own.
  pub by_half : (draw_wide all was).number ≡ taken → (side : Side) (own : List ℕ) → frame_size ≤ length own
      → draw (at side all).state (at side all).memory own ≡ drawn taken (half_of side (draw_wide all was).frame ++ drop frame_size own)

-- For all that is lent.
abbrev pub WideDrawing : Type 0
WideDrawing = (all : Pair Lent) (was : List ℕ) → WideDrawCall all was
