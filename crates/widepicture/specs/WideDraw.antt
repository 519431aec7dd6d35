-- The call that draws the wide frame: its whole outcome as one function of what is lent.
use Rattle.std.specs.Prelude.{ℕ, zero, suc, ◌+◌, ◌*◌, cond, List, ◌++◌, ltb, length, take, drop}
use Rattle.constants.specs.Numbers.{taken, too_short}
use Rattle.constants.specs.Sizes.{width, wide_width, wide_frame_size}
use Rattle.picture.specs.Frame.{row_of}
use Rattle.picture.specs.Draw.{Drawn, drawn}
use Rattle.widebus.specs.Pair.{Pair, Lent, chips_of}
use Rattle.widebus.specs.Asked.{asked_both}
use Rattle.widebus.specs.Asked.{BothAsked}
use Rattle.widepicture.specs.WideFrame.{wide_frame}

-- Drawing on what was asked first; bytes of the lent frame past its needed length never change.
unfoldable pub draw_on_both : BothAsked → Pair Lent → List ℕ → Drawn
draw_on_both (BothAsked.Found registers) all was = drawn taken (wide_frame (chips_of registers all.left.memory all.right.memory) ++ drop wide_frame_size was)
draw_on_both (BothAsked.Refused number) all was = drawn number was

-- 1 where the lent frame is too short, else what the states and memories of both chips are asked; a refusal writes nothing.
unfoldable pub draw_wide : Pair Lent → List ℕ → Drawn
draw_wide all was = cond (ltb (length was) wide_frame_size) (drawn too_short was) (draw_on_both (asked_both all) all was)

-- A frame with a part of it written from a place on, and all else as it was.
unfoldable pub written_at : ℕ → List ℕ → List ℕ → List ℕ
written_at start part was = take start was ++ (part ++ drop (start + length part) was)

-- The first h rows of a chip's frame written into a wide frame, each from the same place of its row on.
unfoldable pub rows_written : ℕ → ℕ → List ℕ → List ℕ → List ℕ
rows_written first zero own was = was
rows_written first (suc h) own was = written_at (h * wide_width + first) (row_of width h own) (rows_written first h own was)
