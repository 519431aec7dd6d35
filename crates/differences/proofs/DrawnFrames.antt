-- A frame that drawing leaves has no byte above 1, so that comparing two of them is never refused for that.
-- Assumes nothing.
use Prim.Native.Nat.{ℕ, ◌+◌, ◌*◌, ◌/◌, ◌%◌, ◌<◌}
use mathlib.Core.Path.{◌≡◌}
use mathlib.Core.Logic.{⊎_elim}
use mathlib.Core.List.{List}
use native.Mathlib.Omega.{arith}
use lib.ListN.{get_or, drop, get_or-append}
use Rattle.constants.specs.Sizes.{width, frame_size}
use Rattle.constants.specs.Numbers.{taken}
use Rattle.bus.specs.Registers.{registers_of}
use Rattle.picture.specs.Frame.{frame, place_of}
use Rattle.picture.specs.Draw.{draw}
use Rattle.picture.proofs.Drawing.{drawing}
use Rattle.differences.specs.Given.{Above}
use Rattle.differences.specs.DrawnFrames.{DrawnFrames}
use Rattle.differences.proofs.Given.{given}

-- each place of a drawn frame is dark or lit
drawn_place : (state memory was : List ℕ) (i : ℕ) → i < frame_size → (draw state memory was).number ≡ taken → get_or (draw state memory was).frame i 0 < 2
unfolding place_of
drawn_place state memory was i h e =
    let picture = drawing.picture (registers_of state) memory in
    let place : i / width * width + i % width ≡ i = omega arith in
    rw ((drawing.call state memory was).drawn e, get_or-append (frame (registers_of state) memory) (drop frame_size was) 0 i (rw picture.size h))
    (rw place at (picture.dark_or_lit (i / width) (i % width) (omega (arith, h)) (omega arith)))

none_above : (state memory was : List ℕ) → (draw state memory was).number ≡ taken → Above frame_size (draw state memory was).frame → ⊥
none_above state memory was e a = omega (arith, a.above, drawn_place state memory was a.place a.place_in e)

pub drawn_frames : DrawnFrames
drawn_frames = record {
  none = none_above;
  never = λ state memory was state' memory' was' list d e twelve.
      ⊎_elim (none_above state memory was d) (none_above state' memory' was' e)
      ((given.frames (draw state memory was).frame (draw state' memory' was').frame list).twelve.0 twelve).1;
}
