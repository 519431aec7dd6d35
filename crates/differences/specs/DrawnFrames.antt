-- Order 1: a frame that drawing leaves never meets 12.
use Rattle.std.specs.Prelude.{◌≡◌, ◌≢◌, List, ℕ}
use Rattle.constants.specs.Sizes.{frame_size}
use Rattle.constants.specs.Numbers.{taken, frame_byte_above}
use Rattle.picture.specs.Draw.{draw}
use Rattle.differences.specs.Compare.{compare_frames, number_of}
use Rattle.differences.specs.Given.{Above}

pub record DrawnFrames : Type 0 where
  -- none of its bytes is above 1
  pub none : (state memory was : List ℕ) → (draw state memory was).number ≡ taken → Above frame_size (draw state memory was).frame → ⊥
  -- so two of them are never refused 12
  pub never : (state memory was state' memory' was' list : List ℕ) → (draw state memory was).number ≡ taken → (draw state' memory' was').number ≡ taken
      → number_of (compare_frames (draw state memory was).frame (draw state' memory' was').frame list).answer ≢ frame_byte_above
