-- What the call that draws and the frame that it leaves come to, as document 01 says it.
use Rattle.std.specs.Prelude.{ℕ, ◌<◌, ◌≡◌, ◌≢◌, ◌↔◌, Bool, true, false, ◌||◌, List, ◌++◌, ltb, length, drop, replicate}
use Rattle.constants.specs.Sizes.{width, frame_rows, frame_size}
use Rattle.constants.specs.Numbers.{taken, too_short, out_of_range}
use Rattle.bus.specs.Registers.{registers_of}
use Rattle.bus.specs.Image.{short, legal}
use Rattle.bus.specs.declared.registers.Registers.{Registers}
use Rattle.picture.specs.Scan.{panel_row, row_shows}
use Rattle.picture.specs.Rows.{scan_of}
use Rattle.picture.specs.Frame.{segment, line, frame, row_of, place_of}
use Rattle.picture.specs.Draw.{draw}

-- A lent state, memory or frame is shorter than 23, 1,188, 8,580.
abbrev pub any_short : List ℕ → List ℕ → List ℕ → Bool
any_short state memory was = ltb (length was) frame_size || short state memory

pub record DrawCall (state memory was : List ℕ) : Type 0 where
  -- It answers 1 exactly when one of the three is too short,
  pub one : ((draw state memory was).number ≡ too_short) ↔ (any_short state memory was ≡ true)
  -- 2 exactly when none is, and the state image is out of its ranges,
  pub two : ((draw state memory was).number ≡ out_of_range) ↔ (any_short state memory was ≡ false) × (legal state ≡ false)
  -- and 0 exactly when none is, and the image is in its ranges.
  pub zero : ((draw state memory was).number ≡ taken) ↔ (any_short state memory was ≡ false) × (legal state ≡ true)
  -- Demand 1: it writes nothing when it refuses.
  pub refused : (draw state memory was).number ≢ taken → (draw state memory was).frame ≡ was
  -- Taken, it leaves the frame of the registers in the image and of the memory.
  pub drawn : (draw state memory was).number ≡ taken → (draw state memory was).frame ≡ frame (registers_of state) memory ++ drop frame_size was
  -- Bytes of the lent frame past its needed length never change.
  pub past : drop frame_size (draw state memory was).frame ≡ drop frame_size was

pub record DrawnFrame (r : Registers) (memory : List ℕ) : Type 0 where
  -- 8,580 bytes,
  pub size : length (frame r memory) ≡ frame_size
  -- 0 dark, 1 lit.
  pub dark_or_lit : (y x : ℕ) → y < frame_rows → x < width → place_of width y x (frame r memory) < 2
  -- Each panel row is drawn into its own 132 bytes of the frame, the icon line after them.
  pub own_row : (y : ℕ) → y < frame_rows → row_of width y (frame r memory) ≡ line width (segment r memory (row_shows (scan_of r) (panel_row y)))
  -- Display off makes all 8,580 dark, before any other rule.
  pub off : r.on ≡ 0 → frame r memory ≡ replicate frame_size 0

pub record Drawing : Type 0 where
  pub call : (state memory was : List ℕ) → DrawCall state memory was
  pub picture : (r : Registers) (memory : List ℕ) → DrawnFrame r memory
