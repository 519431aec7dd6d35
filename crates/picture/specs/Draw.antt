-- The call that draws: its whole outcome as one function of what is lent.
use Rattle.std.specs.Prelude.{ℕ, cond, List, ◌++◌, ltb, length, drop}
use Rattle.constants.specs.Numbers.{taken, too_short}
use Rattle.bus.specs.Image.{asked}
use Rattle.bus.specs.Answer.{Asked}
use Rattle.constants.specs.Sizes.{frame_size}
use Rattle.picture.specs.Frame.{frame}

-- The number that the call answers, and the lent frame that it leaves.
pub record Drawn : Type 0 where
  pub number : ℕ
  pub frame : List ℕ

abbrev pub drawn : ℕ → List ℕ → Drawn
drawn answer later = record { number = answer; frame = later }

-- Drawing on what was asked first; bytes of the lent frame past its needed length never change.
unfoldable pub draw_on : Asked → List ℕ → List ℕ → Drawn
draw_on (Asked.Found r) memory was = drawn taken (frame r memory ++ drop frame_size was)
draw_on (Asked.Refused number) memory was = drawn number was

-- 1 where the lent frame is too short, else what state and memory are asked; a refusal writes nothing.
unfoldable pub draw : List ℕ → List ℕ → List ℕ → Drawn
draw state memory was = cond (ltb (length was) frame_size) (drawn too_short was) (draw_on (asked state memory) memory was)
