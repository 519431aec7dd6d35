-- What drawing does not ask: document 01's "Settings that only act on these are held and draw nothing" and, of page 8, "drawing ignores the rest".
use Rattle.std.specs.Prelude.{ℕ, ◌*◌, ◌%◌, ◌<◌, ◌≡◌, false, List, [], ◌∷◌, get_or}
use Rattle.bus.specs.Image.{one_of}
use Rattle.constants.specs.Sizes.{width, icon_page}
use Rattle.bus.specs.Places.{page, column, contrast, ratio, power, bias, quarter, held, phases, indicator, mode, awaited, modify, saved, fresh}
use Rattle.bus.specs.Registers.{image_of}
use Rattle.bus.specs.Memory.{address}
use Rattle.bus.specs.declared.registers.Registers.{Registers}
use Rattle.picture.specs.Frame.{frame}

-- The registers that draw nothing: the settings that are only held, and what the bus keeps for itself.
abbrev pub draw_nothing : List ℕ
draw_nothing =
    contrast ∷ ratio ∷ power ∷ bias ∷ quarter ∷ held ∷ phases ∷ indicator ∷ mode ∷
    page ∷ column ∷ awaited ∷ modify ∷ saved ∷ fresh ∷ []

-- Two settings differ in no other register.
abbrev pub DrawAlike : Registers → Registers → Type 0
DrawAlike r s = (place : ℕ) → one_of draw_nothing place ≡ false → get_or (image_of r) place 0 ≡ get_or (image_of s) place 0

-- Two memories differ in nothing but bits 1 to 7 of the bytes of page 8.
pub record SameBits (memory other : List ℕ) : Type 0 where
  pub pages : (place : ℕ) → place < icon_page * width → get_or memory place 0 ≡ get_or other place 0
  pub icons : (column : ℕ) → column < width → get_or memory (address icon_page column) 0 % 2 ≡ get_or other (address icon_page column) 0 % 2

pub record Ignored : Type 0 where
  -- Two settings that differ in registers that draw nothing draw the same frame from every memory.
  pub settings : (r s : Registers) → DrawAlike r s → (memory : List ℕ) → frame r memory ≡ frame s memory
  -- Two memories that differ in bits 1 to 7 of page 8 are drawn as the same frame by every setting.
  pub rest_of_page8 : (r : Registers) (memory other : List ℕ) → SameBits memory other → frame r memory ≡ frame r other
