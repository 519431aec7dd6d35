-- What registers tell of a whole frame. Document 01, "The frame": "Entire on lights all rows in use and the icons, reverse or no. Display off makes all 8,580 dark, before any other rule."
use Rattle.std.specs.Prelude.{ℕ, ◌≡◌, List, Option, Some, None, replicate}
use Rattle.constants.specs.Sizes.{frame_size}
use Rattle.bus.specs.declared.registers.Registers.{Registers}
use Rattle.picture.specs.Frame.{frame}

-- What registers tell of a chip's whole frame: all its places are one shade, 0 dark or 1 lit; or nothing.
pub data Shade : Type 0 where
  All : ℕ → Shade
  Untold : Shade

-- Code has a shade, or none.
abbrev pub told_of : Option ℕ → Shade
told_of (Some shade) = Shade.All shade
told_of None = Shade.Untold

-- A shade that registers tell is that of all 8,580 places, whatever is in the memory.
abbrev pub Tells : Registers → Shade → Type 0
Tells r told = (shade : ℕ) → told ≡ Shade.All shade → (memory : List ℕ) → frame r memory ≡ replicate frame_size shade
