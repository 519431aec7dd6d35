-- Document 02, Order 3: the module that hangs upside down. Both directions turned are half a turn of the rows in use, and of all panel rows where M is even and the offset is 0; the icon line stays, mirrored.
use Rattle.std.specs.Prelude.{ℕ, ◌+◌, ◌-◌, ◌%◌, ◌<◌, ◌≡◌, true, List}
use Rattle.constants.specs.Sizes.{width, height}
use Rattle.bus.specs.Places.{column_direction, row_direction}
use Rattle.bus.specs.Registers.{image_of, ◌with◌≔◌}
use Rattle.bus.specs.Image.{legal}
use Rattle.bus.specs.Directions.{undirected}
use Rattle.bus.specs.declared.registers.Registers.{Registers}
use Rattle.picture.specs.Rows.{rows_in_use}
use Rattle.picture.specs.Frame.{frame, place_of}
use Rattle.picture.specs.FrameRules.{com_at}

-- What stands in row y at segment x of the frame of these registers upside down, and upright.
abbrev pub upside_down : Registers → List ℕ → ℕ → ℕ → ℕ
upside_down r memory y x = place_of width y x (frame (r with column_direction ≔ 1 with row_direction ≔ 1) memory)

abbrev pub upright : Registers → List ℕ → ℕ → ℕ → ℕ
upright r memory y x = place_of width y x (frame (undirected r) memory)

pub record HalfTurn (r : Registers) (memory : List ℕ) : Type 0 where
  -- A row in use shows what that row shows upright whose COM is as far from the last COM in use as its own is from the first; left and right are exchanged.
  pub in_use : (p q x : ℕ) → p < height → q < height → x < width → com_at r p + com_at r q + 1 ≡ rows_in_use r → upside_down r memory p x ≡ upright r memory q (131 - x)
  -- Offset 0 and M even: panel row p shows what panel row 63 - p shows upright.
  pub panel_rows : r.offset ≡ 0 → rows_in_use r % 2 ≡ 0 → (p x : ℕ) → p < height → x < width → upside_down r memory p x ≡ upright r memory (63 - p) (131 - x)
  -- The icon line stays where it is; left and right are exchanged.
  pub icons : (x : ℕ) → x < width → upside_down r memory height x ≡ upright r memory height (131 - x)

-- For legal registers and any memory.
abbrev pub HalfTurns : Type 0
HalfTurns = (r : Registers) → legal (image_of r) ≡ true → (memory : List ℕ) → HalfTurn r memory
