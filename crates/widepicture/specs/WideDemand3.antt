-- Document 02, Order 4: "demand 3 holds for each half". Document 00's demand 3 over the very definition of the wide frame that drawing meets, for the chip on either side, whatever the other chip is.
use Rattle.std.specs.Prelude.{ℕ, ◌+◌, ◌%◌, ◌≤◌, ◌<◌, ◌≡◌, ◌≢◌, ◌↔◌, List, length}
use Rattle.constants.specs.Sizes.{width, memory_size, height, frame_rows, wide_width}
use Rattle.bus.specs.Memory.{address}
use Rattle.bus.specs.Chip.{Chip}
use Rattle.bus.specs.Recorded.{chip_of}
use Rattle.bus.specs.declared.registers.Registers.{Registers}
use Rattle.picture.specs.Scan.{ram_row}
use Rattle.picture.specs.Frame.{bit, turned, place_of}
use Rattle.picture.specs.Demand3.{Full, flipped, raised, Content, Agree}
use Rattle.widebus.specs.Pair.{Pair, ◌beside◌, opposite, chips_of}
use Rattle.widebus.specs.declared.both.Both.{Both}
use Rattle.widebus.specs.declared.selection.Side.{Side}
use Rattle.widepicture.specs.WideFrame.{wide_frame, first_column, half_row, half_of}

-- A chip on this side, and another on the opposite side.
abbrev pub on_side : Side → Chip → Chip → Pair Chip
on_side Side.Left chip other = chip beside other
on_side Side.Right chip other = other beside chip

-- The wide frame of the chip with these registers and this memory on a side, and of another on the opposite side.
abbrev pub wide_with : Side → Chip → Registers → List ℕ → List ℕ
wide_with side other r memory = wide_frame (on_side side (chip_of r memory) other)

-- A place of a row lies in a side's half.
abbrev pub InHalf : Side → ℕ → Type 0
InHalf side x = (first_column side ≤ x) × (x < first_column side + width)

-- A bit of a side's chip shows in row y at place x: flipping it changes that place, and no other of all 65 rows of 264, in every memory, whatever the other chip is.
pub record WideShowsAt (side : Side) (r : Registers) (row column y x : ℕ) : Type 0 where
  pub changes : (other : Chip) (memory : List ℕ) → memory_size ≤ length memory → place_of wide_width y x (wide_with side other r (flipped (ram_row row) column memory)) ≢ place_of wide_width y x (wide_with side other r memory)
  pub no_other : (other : Chip) (memory : List ℕ) → memory_size ≤ length memory → (y' x' : ℕ) → y' < frame_rows → x' < wide_width → ((y' ≡ y) × (x' ≡ x) → ⊥)
      → place_of wide_width y' x' (wide_with side other r (flipped (ram_row row) column memory)) ≡ place_of wide_width y' x' (wide_with side other r memory)

-- A place is lit exactly when a bit of a side's chip, turned round by reverse, is 1, in every memory, whatever the other chip is.
abbrev pub WideLitBy : Side → Registers → ℕ → ℕ → ℕ → ℕ → Type 0
WideLitBy side r row column y x = (other : Chip) (memory : List ℕ) → (place_of wide_width y x (wide_with side other r memory) ≡ 1) ↔ (turned r.reverse (bit address memory (ram_row row) column) ≡ 1)

-- A bit shows at exactly one place of the whole wide frame, which lies in its chip's half and is lit by it.
pub record WideOnePlace (side : Side) (r : Registers) (row column : ℕ) : Type 0 where
  pub y : ℕ
  pub x : ℕ
  pub y_in : y < frame_rows
  pub x_in : InHalf side x
  pub shows : WideShowsAt side r row column y x
  pub lit : WideLitBy side r row column y x
  pub only : (y' x' : ℕ) → y' < frame_rows → x' < wide_width → WideShowsAt side r row column y' x' → (y' ≡ y) × (x' ≡ x)

-- A place shows a bit of a side's chip, and is lit by it.
pub record WideSomeBit (side : Side) (r : Registers) (y x : ℕ) : Type 0 where
  pub row : ℕ
  pub column : ℕ
  pub row_in : row < frame_rows
  pub column_in : column < width
  pub shows : WideShowsAt side r row column y x
  pub lit : WideLitBy side r row column y x

-- Raising the start line of a side's chip by n moves the dot rows of its half up by n, round the 64, or down where its rows are reversed; its icon line stays, and so does the other half.
pub record WideScrolls (side : Side) (other : Chip) (r : Registers) (n : ℕ) (memory : List ℕ) : Type 0 where
  pub up : r.row_direction ≡ 0 → (p : ℕ) → p < height → half_row side p (wide_with side other (raised n r) memory) ≡ half_row side ((p + n) % height) (wide_with side other r memory)
  pub down : r.row_direction ≡ 1 → (p : ℕ) → p < height → half_row side ((p + n) % height) (wide_with side other (raised n r) memory) ≡ half_row side p (wide_with side other r memory)
  pub icons : half_row side height (wide_with side other (raised n r) memory) ≡ half_row side height (wide_with side other r memory)
  pub other_half : half_of (opposite side) (wide_with side other (raised n r) memory) ≡ half_of (opposite side) (wide_with side other r memory)

-- The demand.
pub record WideDemand3 : Type 0 where
  -- Each of the 8,580 memory bits of a chip shows at exactly one place of the wide frame, and each place of its half shows a bit.
  pub each_bit : (side : Side) (r : Registers) → Full r → (row column : ℕ) → row < frame_rows → column < width → WideOnePlace side r row column
  pub each_place : (side : Side) (r : Registers) → Full r → (y x : ℕ) → y < frame_rows → InHalf side x → WideSomeBit side r y x
  -- Raising the start line of a chip by any amount moves the rows of its half alone.
  pub scrolls : (side : Side) (other : Chip) (r : Registers) → Full r → (n : ℕ) (memory : List ℕ) → WideScrolls side other r n memory
  -- Two pairs of settings draw the same wide frame from all contents of both memories exactly when left agrees with left, and right with right.
  pub same : (first second : Both) → Full first.left → Full first.right → Full second.left → Full second.right
      → ((left_memory right_memory : List ℕ) → Content left_memory → Content right_memory → wide_frame (chips_of first left_memory right_memory) ≡ wide_frame (chips_of second left_memory right_memory))
      ↔ Agree first.left second.left × Agree first.right second.right
  -- Two settings of a chip draw the same wide frame from every content of its memory, whatever the other chip is, exactly when they agree.
  pub same_half : (side : Side) (other : Chip) (first second : Registers) → Full first → Full second
      → ((memory : List ℕ) → Content memory → wide_with side other first memory ≡ wide_with side other second memory) ↔ Agree first second
