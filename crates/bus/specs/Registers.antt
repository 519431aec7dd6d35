-- Document 01, "Registers": the image, the ranges, power-on, and what it is to set one register.
use Rattle.std.specs.Prelude.{ℕ, cond, ◌&&◌, List, [], ◌∷◌, map, eqb, get_or, set}
use Rattle.bus.specs.Places.{page, column, start_line, offset, multiplex, contrast, ratio, power, bias, quarter, held, phases, column_direction, row_direction, entire, reverse, on, indicator, mode, awaited, modify, saved, fresh}
use Rattle.bus.specs.declared.registers.Registers.{Registers}
use Rattle.bus.specs.declared.registers.PowerState.{PowerState}

-- The image of the registers.
abbrev pub image_of : Registers → List ℕ
image_of r =
    r.page ∷
    r.column ∷
    r.start ∷
    r.offset ∷
    r.multiplex ∷
    r.contrast ∷
    r.ratio ∷
    r.power ∷
    r.bias ∷
    r.quarter ∷
    r.held ∷
    r.phases ∷
    r.column_direction ∷
    r.row_direction ∷
    r.entire ∷
    r.reverse ∷
    r.on ∷
    r.indicator ∷
    r.mode ∷
    r.awaited ∷
    r.modify ∷
    r.saved ∷
    r.fresh ∷
    []

-- The registers of an image.
abbrev pub registers_of : List ℕ → Registers
registers_of image =
    record {
      page = get_or image page 0;
      column = get_or image column 0;
      start = get_or image start_line 0;
      offset = get_or image offset 0;
      multiplex = get_or image multiplex 0;
      contrast = get_or image contrast 0;
      ratio = get_or image ratio 0;
      power = get_or image power 0;
      bias = get_or image bias 0;
      quarter = get_or image quarter 0;
      held = get_or image held 0;
      phases = get_or image phases 0;
      column_direction = get_or image column_direction 0;
      row_direction = get_or image row_direction 0;
      entire = get_or image entire 0;
      reverse = get_or image reverse 0;
      on = get_or image on 0;
      indicator = get_or image indicator 0;
      mode = get_or image mode 0;
      awaited = get_or image awaited 0;
      modify = get_or image modify 0;
      saved = get_or image saved 0;
      fresh = get_or image fresh 0;
    }

infixl 20 ◌with◌≔◌
-- The registers with the one at a place set to a value.
abbrev pub ◌with◌≔◌ : Registers → ℕ → ℕ → Registers
r with place ≔ value = registers_of (set (image_of r) place value)

-- The register at a place: the largest value that it may hold, and its value at power-on.
pub record Range : Type 0 where
  pub place : ℕ
  pub largest : ℕ
  pub at_power_on : ℕ

abbrev pub range : ℕ → ℕ → ℕ → Range
range register most start = record { place = register; largest = most; at_power_on = start }

-- The ranges in the image's order, which decides; TablesAgree.antt says that each stands at its place. Image.antt has what more is asked of the awaited code and the saved column.
unfoldable pub ranges : List Range
ranges =
    range page 8 0 ∷
    range column 255 0 ∷
    range start_line 63 0 ∷
    range offset 63 0 ∷
    range multiplex 63 63 ∷
    range contrast 63 32 ∷
    range ratio 7 4 ∷
    range power 7 0 ∷
    range bias 1 0 ∷
    range quarter 1 0 ∷
    range held 255 0 ∷
    range phases 3 0 ∷
    range column_direction 1 0 ∷
    range row_direction 1 0 ∷
    range entire 1 0 ∷
    range reverse 1 0 ∷
    range on 1 0 ∷
    range indicator 1 0 ∷
    range mode 3 0 ∷
    range awaited 255 0 ∷
    range modify 1 0 ∷
    range saved 255 0 ∷
    range fresh 1 1 ∷
    []

-- The largest value of each register.
unfoldable pub largest_values : List ℕ
unfolding ranges
largest_values = map (λ r. r.largest) ranges

-- The registers at power-on.
unfoldable pub power_on : Registers
unfolding ranges
power_on = registers_of (map (λ r. r.at_power_on) ranges)

-- Display off with entire on is power save: sleep with the indicator off, standby with it on.
unfoldable pub power_state : Registers → PowerState
power_state r = cond (eqb r.on 0 && eqb r.entire 1) (cond (eqb r.indicator 1) PowerState.Standby PowerState.Sleep) PowerState.Awake
