-- The two starts: the registers and the memory that a host and the listing program begin with.
use Rattle.std.specs.Prelude.{ℕ, cond, List, ◌++◌, drop, replicate}
use Rattle.constants.specs.Sizes.{memory_size}
use Rattle.constants.specs.Numbers.{taken, too_short}
use Rattle.bus.specs.Places.{column_direction, row_direction}
use Rattle.bus.specs.Registers.{power_on, ◌with◌≔◌}
use Rattle.bus.specs.Image.{short, stored}
use Rattle.bus.specs.declared.registers.Registers.{Registers}
use Rattle.bus.specs.declared.start.Hung.{Hung}

-- Document 02, Order 3: new cabinets hang the module upside down, and begin with column direction 1 and row direction 1. Old ones hang it upright, and begin at power-on.
abbrev pub registers_at_start : Hung → Registers
registers_at_start Hung.UpsideDown = power_on with column_direction ≔ 1 with row_direction ≔ 1
registers_at_start Hung.Upright = power_on

-- The memory is zero.
abbrev pub memory_at_start : List ℕ
memory_at_start = replicate memory_size 0

-- What the start answers, and the state and memory that it leaves.
pub record Started : Type 0 where
  pub number : ℕ
  pub state : List ℕ
  pub memory : List ℕ

abbrev pub started : ℕ → List ℕ → List ℕ → Started
started answer later left = record { number = answer; state = later; memory = left }

-- The registers' image and the memory stand in what is lent, the bytes past them as they were; nothing changes where one is too short.
unfoldable pub start_of : Hung → List ℕ → List ℕ → Started
start_of hung state memory =
    cond (short state memory) (started too_short state memory) (started taken (stored (registers_at_start hung) state) (memory_at_start ++ drop memory_size memory))
