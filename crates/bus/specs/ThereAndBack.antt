-- Image and registers are told apart by their form alone: they convert there and back without loss.
use Rattle.std.specs.Prelude.{ℕ, ◌≤◌, ◌≡◌, List, ◌++◌, length, drop, set}
use Rattle.constants.specs.Sizes.{image_size}
use Rattle.bus.specs.Registers.{image_of, registers_of, ◌with◌≔◌}
use Rattle.bus.specs.declared.registers.Registers.{Registers}

pub record ThereAndBack : Type 0 where
  -- An image has 23 bytes.
  pub size : (r : Registers) → length (image_of r) ≡ image_size
  -- The registers of an image of registers are these.
  pub registers_back : (r : Registers) → registers_of (image_of r) ≡ r
  -- The image of a lent state's registers is its first 23 bytes.
  pub image_back : (state : List ℕ) → image_size ≤ length state → image_of (registers_of state) ++ drop image_size state ≡ state
  -- One register set is one byte of the image set, and no other.
  pub one_set : (r : Registers) (place value : ℕ) → image_of (r with place ≔ value) ≡ set (image_of r) place value
