-- What was read is at the start of the buffer, as its users ask it.
-- Assumes nothing.
use Prim.Native.Nat.{ℕ}
use mathlib.Core.Path.{◌≡◌}
use mathlib.Core.List.{List}
use Rattle.std.specs.Prelude.{Result, Ok}
use Rattle.standardinput.specs.Counts.{IsPrefixLen}
use Rattle.standardinput.specs.Input.{input_of, count_of}

pub read_counts : {E : Type 0} (answer : Result ℕ E) (count : ℕ) (buffer : List ℕ) → IsPrefixLen (count_of (input_of answer)) buffer → answer ≡ Ok count → IsPrefixLen count buffer
read_counts answer count buffer counted read = rw read at counted
