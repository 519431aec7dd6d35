-- What can be said of reading: no statement can say which bytes standard input holds.
use Rattle.std.specs.Prelude.{ℕ, Result, Ok, Err}

-- What reading gave: how many bytes stand at the start of the buffer, or that a read failed.
pub data Input : Type 0 where
  Read : ℕ → Input
  Failed : Input

-- The same, of what the code's call answers.
abbrev pub input_of : {E : Type 0} → Result ℕ E → Input
input_of (Ok count) = Input.Read count
input_of (Err error) = Input.Failed

-- The bytes that were read.
abbrev pub count_of : Input → ℕ
count_of (Input.Read count) = count
count_of Input.Failed = 0
