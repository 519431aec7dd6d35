-- Why some laws take bytes below 256: the definitions speak of numbers, and a number of 256 or more is no byte (A9 would hold it, and leave its range). Every u8 is below 256, so that each byte that a call is given, and each slice that it is lent, meets what is asked here.
use Rattle.std.specs.Prelude.{ℕ, ◌<◌, List, [], ◌∷◌}
use Rattle.bus.specs.Chip.{Event, command_byte, data_written, data_read, reset_pulse}

-- Each of a list has the property.
abbrev pub All : {A : Type 0} → (A → Type 0) → List A → Type 0
All P [] = Unit {0}
All P (a ∷ rest) = P a × All P rest

-- A list of bytes.
abbrev pub Bytes : List ℕ → Type 0
Bytes = All (λ (b : ℕ). b < 256)

-- An event whose byte, if it brings one, is a byte.
abbrev pub IsByte : Event → Type 0
IsByte (command_byte b) = b < 256
IsByte (data_written b) = b < 256
IsByte data_read = Unit {0}
IsByte reset_pulse = Unit {0}
