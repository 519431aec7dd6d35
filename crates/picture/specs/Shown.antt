-- What a row of the frame shows: nothing, or the bits of a RAM row; and how code says so.
use Rattle.std.specs.Prelude.{Option, Some, None}
use Rattle.picture.specs.declared.rows.RamRow.{RamRow}

pub data Shown : Type 0 where
  Dark : Shown
  Ram : RamRow → Shown

-- Code has a RAM row, or none.
abbrev pub shown_of : Option RamRow → Shown
shown_of None = Shown.Dark
shown_of (Some row) = Shown.Ram row
