-- The registers as code names them, and the places that document 01 gives them.
use Rattle.std.specs.Prelude.{ℕ}
use Rattle.bus.specs.Places as places
use Rattle.bus.specs.declared.places.Place.{Place}

-- The place of a register in the image.
abbrev pub place_of : Place → ℕ
place_of Place.Page = places.page
place_of Place.Column = places.column
place_of Place.Start = places.start_line
place_of Place.Offset = places.offset
place_of Place.Multiplex = places.multiplex
place_of Place.Contrast = places.contrast
place_of Place.Ratio = places.ratio
place_of Place.Power = places.power
place_of Place.Bias = places.bias
place_of Place.Quarter = places.quarter
place_of Place.Held = places.held
place_of Place.Phases = places.phases
place_of Place.ColumnDirection = places.column_direction
place_of Place.RowDirection = places.row_direction
place_of Place.Entire = places.entire
place_of Place.Reverse = places.reverse
place_of Place.On = places.on
place_of Place.Indicator = places.indicator
place_of Place.Mode = places.mode
place_of Place.Awaited = places.awaited
place_of Place.Modify = places.modify
place_of Place.Saved = places.saved
place_of Place.Fresh = places.fresh
