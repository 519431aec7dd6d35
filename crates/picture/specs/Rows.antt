-- The numbers that this chip's scan goes by: document 01, "The frame", and document 02, Order 2.
use Rattle.std.specs.Prelude.{ℕ, ◌+◌, ◌-◌, ◌/◌}
use Rattle.constants.specs.Sizes.{height}
use Rattle.bus.specs.declared.registers.Registers.{Registers}
use Rattle.picture.specs.Scan.{Scan}

-- M, the dot rows in use.
abbrev pub rows_in_use : Registers → ℕ
rows_in_use r = r.multiplex + 1

-- t, the rows above the band where the offset is 0: (64 - M) / 2 rounded down; 0 for the M above 64 of registers out of their ranges.
abbrev pub rows_above : Registers → ℕ
rows_above r = (height - rows_in_use r) / 2

-- Panel row p belongs to COM (p + offset - t) modulo 64 (Order 2): the shift is offset - t, counted on by 64, since a natural number does not go below 0.
abbrev pub shift : Registers → ℕ
shift r = r.offset + height - rows_above r

abbrev pub scan_of : Registers → Scan
scan_of r = record { size = height; in_use = rows_in_use r; shift = shift r; start = r.start; direction = r.row_direction }
