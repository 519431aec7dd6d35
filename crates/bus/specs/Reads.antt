-- A stretch of reads, from an offset on; what comes first of it, and the column where a piece of it ends.
use Rattle.std.specs.Prelude.{ℕ, ◌≤◌, ◌≡◌, cond, List, map, eqb, drop, length}
use Rattle.constants.specs.Sizes.{width}
use Rattle.bus.specs.Chip.{Chip}
use Rattle.bus.specs.Recorded.{read_as, chip_of, replay}
use Rattle.bus.specs.Stretch.{Stretched, counted_on, stretch}
use Rattle.bus.specs.declared.registers.Registers.{Registers}
use Rattle.bus.specs.declared.pieces.Passed.{Passed}

-- The reads from an offset on, with those before it taken.
abbrev pub reads_from : ℕ → List ℕ → Chip → Stretched Chip
reads_from at bytes c = counted_on at (stretch replay (map read_as (drop at bytes)) c)

-- So many reads are as the firmware read them, and the others go on from the registers after those.
abbrev pub PassedOver : Passed → Registers → List ℕ → List ℕ → Type 0
PassedOver passed r memory bytes = (passed.count ≤ length bytes) × (stretch replay (map read_as bytes) (chip_of r memory) ≡ reads_from passed.count bytes (chip_of passed.registers memory))

-- The dummy read comes first where fresh is 1, and it leaves 0.
unfoldable pub dummy_reads : ℕ → ℕ
dummy_reads fresh = cond (eqb fresh 1) 1 0

unfoldable pub after_dummy : ℕ → ℕ
after_dummy fresh = cond (eqb fresh 1) 0 fresh

-- The column at a place of the page, which may be the page's end: after 131 comes 0.
unfoldable pub column_at : ℕ → ℕ
column_at place = cond (eqb place width) 0 place
