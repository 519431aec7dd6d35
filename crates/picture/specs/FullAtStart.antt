-- Document 02, Order 3: "Demands 2 and 3 speak of any starting state." Demand 3 speaks of any registers that are `Full`; either start is so once the display is on.
use Rattle.bus.specs.Places.{on}
use Rattle.bus.specs.Registers.{◌with◌≔◌}
use Rattle.bus.specs.Start.{registers_at_start}
use Rattle.bus.specs.declared.start.Hung.{Hung}
use Rattle.picture.specs.Demand3.{Full}

abbrev pub FullAtStart : Type 0
FullAtStart = (hung : Hung) → Full (registers_at_start hung with on ≔ 1)
