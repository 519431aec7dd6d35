-- `bus::stretch::reset_pin` meets its contract: one event, which is taken and gives the power-on state.
use Rattle.bus.specs.Chip.{step}
use Rattle.bus.specs.Recorded.{happened, replay}
use Rattle.bus.specs.Stretch.{stretch}
use Rattle.bus.proofs.stretch.reset_pin.Goals as goal

pub returns : goal.returns
unfolding stretch replay happened step
returns c = λ memory. rw (c.halted.ensures, ← c.reset_pin.ensures)
