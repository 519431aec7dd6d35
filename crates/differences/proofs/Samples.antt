-- Comparisons that are worked out: the definitions compute to what was worked out by hand.
-- Assumes nothing.
use mathlib.Core.Path.{refl}
use Rattle.bus.specs.Memory.{kept}
use Rattle.picture.specs.Frame.{row_of}
use Rattle.differences.specs.ByRows.{by_rows}
use Rattle.differences.specs.Runs.{alike, goes_on, begins, more, runs_from, runs_in}
use Rattle.differences.specs.Bytes.{bytes_from, bytes_of}
use Rattle.differences.specs.Entries.{run_entry, byte_entry, entries}
use Rattle.differences.specs.Compare.{listed, any_above, compare_frames, compare_memories}
use Rattle.differences.specs.Samples.{Samples}

pub samples : Samples
unfolding kept row_of by_rows alike goes_on begins more runs_from runs_in bytes_from bytes_of run_entry byte_entry entries listed any_above compare_frames compare_memories
samples = record { two_rows = refl; icon = refl; longer = refl; seam = refl; too_few = refl; above = refl; past_above = refl; short = refl; bytes = refl; bytes_too_few = refl; bytes_short = refl }
