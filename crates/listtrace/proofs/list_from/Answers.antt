-- `listtrace::list_from` is safe and ends: what was read and what it prints are within their buffers.
use mathlib.Core.Path.{sym}
use lib.Seq.{length-take-le}
use Rattle.standardinput.proofs.Reading.{read_counts}
use Rattle.tracelisting.proofs.LentBuffer.{within_text}
use Rattle.listtrace.proofs.list_from.Goals as goal

pub slice_bounds-text-end : goal.slice_bounds-text-end
slice_bounds-text-end g c = within_text _ _ _ _ c.list_input-length.ensures

pub slice_bounds-write_all-end : goal.slice_bounds-write_all-end
slice_bounds-write_all-end g c = sym (length-take-le _ _ (within_text _ _ _ _ c.list_input-length.ensures))
