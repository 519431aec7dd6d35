-- `listpack::list_entry` is safe and ends: the listing is within its buffer.
use mathlib.Core.Path.{sym}
use lib.Seq.{length-take-le}
use Rattle.tracelisting.proofs.LentBuffer.{within_text}
use Rattle.listpack.proofs.list_entry.Goals as goal

pub slice_bounds-text-end : goal.slice_bounds-text-end
slice_bounds-text-end g c = within_text _ _ _ _ c.list_input-length.ensures

pub slice_bounds-write_all-end-3 : goal.slice_bounds-write_all-end-3
slice_bounds-write_all-end-3 g c = sym (length-take-le _ _ (within_text _ _ _ _ c.list_input-length.ensures))
