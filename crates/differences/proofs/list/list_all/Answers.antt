-- `differences::list::list_all` meets its contract: 11 where the buffer is too small for all entries, and else they all stand in it.
use Prim.Native.Nat.{◌/◌}
use mathlib.Core.Path.{sym, ◌∙◌}
use native.Mathlib.Omega.{arith}
use borrow.Author.Tests.{ltb-true, ltb-false}
use Rattle.constants.specs.Sizes.{width}
use Rattle.differences.proofs.Along.{rows_whole}
use Rattle.differences.proofs.Listed.{listed_not}
use Rattle.differences.proofs.PutEntries.{put_listed}
use Rattle.differences.proofs.list.list_all.Goals as goal

pub too_small-requires : goal.too_small-requires
too_small-requires g c =
    let chunks = c.requires.chunks in
    (omega (arith, chunks.4), ((rows_whole g.row.BYTES g.row.CHUNK (g.row.CHUNK / width) (g.row.BYTES / g.row.CHUNK) chunks.1 chunks.0, chunks.4), c.requires.longest))

pub returns-then-too_small : goal.returns-then-too_small
returns-then-too_small g c = sym (listed_not g.E.Entry.SIZE g.E.Entry.bytes g.met.E.Entry.sized _ _ (ltb-true _ _ (sym c.too_small.ensures ∙ c.if-too_small.true)))

pub returns : goal.returns
returns g c = put_listed g.E.Entry.SIZE g.E.Entry.bytes g.met.E.Entry.sized c.put_all.ensures (ltb-false _ _ (sym c.too_small.ensures ∙ c.if-too_small.false))
