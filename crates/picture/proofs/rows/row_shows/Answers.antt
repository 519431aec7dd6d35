-- `picture::rows::row_shows` meets its contract: the tests are the definition's.
use mathlib.Core.Path.{sym, ◌∙◌}
use native.Mathlib.Omega.{arith}
use native.Mathlib.Nat.{mod-lt}
use borrow.Author.Tests.{lt-ltb, le-ltb, ltb-true}
use Rattle.picture.specs.Scan.{com_of, used, panel_shows, row_shows}
use Rattle.picture.specs.Rows.{rows_in_use}
use Rattle.picture.proofs.rows.row_shows.Goals as goal

pub shows-requires : goal.shows-requires
unfolding used com_of
shows-requires c =
    let k = c.belongs_to-com.result.0 in
    let r = c.args.registers in
    (omega (arith, ltb-true k (rows_in_use r) (sym c.used.ensures ∙ c.if-used.true)), rw c.belongs_to-com.ensures (mod-lt _ (omega arith)))

pub returns-then-used : goal.returns-then-used
unfolding row_shows panel_shows
returns-then-used c =
    rw (lt-ltb _ _ c.if-row-lt-HEIGHT.true, ← c.belongs_to-com.ensures, ← c.used.ensures, c.if-used.true, c.shows.ensures)

pub returns-then-row-lt-HEIGHT : goal.returns-then-row-lt-HEIGHT
unfolding row_shows panel_shows
returns-then-row-lt-HEIGHT c =
    rw (lt-ltb _ _ c.if-row-lt-HEIGHT.true, ← c.belongs_to-com.ensures, ← c.used.ensures, c.if-used.false)

pub returns : goal.returns
unfolding row_shows
returns c = rw (le-ltb _ _ c.if-row-lt-HEIGHT.false)
