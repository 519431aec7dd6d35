-- `widebus::page::page` meets its contract: the page of the side's memory, past both lengths and the page's number.
use mathlib.Core.Path.{◌≡◌, refl}
use Prim.Native.Nat.{◌+◌, ◌*◌, ◌-◌}
use native.Mathlib.Omega.{arith}
use borrow.Author.Tests.{lt-ltb, le-ltb}
use Rattle.constants.specs.Sizes.{width}
use Rattle.widebus.specs.Page.{page_in, page_of}
use Rattle.widebus.proofs.page.page.Goals as goal
use Rattle.widebus.proofs.page.page.Goals.{in-Left, in-Right}

pub returns : goal.returns
unfolding page_of page_in
returns c =
    let start = c.from-start.result * width in
    let long : start + width - start ≡ width = omega arith in
    rw (long, c.from-start.ensures, le-ltb _ _ c.if-left-lt-MEMORY_SIZE.false, le-ltb _ _ c.if-right-lt-MEMORY_SIZE.false, lt-ltb _ _ c.if-page-ge-PAGES.false)
    (elim c.match-side.branch [ in-Left w ↦ rw (w.memory-is, w.in-Left.is) refl | in-Right w ↦ rw (w.memory-is, w.in-Right.is) refl ])
