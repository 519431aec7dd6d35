-- `picture::row::shown_bits` meets its contract: the page as it is shown has the row's bits.
use native.Mathlib.Omega.{arith}
use Rattle.picture.proofs.Upright.{row_bits}
use Rattle.picture.proofs.row.shown_bits.Goals as goal

pub returns : goal.returns
returns c =
    let a = c.args in
    row_bits a.registers a.memory.now a.row (omega (arith, c.page.ensures)) (omega (arith, c.bit.ensures)) c.shown_page-page.ensures c.bits_of.ensures
