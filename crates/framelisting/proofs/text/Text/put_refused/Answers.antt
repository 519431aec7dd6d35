-- `framelisting::text::Text::put_refused` meets its contract: five pieces one after the other, or none.
use native.Mathlib.Omega.{arith}
use borrow.Author.Tests.{ne_eqb}
use Rattle.framelisting.specs.Ascii.{ascii}
use Rattle.framelisting.specs.Text.{refused_text}
use Rattle.framelisting.proofs.PutPieces.{nothing, as_number, joined}
use Rattle.framelisting.proofs.LengthsOfText.{taken_nothing}
use Rattle.framelisting.proofs.text.Text.put_refused.Goals as goal

pub returns-then-number-eq-TAKEN : goal.returns-then-number-eq-TAKEN
returns-then-number-eq-TAKEN c =
    let args = c.args in
    rw (taken_nothing args.number args.offset c.if-number-eq-TAKEN.true) (nothing _)

pub returns : goal.returns
unfolding refused_text ascii
returns c =
    rw (ne_eqb _ _ c.if-number-eq-TAKEN.false) (joined (joined (joined (joined c.put_bytes.ensures (as_number _ c.args.number c.put_number.ensures (omega (arith, c.from.ensures)))) c.put_bytes-2.ensures) c.put_number-2.ensures) c.put.ensures)
