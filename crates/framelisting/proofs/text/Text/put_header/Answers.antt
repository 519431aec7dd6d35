-- `framelisting::text::Text::put_header` meets its contract: three pieces one after the other.
use native.Mathlib.Omega.{arith}
use Rattle.framelisting.specs.Ascii.{ascii}
use Rattle.framelisting.proofs.PutPieces.{as_number, joined}
use Rattle.framelisting.proofs.LengthsOfText.{header_pieces}
use Rattle.framelisting.proofs.text.Text.put_header.Goals as goal

pub returns : goal.returns
unfolding ascii
returns c =
    rw (header_pieces c.args.width) (joined (joined c.put_bytes.ensures (as_number _ c.args.width c.put_number.ensures (omega arith))) c.put_bytes-2.ensures)
