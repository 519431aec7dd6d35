-- `framelisting::text::Text::put_line` meets its contract: three pieces one after the other, or none.
use Rattle.framelisting.specs.Ascii.{ascii}
use Rattle.framelisting.specs.Text.{line}
use Rattle.framelisting.proofs.PutPieces.{nothing, joined}
use Rattle.framelisting.proofs.text.Text.put_line.Goals as goal

pub returns-then-any_lit : goal.returns-then-any_lit
unfolding line ascii
returns-then-any_lit c =
    rw (← c.any_lit.ensures, c.if-any_lit.true) (joined (joined c.put_number.ensures c.put_runs.ensures) c.put.ensures)

pub returns-else-any_lit : goal.returns-else-any_lit
unfolding line
returns-else-any_lit c = rw (← c.any_lit.ensures, c.if-any_lit.false) (nothing _)
