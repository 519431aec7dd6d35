-- `framelisting::text::Text::put_run` meets its contract: one place, two at once, or four pieces one after the other.
use Rattle.framelisting.specs.Ascii.{ascii}
use Rattle.framelisting.specs.Text.{run_text}
use Rattle.framelisting.proofs.PutPieces.{joined}
use Rattle.framelisting.proofs.text.Text.put_run.Goals as goal

pub returns : goal.returns
unfolding run_text ascii
returns c =
    joined (joined (joined c.put.ensures c.put_number.ensures) c.put-2.ensures) c.put_number-2.ensures
