-- `framelisting::text::Text::put_small_run` meets its contract: four pieces one after the other.
use native.Mathlib.Omega.{arith}
use Rattle.framelisting.specs.Ascii.{ascii}
use Rattle.framelisting.specs.Text.{run_text}
use Rattle.framelisting.proofs.PutPieces.{joined, puts_length}
use Rattle.framelisting.proofs.SmallNumbers.{small_length}
use Rattle.framelisting.proofs.text.Text.put_small_run.Goals as goal

pub put_inside-requires-2 : goal.put_inside-requires-2
put_inside-requires-2 c =
    omega (arith, small_length c.args.first c.requires.0, puts_length c.put_inside.ensures, puts_length c.put_small.ensures)

pub put_small-requires-2 : goal.put_small-requires-2
put_small-requires-2 c =
    (c.requires.1, omega (arith, small_length c.args.first c.requires.0, puts_length c.put_inside.ensures, puts_length c.put_small.ensures, puts_length c.put_inside-2.ensures))

pub returns : goal.returns
unfolding run_text ascii
returns c =
    joined (joined (joined c.put_inside.ensures c.put_small.ensures) c.put_inside-2.ensures) c.put_small-2.ensures
