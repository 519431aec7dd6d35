-- `bus::pieces::dummy_reads` meets its contract: the test as a number.
use mathlib.Core.Path.{◌≡◌, refl}
use mathlib.Core.Bool.{Bool, true, false, cond}
use native.Mathlib.Omega.{arith}
use lib.Dec.{eqb}
use mir.Val.{bool_byte}
use Rattle.bus.specs.Reads.{dummy_reads}
use Rattle.bus.proofs.pieces.dummy_reads.Goals as goal

as_number : (test : Bool) → bool_byte test ≡ cond test 1 0
as_number true = refl
as_number false = refl

pub returns : goal.returns
unfolding dummy_reads
returns c = omega (arith, c.from.ensures, as_number (eqb c.args.fresh 1))
