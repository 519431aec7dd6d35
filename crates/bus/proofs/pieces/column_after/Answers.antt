-- `bus::pieces::column_after` meets its contract: each return by its test.
use mathlib.Core.Path.{◌≡◌}
use mathlib.Core.Logic.{◌≢◌}
use Prim.Native.Nat.{◌+◌}
use native.Mathlib.Omega.{arith}
use borrow.Author.Tests.{eq-eqb, ne_eqb}
use Rattle.constants.specs.Sizes.{width}
use Rattle.bus.specs.Reads.{column_at}
use Rattle.bus.proofs.pieces.column_after.Goals as goal

pub returns-then-end-eq-WIDTH : goal.returns-then-end-eq-WIDTH
unfolding column_at
returns-then-end-eq-WIDTH c =
    let at_end : c.args.column + c.args.size ≡ width = omega arith in
    rw (eq-eqb _ _ at_end)

pub returns-else-end-eq-WIDTH : goal.returns-else-end-eq-WIDTH
unfolding column_at
returns-else-end-eq-WIDTH c =
    let before : c.args.column + c.args.size ≢ width = λ e. omega arith in
    rw (ne_eqb _ _ before) (omega arith)
