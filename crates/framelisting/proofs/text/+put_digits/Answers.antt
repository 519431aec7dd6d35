-- `framelisting::text::put_digits` meets its contract: the digits of the tenth part, and then the last one.
use Rattle.std.proofs.Common.{rules}
use Prim.Native.Nat.{◌+◌, ◌/◌, ◌%◌}
use mathlib.Core.List.{[], ◌∷◌}
use mathlib.Core.Path.{ap}
use native.Mathlib.Omega.{arith}
use lib.ListN.{length}
use Rattle.framelisting.specs.Decimal.{decimal}
use Rattle.framelisting.proofs.PutPieces.{after, as_put, room, room_after}
use Rattle.framelisting.proofs.PlainDecimal.{one_digit, more_digits}
use Rattle.framelisting.proofs.text.+put_digits.Goals as goal

pub put-requires : goal.put-requires
put-requires t c =
    omega (arith, c.requires, ap length (one_digit c.args.number c.if-number-lt10.true))

pub returns-then-number-lt10 : goal.returns-then-number-lt10
returns-then-number-lt10 t c = rw (one_digit c.args.number c.if-number-lt10.true) (let put = as_put c.put.ensures in let same = c.put.ensures.same in search rules)

pub put_digits-next-requires : goal.put_digits-next-requires
put_digits-next-requires t c =
    let number = c.args.number in
    (omega (arith, c.if-number-lt10.false, c.decreases), room c.args.at (decimal (number / 10)) ((48 + number % 10) ∷ []) (rw (more_digits number c.if-number-lt10.false c.ranges.number.fits) at c.requires))

pub put-requires-2 : goal.put-requires-2
put-requires-2 t c =
    room_after c.put_digits-next.ensures _ (rw (more_digits c.args.number c.if-number-lt10.false c.ranges.number.fits) at c.requires)

pub returns : goal.returns
returns t c =
    rw (more_digits c.args.number c.if-number-lt10.false c.ranges.number.fits) (let put = after c.put_digits-next.ensures (as_put c.put-2.ensures) in let same = c.put-2.ensures.same in search rules)
