-- `widepicture::draw::draw_both` meets its contract: one shade told of both chips, or the two halves.
use native.Mathlib.Omega.{arith}
use Rattle.widepicture.proofs.HalfRows.{halves_drawn}
use Rattle.widepicture.proofs.OneShade.{both_told}
use Rattle.widepicture.proofs.draw.draw_both.Goals as goal

pub returns-then-shade-other : goal.returns-then-shade-other
returns-then-shade-other c =
    let a = c.args in
    both_told a.registers a.left_memory.now a.right_memory.now a.places.now (omega arith) c.shade_of-left.ensures c.shade_of-right.ensures c.in-Some-Some.is-0 c.in-Some-Some.is-1 c.if-shade-other.true c.fill.ensures.after

pub returns : goal.returns
returns c = halves_drawn c.args.registers c.args.left_memory.now c.args.right_memory.now c.args.places.now (omega arith) c.draw_half.ensures c.draw_half-2.ensures
