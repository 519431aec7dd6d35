-- `bus::stretch::writes` meets its contract: one piece, or pieces up to column 131 and on from 0, where a write is allowed.
use mathlib.Core.Path.{sym}
use native.Mathlib.Omega.{arith}
use Rattle.constants.proofs.Refusals.{refusal_not_taken}
use borrow.Author.Tests.{eqb-false}
use Rattle.bus.proofs.Access.{opened}
use Rattle.bus.proofs.PieceLaws.{refused_first, none_written}
use Rattle.bus.proofs.stretch.writes.Goals as goal

pub returns-then-bytes-eq0 : goal.returns-then-bytes-eq0
returns-then-bytes-eq0 c = let a = c.args in rw c.halted.ensures (sym (none_written a.bytes.now a.registers a.memory.now c.if-bytes-eq0.true))

pub overflow_sub-from : goal.overflow_sub-from
overflow_sub-from c = let o = opened _ _ (sym (rw c.in-Ok.is at c.access-met.ensures)) in omega (arith, o.column, c.from.ensures)

pub returns-in_default : goal.returns-in_default
returns-in_default c =
    let a = c.args in
    let met = c.in_default.ensures in
    rw (c.halted-in_default.ensures, c.in_default.is, met)
    (sym (refused_first a.bytes.now a.registers a.memory.now c.if-bytes-eq0.false (λ e. eqb-false _ _ (rw (← met) (refusal_not_taken _)) e)))
