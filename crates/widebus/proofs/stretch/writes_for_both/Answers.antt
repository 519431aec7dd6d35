-- `widebus::stretch::writes_for_both` meets its contract: no byte, a chip that refuses the first, or all of them for both.
use mathlib.Core.Path.{sym, ◌∙◌}
use borrow.Author.Tests.{eqb-true, eqb-false}
use Rattle.bus.specs.Recorded.{recorded_write}
use Rattle.widebus.specs.declared.selection.Selection.{Selection}
use Rattle.widebus.proofs.Numbered.{ok_met, not_ok}
use Rattle.widebus.proofs.Selected.{no_bytes, halts, writes_refused, writes_taken}
use Rattle.widebus.proofs.stretch.writes_for_both.Goals as goal

pub returns-then-is_empty : goal.returns-then-is_empty
returns-then-is_empty c = no_bytes Selection.Both recorded_write _ _ (eqb-true _ _ (sym c.is_empty.ensures ∙ c.if-is_empty.true)) c.halted.ensures

pub returns-then-is_err : goal.returns-then-is_err
returns-then-is_err c =
    let a = c.args in
    halts Selection.Both recorded_write a.bytes.now a.registers a.left_memory.now a.right_memory.now
    (writes_refused a.registers a.left_memory.now a.right_memory.now c.access-met.ensures (not_ok _ (sym c.if-is_err.ensures.negation)))
    (eqb-false _ _ (sym c.is_empty.ensures ∙ c.if-is_empty.false)) c.halted-then-is_err.ensures

pub returns : goal.returns
returns c =
    let a = c.args in
    writes_taken a.registers a.bytes.now a.left_memory.now a.right_memory.now c.writes-first.result c.writes-second.result (sym c.access-met.ensures ∙ ok_met _ (sym c.if-is_err.ensures.negation)) c.writes-first.ensures c.writes-second.ensures c.widened.ensures
