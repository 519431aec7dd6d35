-- `widebus::stretch::commands_for_both` meets its contract: where the right chip takes what the left one took, and where it takes less.
use mathlib.Core.Path.{sym}
use mathlib.Core.List.{[]}
use native.Mathlib.Omega.{arith}
use lib.ListN.{take}
use lib.Seq.{length-take-le}
use Rattle.bus.specs.Recorded.{recorded_command, chip_of}
use Rattle.widebus.proofs.Numbered.{ok_met, not_ok}
use Rattle.widebus.proofs.Selected.{takes, commands_taken, commands_stopped}
use Rattle.widebus.proofs.stretch.commands_for_both.Goals as goal

pub slice_bounds-commands-end : goal.slice_bounds-commands-end
slice_bounds-commands-end c =
    let a = c.args in
    sym (length-take-le _ _ (takes recorded_command a.bytes.now (chip_of a.registers.left []) c.commands-first.result (c.commands-first.ensures [])))

pub returns-then-is_ok : goal.returns-then-is_ok
returns-then-is_ok c = λ left right.
    commands_taken c.args.registers _ c.commands-first.result c.commands-second.result c.commands-first.ensures c.commands-second.ensures left right (ok_met _ c.if-is_ok.ensures.value) c.widened.ensures

pub slice_bounds-commands-end-2 : goal.slice_bounds-commands-end-2
slice_bounds-commands-end-2 c =
    let a = c.args in
    let first = takes recorded_command a.bytes.now (chip_of a.registers.left []) c.commands-first.result (c.commands-first.ensures []) in
    let next = takes recorded_command (take c.commands-first.result.count a.bytes.now) (chip_of a.registers.right []) c.commands-second.result (c.commands-second.ensures []) in
    sym (length-take-le _ _ (omega (arith, first, next, length-take-le _ a.bytes.now first)))

pub returns : goal.returns
returns c = λ left right.
    commands_stopped c.args.registers _ c.commands-first.result c.commands-second.result c.commands-first.ensures c.commands-second.ensures left right c.commands-again.result (not_ok _ c.if-is_ok.ensures.value) c.commands-again.ensures c.widened-2.ensures
