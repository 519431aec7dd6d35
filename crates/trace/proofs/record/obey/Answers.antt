-- `trace::record::obey` meets its contract: the record that stands there, by its kind.
use mathlib.Core.Path.{sym, ◌∙◌}
use native.Mathlib.Omega.{arith}
use Rattle.trace.specs.Code.{ending_on}
use Rattle.trace.proofs.WhatStands.{within_trace}
use Rattle.trace.proofs.RecordsAreStretches.{kind_reaches, kind_ends_there}
use Rattle.trace.proofs.ChipKinds.{found_kind, found_refusal}
use Rattle.trace.proofs.record.obey.Goals as goal

pub overflow_add-from : goal.overflow_add-from
overflow_add-from c = let args = c.args in omega (arith, within_trace args.trace.now args.at args.header c.requires)

pub overflow_add-to : goal.overflow_add-to
overflow_add-to c = let args = c.args in omega (arith, within_trace args.trace.now args.at args.header c.requires)

pub slice_bounds-obey-end : goal.slice_bounds-obey-end
slice_bounds-obey-end c = within_trace c.args.trace.now c.args.at c.args.header c.requires

pub ended-requires : goal.ended-requires
ended-requires c =
    let fits = within_trace c.args.trace.now c.args.at c.args.header c.requires in
    omega (arith, fits, kind_reaches c.in-Ok.kind c.args.trace.now _ _ (omega arith) fits _ _ _ c.obey.ensures)

pub returns-in-Ok : goal.returns-in-Ok
returns-in-Ok c =
    let args = c.args in
    let fits = within_trace args.trace.now args.at args.header c.requires in
    rw c.ended.ensures
    (kind_ends_there c.in-Ok.kind args.trace.now _ _ (omega arith) fits _ _ _ c.obey.ensures ∙ sym (found_kind args.trace.now args.at args.header c.requires _ c.in-Ok.kind (rw c.in-Ok.is at c.try_from.ensures)))

pub returns-in-Err : goal.returns-in-Err
unfolding ending_on
returns-in-Err c =
    let args = c.args in
    sym (found_refusal args.trace.now args.at args.header c.requires _ c.in-Err.refusal (rw c.in-Err.is at c.try_from.ensures))
