-- `widetrace::side::play_side` meets its contract: what is left of the trace before the limit decides, and then how the chip heeds the record that stands there.
use mathlib.Core.Path.{refl, sym, ◌∙◌}
use native.Mathlib.Omega.{arith}
use Rattle.trace.specs.Records.{split}
use Rattle.trace.proofs.WhatStands.{within_trace}
use Rattle.widetrace.specs.Sides.{the_side, side_played_of}
use Rattle.widetrace.proofs.HeedCode.{takes_few, refused}
use Rattle.widetrace.proofs.SidePlays.{reached_limit, plays_nothing, plays_cut, plays_on, plays_stop}
use Rattle.widetrace.proofs.SideTurns as turns
use Rattle.widetrace.proofs.side.play_side.Goals as goal

pub loop-at-init : goal.loop-at-init
unfolding split
loop-at-init c = (omega arith, omega arith, refl, refl)

pub returns : goal.returns
unfolding side_played_of
returns c = rw c.end-2.ensures (sym (c.loop-at.invariant.3 ∙ reached_limit _ _ _ (the_side _) _ _ c.loop-at-test.false))

pub returns-in-Nothing : goal.returns-in-Nothing
unfolding side_played_of
returns-in-Nothing c = rw c.end.ensures (sym (c.loop-at.invariant.3 ∙ plays_nothing _ _ _ (the_side _) _ _ (sym c.read_at.ensures ∙ c.in-Nothing.is)))

pub returns-in-Cut : goal.returns-in-Cut
unfolding side_played_of
returns-in-Cut c = rw c.end-in-Cut.ensures (sym (c.loop-at.invariant.3 ∙ plays_cut _ _ _ (the_side _) _ _ c.loop-at-test.true (sym c.read_at.ensures ∙ c.in-Cut.is)))

pub overflow_add-to : goal.overflow_add-to
overflow_add-to c = omega (arith, turns.fits c.args.trace.now c.loop-at.at c.in-Whole.header (sym c.read_at.ensures ∙ c.in-Whole.is) c.args.limit c.size_before.ensures)

pub slice_bounds-heed_of-end : goal.slice_bounds-heed_of-end
slice_bounds-heed_of-end c = omega (arith, turns.fits c.args.trace.now c.loop-at.at c.in-Whole.header (sym c.read_at.ensures ∙ c.in-Whole.is) c.args.limit c.size_before.ensures)

pub slice_bounds-obey-end : goal.slice_bounds-obey-end
slice_bounds-obey-end c = omega (arith, turns.fits c.args.trace.now c.loop-at.at c.in-Whole.header (sym c.read_at.ensures ∙ c.in-Whole.is) c.args.limit c.size_before.ensures)

pub overflow_add-offset : goal.overflow_add-offset
overflow_add-offset c =
    let stands = sym c.read_at.ensures ∙ c.in-Whole.is in
    omega (arith, takes_few _ _ _ _ _ c.obey-stretch.ensures (refused _ c.in-Err-outcome.is), turns.part_fits c.args.trace.now c.loop-at.at c.in-Whole.header stands c.args.limit c.size_before.ensures)

pub returns-in-Err-outcome : goal.returns-in-Err-outcome
unfolding side_played_of
returns-in-Err-outcome c =
    let stands = sym c.read_at.ensures ∙ c.in-Whole.is in
    let heeds = rw c.in-Ok-Obeys.field-0-is at c.in-Ok-Obeys.ensures.heeds in
    let obeys = rw c.in-Ok-Obeys.field-0-is at c.in-Ok-Obeys.ensures.obeys in
    let ends = rw c.in-Ok-Obeys.kind-is at c.obey-stretch.ensures in
    rw c.end-in-Err-outcome.ensures
    (sym (c.loop-at.invariant.3 ∙ plays_stop c.args.trace.now c.loop-at.at c.args.limit (the_side c.args.side) c.loop-at.count _ c.loop-at-test.true _ stands _ _ _ (turns.obeys_some c.args.trace.now c.loop-at.at c.in-Whole.header stands c.args.limit c.size_before.ensures c.args.side c.loop-at.selection heeds refl c.in-Ok-Obeys.kind obeys c.loop-at.registers c.loop-at.memory c.obey-stretch.result _ ends c.in-Err-outcome.is)))

pub overflow_add-at : goal.overflow_add-at
overflow_add-at c = omega (arith, within_trace c.args.trace.now c.loop-at.at c.in-Whole.header (sym c.read_at.ensures ∙ c.in-Whole.is))

pub loop-at-smaller-in-Ok-Obeys : goal.loop-at-smaller-in-Ok-Obeys
loop-at-smaller-in-Ok-Obeys c = omega (arith, within_trace c.args.trace.now c.loop-at.at c.in-Whole.header (sym c.read_at.ensures ∙ c.in-Whole.is))

pub loop-at-preserved-in-Ok-Obeys : goal.loop-at-preserved-in-Ok-Obeys
loop-at-preserved-in-Ok-Obeys c =
    let loop = c.loop-at in
    let stands = sym c.read_at.ensures ∙ c.in-Whole.is in
    let heeds = rw c.in-Ok-Obeys.field-0-is at c.in-Ok-Obeys.ensures.heeds in
    let obeys = rw c.in-Ok-Obeys.field-0-is at c.in-Ok-Obeys.ensures.obeys in
    let ends = rw c.in-Ok-Obeys.kind-is at c.obey-stretch.ensures in
    let fits = within_trace c.args.trace.now loop.at c.in-Whole.header stands in (
      omega (arith, fits),
      omega (arith, fits),
      c.obey-stretch.auto.memory ∙ loop.invariant.2,
      loop.invariant.3 ∙ plays_on c.args.trace.now loop.at c.args.limit (the_side c.args.side) loop.count _ c.loop-at-test.true _ stands _ (turns.obeys_all c.args.trace.now loop.at c.in-Whole.header stands c.args.limit c.size_before.ensures c.args.side loop.selection heeds refl c.in-Ok-Obeys.kind obeys loop.registers loop.memory c.obey-stretch.result _ ends c.in_default.is),
    )

pub overflow_add-at-in-Ok-Passes : goal.overflow_add-at-in-Ok-Passes
overflow_add-at-in-Ok-Passes c = omega (arith, within_trace c.args.trace.now c.loop-at.at c.in-Whole.header (sym c.read_at.ensures ∙ c.in-Whole.is))

pub loop-at-smaller : goal.loop-at-smaller
loop-at-smaller c = omega (arith, within_trace c.args.trace.now c.loop-at.at c.in-Whole.header (sym c.read_at.ensures ∙ c.in-Whole.is))

pub loop-at-preserved : goal.loop-at-preserved
loop-at-preserved c =
    let loop = c.loop-at in
    let stands = sym c.read_at.ensures ∙ c.in-Whole.is in
    let heeds = rw (c.in-Ok-Passes.field-0-is, c.in-Ok-Passes.next-is) at c.in-Ok-Passes.ensures.heeds in
    let fits = within_trace c.args.trace.now loop.at c.in-Whole.header stands in (
      omega (arith, fits),
      omega (arith, fits),
      loop.invariant.2,
      loop.invariant.3 ∙ plays_on c.args.trace.now loop.at c.args.limit (the_side c.args.side) loop.count _ c.loop-at-test.true _ stands _ (turns.passes c.args.trace.now loop.at c.in-Whole.header stands c.args.limit c.size_before.ensures c.args.side loop.selection heeds refl _),
    )

pub returns-in-Err : goal.returns-in-Err
unfolding side_played_of
returns-in-Err c =
    let stands = sym c.read_at.ensures ∙ c.in-Whole.is in
    rw c.end-in-Err.ensures
    (sym (c.loop-at.invariant.3 ∙ plays_stop c.args.trace.now c.loop-at.at c.args.limit (the_side c.args.side) c.loop-at.count _ c.loop-at-test.true _ stands _ _ _ (turns.refuses_it c.args.trace.now c.loop-at.at c.in-Whole.header stands c.args.limit c.size_before.ensures c.args.side c.loop-at.selection c.in-Err.ensures.heeds refl _)))
