-- `trace::run::play` meets its contract: what is left of the trace decides.
use mathlib.Core.Path.{◌≡◌, refl, sym, ◌∙◌, ap}
use mathlib.Core.List.{List}
use Prim.Native.Nat.{ℕ, ◌+◌}
use native.Mathlib.Omega.{arith}
use lib.ListN.{drop}
use Rattle.constants.specs.Sizes.{header_size}
use Rattle.trace.specs.Records.{split}
use Rattle.trace.specs.Front.{front_of}
use Rattle.trace.specs.Kinds.{the_chip}
use Rattle.trace.specs.Code.{ending_on, played_of}
use Rattle.trace.proofs.WhatStands.{within_trace}
use Rattle.trace.proofs.PlayedFurther.{plays_nothing, plays_cut, plays_on, plays_stop}
use Rattle.trace.specs.declared.records.Front.{Front}
use Rattle.trace.proofs.run.play.Goals as goal

-- what the reader finds stands in the trace
seen : {lent trace : List ℕ} (at : ℕ) {front found : Front} → lent ≡ trace → front ≡ front_of (drop at lent) → front ≡ found → front_of (drop at trace) ≡ found
seen at same next is = ap (λ t. front_of (drop at t)) (sym same) ∙ sym next ∙ is

pub loop-header-init : goal.loop-header-init
unfolding split
loop-header-init c = rw (c.new-reader.ensures.0, c.new-reader.ensures.1) (refl, omega arith, omega arith, refl, refl)

pub returns-in-Nothing : goal.returns-in-Nothing
unfolding played_of
returns-in-Nothing c =
    let loop = c.loop-header in
    rw c.end.ensures (sym (loop.invariant.4 ∙ plays_nothing _ _ the_chip _ _ (seen _ loop.invariant.0 c.next.ensures c.in-Nothing.is)))

pub returns-in-Cut : goal.returns-in-Cut
unfolding played_of
returns-in-Cut c =
    let loop = c.loop-header in
    rw c.end-in-Cut.ensures (sym (loop.invariant.4 ∙ plays_cut _ _ the_chip _ _ (seen _ loop.invariant.0 c.next.ensures c.in-Cut.is)))

pub overflow_add-at-in-Whole : goal.overflow_add-at-in-Whole
overflow_add-at-in-Whole c = omega (arith, within_trace c.args.trace.now _ _ (seen _ c.loop-header.invariant.0 c.next.ensures c.in-Whole.is))

pub loop-header-smaller : goal.loop-header-smaller
loop-header-smaller c = omega (arith, c.moved-reader.ensures.1, within_trace c.args.trace.now _ _ (seen _ c.loop-header.invariant.0 c.next.ensures c.in-Whole.is))

pub loop-header-preserved : goal.loop-header-preserved
unfolding ending_on
loop-header-preserved c =
    let loop = c.loop-header in
    let obeyed = c.obey-ending in
    let stands = seen _ loop.invariant.0 c.next.ensures c.in-Whole.is in
    let fits = within_trace c.args.trace.now _ _ stands in
    let place : c.moved-reader.result.at ≡ loop.reader.at + header_size + c.in-Whole.header.length = omega (arith, c.moved-reader.ensures.1) in
    rw (c.moved-reader.ensures.0, place)
    (loop.invariant.0, omega (arith, fits), omega (arith, fits), obeyed.auto.memory ∙ loop.invariant.3, loop.invariant.4 ∙ plays_on c.args.trace.now _ the_chip loop.count _ _ stands _ (sym (rw c.in_default.is at obeyed.ensures)))

pub returns-in-Err : goal.returns-in-Err
unfolding ending_on played_of
returns-in-Err c =
    let loop = c.loop-header in
    let stands = seen _ loop.invariant.0 c.next.ensures c.in-Whole.is in
    rw c.end-in-Err.ensures (sym (loop.invariant.4 ∙ plays_stop c.args.trace.now _ the_chip loop.count _ _ stands _ _ _ (sym (rw c.in-Err.is at c.obey-ending.ensures))))
