-- `differences::run::run_last` meets its contract: the places passed go on with the first one.
use mathlib.Core.Path.{refl, sym, ◌∙◌, ap}
use mathlib.Core.Bool.{not}
use native.Mathlib.Nat.{add-zero, add-suc, suc-add}
use native.Mathlib.Numerals.{add-one}
use native.Mathlib.Omega.{arith}
use Rattle.constants.specs.Sizes.{width}
use Rattle.differences.proofs.AlongRow.{way_left, way_same, more_on, more_not, more_end}
use Rattle.differences.proofs.run.run_last.Goals as goal

pub returns-then-not-same_way : goal.returns-then-not-same_way
returns-then-not-same_way c =
    let f = c.args.first.now in
    let g = c.args.second.now in
    let i = c.loop-x.invariant in
    let stops = way_left f g c.loop-x.last c.loop-x.x _ _ _ i.here i.was i.is (ap not c.same_way.ensures) ∙ ap (λ t. not (not t)) c.if-not-same_way.true in
    sym (i.goes_on ∙ rw (more_not f g width c.loop-x.last (omega arith) stops, add-zero))

pub loop-x-preserved : goal.loop-x-preserved
loop-x-preserved c =
    let f = c.args.first.now in
    let g = c.args.second.now in
    let i = c.loop-x.invariant in
    let goes = way_left f g c.loop-x.last c.loop-x.x _ _ _ i.here i.was i.is (ap not c.same_way.ensures) ∙ ap (λ t. not (not t)) c.if-not-same_way.false in
    let same = way_same _ _ 0 _ _ _ (ap not c.same_way.ensures) (ap not c.if-not-same_way.false) in
    record {
      here = refl;
      goes_on = i.goes_on ∙ rw (← i.here, more_on f g width c.loop-x.last (omega arith) goes, add-suc, ← suc-add, add-one c.loop-x.last);
      was = same.0;
      is = same.1;
    }

pub returns : goal.returns
returns c =
    let i = c.loop-x.invariant in
    sym (i.goes_on ∙ rw (more_end c.args.first.now c.args.second.now width c.loop-x.last (omega arith), add-zero))
