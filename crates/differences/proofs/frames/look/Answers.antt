-- `differences::frames::look` meets its contract: the largest byte passed, and the largest of the differences.
use mathlib.Core.Path.{refl, sym, ◌∙◌}
use native.Mathlib.Nat.{not-suc-le-zero}
use native.Mathlib.Omega.{arith}
use borrow.Author.Tests.{eqb-true}
use lib.ListN.{length, length-append}
use lib.Seq.{take_all, ext_get_or}
use Rattle.std.proofs.Common.{Some, None, rules}
use Rattle.std.proofs.lemmas.Slice.Zip.{zip_turn, zip_end}
use Rattle.differences.specs.Compare.{any_above}
use Rattle.differences.proofs.Above.{larger_above}
use Rattle.differences.proofs.Below.{one_more, xor_zero}
use Rattle.differences.proofs.frames.look.Goals as goal

pub loop-was-init : goal.loop-was-init
unfolding any_above
loop-was-init c = record { above = refl; same = λ e j h. absurd (not-suc-le-zero h) }

pub loop-was-preserved : goal.loop-was-preserved
loop-was-preserved c =
    let f = c.args.first.now in
    let g = c.args.second.now in
    let xs = c.loop-was.yielded in
    let turn = zip_turn f g xs c.into_iter-was-iterator.result c.loop-was.was-iterator c.next.new.self (Some _) (search rules) (search rules) c.loop-was.yielded_by (c.in-Some.was, c.in-Some.is') refl c.in-Some.ensures.steps in
    record {
      above = rw length-append (larger_above f (length xs) c.loop-was.largest _ (omega arith) c.loop-was.invariant.above (c.max-largest.ensures ∙ rw (turn.2 0)));
      same = λ e. rw length-append (one_more _ (length xs) (c.loop-was.invariant.same (omega (arith, e, c.max-differing.ensures))) (sym (turn.2 0) ∙ xor_zero _ _ (omega (arith, e, c.max-differing.ensures)) ∙ turn.3 0));
    }

pub returns : goal.returns
returns c =
    let f = c.args.first.now in
    let g = c.args.second.now in
    let xs = c.loop-was.yielded in
    let end = zip_end f g xs c.into_iter-was-iterator.result c.loop-was.was-iterator c.next.new.self None (search rules) (search rules) c.loop-was.yielded_by refl c.in-None.ensures.steps in
    (rw (← take_all (length xs) f (omega (arith, end))) c.loop-was.invariant.above, λ t. ext_get_or 0 f g (c.told-first ∙ sym c.told-second) (λ j h. c.loop-was.invariant.same (eqb-true _ _ t) j (omega (arith, end, h))))
