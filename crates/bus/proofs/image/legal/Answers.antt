-- `bus::image::legal` meets its contract: the tests are the definition's, and a saved column of 0 is in its range whatever read-modify-write is.
use mathlib.Core.Path.{◌≡◌, refl, sym, ◌∙◌}
use mathlib.Core.Bool.{Bool, true, false, not, cond, ◌&&◌}
use borrow.Author.Tests.{eq-eqb, ne_eqb}
use lib.Dec.{eqb}
use Rattle.codes.specs.OneOf.{one_of}
use Rattle.bus.specs.Registers.{largest_values, image_of}
use Rattle.bus.specs.Image.{within, awaited_codes}
use Rattle.bus.proofs.First.{short_legal, and_then, and_else, first_legal}
use Rattle.bus.proofs.image.legal.Goals as goal
use Rattle.bus.proofs.image.legal.Goals.{then-within, else-within}

either_way : (t : Bool) → true ≡ cond t true true
either_way true = refl
either_way false = refl

other_way : (t : Bool) → not t ≡ cond t false true
other_way true = refl
other_way false = refl

pub returns-in_default : goal.returns-in_default
returns-in_default c = sym (short_legal _ c.in_default.ensures.cases)

pub returns-then-registers-eq0 : goal.returns-then-registers-eq0
returns-then-registers-eq0 c =
    let r = c.load-registers.result in
    let f = c.in-Some.ensures.cases in
    let both : c.if-within.value ≡ (within largest_values (image_of r) && one_of awaited_codes r.awaited) =
    elim c.if-within.branch [ then-within w ↦ and_then (w.value-is ∙ w.awaitable.ensures) (sym c.within.ensures ∙ w.if-within.true) | else-within w ↦ and_else _ (w.value-is ∙ c.within.ensures) (sym c.within.ensures ∙ w.if-within.false) ] in
    let l = first_legal c.args.image.now _ f.enough f.same r c.load-registers.ensures in
    rw (l, ← both, c.if-awaitable.true, eq-eqb _ _ c.if-registers-eq0.true) (either_way (eqb r.modify 0))

pub returns-else-registers-eq0 : goal.returns-else-registers-eq0
returns-else-registers-eq0 c =
    let r = c.load-registers.result in
    let f = c.in-Some.ensures.cases in
    let both : c.if-within.value ≡ (within largest_values (image_of r) && one_of awaited_codes r.awaited) =
    elim c.if-within.branch [ then-within w ↦ and_then (w.value-is ∙ w.awaitable.ensures) (sym c.within.ensures ∙ w.if-within.true) | else-within w ↦ and_else _ (w.value-is ∙ c.within.ensures) (sym c.within.ensures ∙ w.if-within.false) ] in
    let l = first_legal c.args.image.now _ f.enough f.same r c.load-registers.ensures in
    rw (l, ← both, c.if-awaitable.true, ne_eqb _ _ c.if-registers-eq0.false) (other_way (eqb r.modify 0))

pub returns-else-awaitable : goal.returns-else-awaitable
returns-else-awaitable c =
    let r = c.load-registers.result in
    let f = c.in-Some.ensures.cases in
    let both : c.if-within.value ≡ (within largest_values (image_of r) && one_of awaited_codes r.awaited) =
    elim c.if-within.branch [ then-within w ↦ and_then (w.value-is ∙ w.awaitable.ensures) (sym c.within.ensures ∙ w.if-within.true) | else-within w ↦ and_else _ (w.value-is ∙ c.within.ensures) (sym c.within.ensures ∙ w.if-within.false) ] in
    let l = first_legal c.args.image.now _ f.enough f.same r c.load-registers.ensures in
    rw (l, ← both, c.if-awaitable.false)
