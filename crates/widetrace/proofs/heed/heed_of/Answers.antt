-- `widetrace::heed::heed_of` meets its contract: the tests of the code, in order.
use mathlib.Core.Path.{refl, sym, ◌∙◌, ap}
use Rattle.std.specs.Prelude.{Ok}
use Rattle.widetrace.specs.Code.{heed_met}
use Rattle.widetrace.specs.EachChip.{hears}
use Rattle.widetrace.proofs.HeedCode.{selects_heeded, no_read, read_of_both, read_of_one, no_read_heeded, refused_heeded, for_selected_met, for_selected_obeys, none_there, some_there, is_both, is_reads, no_reads}
use Rattle.widetrace.proofs.heed.heed_of.Goals as goal

pub returns-then-kind-eq-SELECT-clause-heeds : goal.returns-then-kind-eq-SELECT-clause-heeds
returns-then-kind-eq-SELECT-clause-heeds c =
    let a = c.args in
    selects_heeded a.side a.selection a.kind a.at a.payload.now c.if-kind-eq-SELECT.true c.selected.ensures.heeds

pub returns-in-Ok : goal.returns-in-Ok
returns-in-Ok c =
    let a = c.args in
    let named = rw c.in-Ok.is at c.try_from.ensures in
    record {
      heeds = ap (λ heed. heed_met (Ok heed)) c.for_selected.ensures ∙ for_selected_met a.selection _ (hears a.side a.selection) ∙ no_read_heeded a.side a.selection a.kind a.at a.payload.now c.in-Ok.kind (no_reads _ (sym c.ne.ensures ∙ c.if-ne.true)) named;
      obeys = rw c.for_selected.ensures (for_selected_obeys a.selection c.in-Ok.kind (hears a.side a.selection) a.kind a.payload.now (named.1 _ refl));
    }

pub returns-in-Ok-2-clause-heeds : goal.returns-in-Ok-2-clause-heeds
returns-in-Ok-2-clause-heeds c =
    let a = c.args in
    no_read a.side a.selection a.kind a.at a.payload.now (rw (c.in-Ok.is, is_reads _ (sym c.ne.ensures ∙ c.if-ne.false)) at c.try_from.ensures) (none_there _ (sym c.is_empty.ensures ∙ c.if-is_empty.true))

pub returns-in-Ok-3-clause-heeds : goal.returns-in-Ok-3-clause-heeds
returns-in-Ok-3-clause-heeds c =
    let a = c.args in
    read_of_both a.side a.selection a.kind a.at a.payload.now (rw (c.in-Ok.is, is_reads _ (sym c.ne.ensures ∙ c.if-ne.false)) at c.try_from.ensures) (some_there _ (sym c.is_empty.ensures ∙ c.if-is_empty.false)) (is_both _ (sym c.eq.ensures ∙ c.if-eq.true))

pub returns-in-Ok-4-clause-heeds : goal.returns-in-Ok-4-clause-heeds
returns-in-Ok-4-clause-heeds c =
    let a = c.args in
    ap (λ heed. heed_met (Ok heed)) c.for_selected-in-Ok-4.ensures ∙ for_selected_met a.selection _ (hears a.side a.selection)
    ∙ read_of_one a.side a.selection a.kind a.at a.payload.now (rw (c.in-Ok.is, is_reads _ (sym c.ne.ensures ∙ c.if-ne.false)) at c.try_from.ensures) (some_there _ (sym c.is_empty.ensures ∙ c.if-is_empty.false)) (is_both _ (sym c.eq.ensures ∙ c.if-eq.false))

pub returns-in-Err-clause-heeds : goal.returns-in-Err-clause-heeds
returns-in-Err-clause-heeds c =
    let a = c.args in
    refused_heeded a.side a.selection a.kind a.at a.payload.now c.if-kind-eq-SELECT.false c.in-Err.refusal (rw c.in-Err.is at c.try_from.ensures)
