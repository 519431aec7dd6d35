-- `widetrace::run::play` meets its contract: the right side takes all that the left one took, or stops earlier, and the left one plays again as far as that.
use mathlib.Core.Path.{sym, ◌∙◌}
use Rattle.widetrace.proofs.RunBySides.{taken_by_both, stopped_by_right, all_taken, not_taken}
use Rattle.widetrace.proofs.run.play.Goals as goal

pub returns-then-is_ok : goal.returns-then-is_ok
returns-then-is_ok c =
    let a = c.args in
    rw c.ended.ensures
    (taken_by_both a.registers a.trace.now a.left_memory.now a.right_memory.now c.play_side-first.result _ c.play_side-first.ensures c.play_side-second.result _ c.play_side-second.ensures (all_taken _ (sym c.is_ok.ensures.value ∙ c.if-is_ok.true)))

pub returns : goal.returns
returns c =
    let a = c.args in
    rw c.ended-2.ensures
    (stopped_by_right a.registers a.trace.now a.left_memory.now a.right_memory.now c.play_side-first.result _ c.play_side-first.ensures c.play_side-second.result _ c.play_side-second.ensures _ (c.put_back.ensures ∙ rw c.copied-kept.ensures) c.play_side-again.result _ c.play_side-again.ensures (not_taken _ (sym c.is_ok.ensures.value ∙ c.if-is_ok.false)))
