-- `widetrace::run::run` meets its contract: what was asked first decides, and each chip's registers are stored once.
use mathlib.Core.Path.{sym, ◌∙◌, ap}
use Rattle.widebus.specs.Asked.{both_asked_of}
use Rattle.widetrace.proofs.WideRunCode.{plays, refuses}
use Rattle.widebus.specs.Pair.{both_lent}
use Rattle.widebus.proofs.Asking.{memories_long}
use Rattle.widetrace.proofs.run.run.Goals as goal

pub play-played-requires : goal.play-played-requires
play-played-requires c =
    let a = c.args in
    let all = both_lent a.left_state.now a.left_memory.now a.right_state.now a.right_memory.now in
    (memories_long all (sym c.ask.ensures ∙ ap both_asked_of c.in-Ok.is)).0

pub returns-in-Ok : goal.returns-in-Ok
returns-in-Ok c =
    let a = c.args in
    let all = both_lent a.left_state.now a.left_memory.now a.right_state.now a.right_memory.now in
    plays all a.trace.now c.ask.ensures c.in-Ok.is c.play-played.result _ _ c.play-played.ensures c.store.ensures c.store-in-Ok.ensures

pub returns-in-Err : goal.returns-in-Err
returns-in-Err c =
    let a = c.args in
    let all = both_lent a.left_state.now a.left_memory.now a.right_state.now a.right_memory.now in
    refuses all a.trace.now c.ask.ensures c.in-Err.is
