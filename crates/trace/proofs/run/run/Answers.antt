-- `trace::run::run` meets its contract: what was asked first decides, and the registers are stored once.
use Rattle.trace.proofs.RunCode.{plays, refuses}
use Rattle.trace.proofs.run.run.Goals as goal

pub returns-in-Ok : goal.returns-in-Ok
returns-in-Ok c =
    plays _ _ _ c.ask.ensures c.in-Ok.is c.play-played.result c.play-played.new.memory c.play-played.ensures c.store.ensures

pub returns-in-Err : goal.returns-in-Err
returns-in-Err c = refuses _ _ _ c.ask.ensures c.in-Err.is
