-- `bus::image::ask_state` meets its contract: the length first, then the ranges.
use borrow.Author.Tests.{lt-ltb, le-ltb}
use Rattle.bus.specs.Image.{asked_state}
use Rattle.bus.proofs.First.{first_registers}
use Rattle.bus.proofs.image.ask_state.Goals as goal

pub returns-in_default : goal.returns-in_default
unfolding asked_state
returns-in_default c = rw (lt-ltb _ _ c.in_default.ensures.cases)

pub returns-then-legal : goal.returns-then-legal
unfolding asked_state
returns-then-legal c =
    let first = c.in-Some.ensures.cases in
    rw (le-ltb _ _ first.enough, ← c.legal.ensures, c.if-legal.true, c.load.ensures, first_registers c.args.state.now _ first.enough first.same)

pub returns : goal.returns
unfolding asked_state
returns c = rw (le-ltb _ _ c.in-Some.ensures.cases.enough, ← c.legal.ensures, c.if-legal.false)
