-- `bus::image::ask` meets its contract: both lengths first, then the state alone, whose length is enough then.
use mathlib.Core.Path.{sym, ◌∙◌}
use borrow.Author.Tests.{le-ltb}
use Rattle.bus.specs.Image.{asked_state, asked}
use Rattle.bus.proofs.Legal.{long}
use Rattle.bus.proofs.image.ask.Goals as goal

pub returns-then-short : goal.returns-then-short
unfolding asked
returns-then-short c = rw (← c.short.ensures, c.if-short.true)

pub returns : goal.returns
unfolding asked_state asked
returns c =
    let enough = sym c.short.ensures ∙ c.if-short.false in
    rw (← c.short.ensures, c.if-short.false, c.ask_state.ensures, le-ltb _ _ (long _ _ enough).0)
