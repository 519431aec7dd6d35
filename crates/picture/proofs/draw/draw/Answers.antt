-- `picture::draw::draw` meets its contract: the frame's length first, then what state and memory are asked, then the rows.
use mathlib.Core.Path.{sym}
use native.Mathlib.Omega.{arith}
use borrow.Author.Tests.{lt-ltb, le-ltb}
use Rattle.std.proofs.lemmas.Result.{err_from_is_err_and}
use Rattle.bus.proofs.Legal.{long}
use Rattle.picture.specs.Draw.{draw, draw_on}
use Rattle.bus.proofs.Asking.{found_legal}
use Rattle.picture.proofs.FirstBytes.{frame_first, put_back}
use Rattle.picture.proofs.draw.draw.Goals as goal

pub returns-in_default : goal.returns-in_default
unfolding draw
returns-in_default c = rw (lt-ltb _ _ c.in_default.ensures.cases)

pub returns-in_err-registers : goal.returns-in_err-registers
unfolding draw draw_on
returns-in_err-registers c =
    let first = c.in-Some.ensures.cases in
    let p = err_from_is_err_and c.from_residual.result c.from_residual.ensures.1 in
    rw (p.1, p.2, le-ltb _ _ first.enough, ← c.in_err-registers.ensures, put_back _ c.args.frame.now first.same)

pub returns-in_default-first_chunk : goal.returns-in_default-first_chunk
returns-in_default-first_chunk c =
    let a = c.args in
    let found = found_legal a.state.now a.memory.now (sym c.in_ok-registers.ensures) in
    absurd (omega (arith, (long a.state.now a.memory.now found.0).1, c.in_default-first_chunk.ensures.cases))

pub returns : goal.returns
unfolding draw draw_on
returns c =
    rw (le-ltb _ _ c.in-Some.ensures.cases.enough, ← c.in_ok-registers.ensures, c.draw_frame.ensures, c.in-Some-first_chunk.ensures.cases.same, frame_first c.in_ok-registers.registers c.args.memory.now)
