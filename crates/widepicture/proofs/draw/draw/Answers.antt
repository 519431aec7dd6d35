-- `widepicture::draw::draw` meets its contract: the frame's length first, then what both chips are asked, then both drawn.
use mathlib.Core.Path.{refl, ap}
use mathlib.Core.List.{List, ◌++◌}
use lib.ListN.{drop}
use Rattle.std.proofs.lemmas.Result.{err_from_is_err_and}
use Rattle.constants.specs.Sizes.{wide_frame_size}
use Rattle.picture.proofs.FirstBytes.{put_back}
use Rattle.widebus.specs.Pair.{both_lent}
use Rattle.widepicture.proofs.Asked.{frame_short, both_refused, both_long, both_drawn}
use Rattle.widepicture.proofs.draw.draw.Goals as goal

pub returns-in_default : goal.returns-in_default
returns-in_default c =
    let a = c.args in
    frame_short (both_lent a.left_state.now a.left_memory.now a.right_state.now a.right_memory.now) a.frame.now c.in_default.ensures.cases

pub returns-in_err-registers : goal.returns-in_err-registers
returns-in_err-registers c =
    let a = c.args in
    let first = c.in-Some.ensures.cases in
    let p = err_from_is_err_and c.from_residual.result c.from_residual.ensures.1 in
    rw (p.1, p.2) (both_refused (both_lent a.left_state.now a.left_memory.now a.right_state.now a.right_memory.now) a.frame.now first.enough c.in_err-registers.ensures refl (put_back wide_frame_size a.frame.now first.same))

pub draw_both-requires : goal.draw_both-requires
draw_both-requires c =
    let a = c.args in
    both_long (both_lent a.left_state.now a.left_memory.now a.right_state.now a.right_memory.now) a.frame.now c.in-Some.ensures.cases.enough c.in_ok-registers.ensures refl

pub returns : goal.returns
returns c =
    let a = c.args in
    both_drawn (both_lent a.left_state.now a.left_memory.now a.right_state.now a.right_memory.now) a.frame.now c.in-Some.ensures.cases.enough c.in_ok-registers.ensures refl
    (ap (λ (drawn : List _). drawn ++ drop wide_frame_size a.frame.now) c.draw_both.ensures)
