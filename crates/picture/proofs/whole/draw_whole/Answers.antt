-- `picture::whole::draw_whole` meets its contract: the memory is upright as it lies, or is made so.
use mathlib.Core.Path.{◌∙◌}
use Rattle.picture.proofs.Upright.{upright_already, frame_seen, rows_within}
use Rattle.picture.proofs.whole.draw_whole.Goals as goal

pub draw_upright-requires : goal.draw_upright-requires
draw_upright-requires c = rows_within c.args.registers _ c.rows_shown-rows.ensures

pub returns-then-registers-eq0-2 : goal.returns-then-registers-eq0-2
returns-then-registers-eq0-2 c =
    let a = c.args in
    let upright = upright_already a.registers a.memory.now c.if-registers-eq0.true c.if-registers-eq0-2.true in
    c.draw_upright.ensures ∙ frame_seen a.registers a.memory.now a.memory.now c.requires.0 c.requires.1 upright _ c.rows_shown-rows.ensures
