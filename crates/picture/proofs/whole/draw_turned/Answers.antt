-- `picture::whole::draw_turned` meets its contract: the memory is made upright, and each row is drawn by what it shows.
use mathlib.Core.Path.{◌∙◌}
use Rattle.picture.proofs.Upright.{upright_made, frame_seen, rows_within}
use Rattle.picture.proofs.whole.draw_turned.Goals as goal

pub draw_upright-requires : goal.draw_upright-requires
draw_upright-requires c = rows_within c.args.registers _ c.requires.2

pub returns : goal.returns
returns c =
    let a = c.args in
    let made = c.bring_upright.new.upright in
    let upright = upright_made a.registers a.memory.now made c.bring_upright.ensures in
    c.draw_upright.ensures ∙ frame_seen a.registers a.memory.now made c.requires.0 c.requires.1 upright _ c.requires.2
