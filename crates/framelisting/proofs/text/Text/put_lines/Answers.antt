-- `framelisting::text::Text::put_lines` meets its contract: the lines of the rows from here on are put from here on.
use Prim.Native.Nat.{◌-◌}
use mathlib.Core.Path.{◌≡◌, subst⁻¹}
use native.Mathlib.Omega.{arith}
use lib.ListN.{length-take, length-drop}
use Rattle.constants.specs.Sizes.{frame_rows}
use Rattle.framelisting.specs.Put.{Countable}
use Rattle.framelisting.specs.Text.{line, row_of, lines}
use Rattle.framelisting.proofs.PutPieces.{begin, turn, done, room, room_left}
use Rattle.framelisting.proofs.RowsOfFrame.{lines_on, part}
use Rattle.framelisting.proofs.text.Text.put_lines.Goals as goal

pub loop-p-init : goal.loop-p-init
loop-p-init c = begin _ _

pub put_line-requires : goal.put_line-requires
put_line-requires c =
    let frame = c.args.frame.now in
    let w = c.args.width in
    let p = c.loop-p.p in
    let at = c.loop-p.self.at in
    record {
      row_len_bound = rw (length-take, length-drop) (omega arith);
      countable = subst⁻¹ (λ row. Countable at (line p row)) (part w frame p) (room at (line p (row_of w frame p)) _ (rw (lines_on w frame frame_rows p c.loop-p-test.true) at (room_left c.loop-p.invariant c.requires.countable)));
    }

pub loop-p-preserved : goal.loop-p-preserved
loop-p-preserved c =
    let frame = c.args.frame.now in
    let w = c.args.width in
    let p = c.loop-p.p in
    turn (rw (lines_on w frame frame_rows p c.loop-p-test.true) at c.loop-p.invariant) (rw (part w frame p) at c.put_line.ensures)

pub returns : goal.returns
unfolding lines
returns c =
    let e : frame_rows - c.loop-p.p ≡ 0 = omega arith in
    done (rw e at c.loop-p.invariant)
