-- `picture::row::draw_row` meets its contract: display off, all lit, a dark row, entire on, and bits.
use mathlib.Core.Path.{◌∙◌, sym}
use native.Mathlib.Omega.{arith}
use borrow.Author.Tests.{eq-eqb, ne_eqb}
use Rattle.constants.specs.Sizes.{width}
use Rattle.picture.specs.Rows.{scan_of}
use Rattle.picture.specs.Frame.{segment, while_on}
use Rattle.picture.proofs.Lines.{line_same}
use Rattle.picture.proofs.Made.{filled_line}
use Rattle.picture.proofs.AllLit.{all_lit}
use Rattle.picture.proofs.RamRows.{ram_within}
use Rattle.picture.proofs.row.draw_row.Goals as goal

pub returns-then-registers-eq0 : goal.returns-then-registers-eq0
unfolding segment
returns-then-registers-eq0 c =
    filled_line width _ c.args.places.now c.requires c.fill.ensures.after ∙ line_same width _ _ (λ x h. rw (eq-eqb c.args.registers.on 0 (omega arith)) (omega arith))

pub returns-then-registers-eq-ALL_ROWS : goal.returns-then-registers-eq-ALL_ROWS
unfolding segment
returns-then-registers-eq-ALL_ROWS c =
    let a = c.args in
    filled_line width _ a.places.now c.requires c.fill-then-registers-eq-ALL_ROWS.ensures.after ∙ line_same width _ _ (λ x h. rw (ne_eqb a.registers.on 0 (λ off. omega arith), all_lit a.registers a.memory.now a.row x (omega (arith, c.if-registers-eq-ALL_ROWS.true)) c.if-registers-eq1.true) (omega arith))

pub shown_bits-requires : goal.shown_bits-requires
shown_bits-requires c =
    let a = c.args in
    ram_within (scan_of a.registers) (omega arith) a.row (rw c.in-Some.is at (sym c.row_shows.ensures))

pub returns-in-None : goal.returns-in-None
unfolding segment while_on
returns-in-None c =
    filled_line width _ c.args.places.now c.requires c.fill-in-None.ensures.after ∙ line_same width _ _ (λ x h. rw (ne_eqb c.args.registers.on 0 (λ off. omega arith), ← c.row_shows.ensures, c.in-None.is) (omega arith))

pub returns-then-registers-eq1-2 : goal.returns-then-registers-eq1-2
unfolding segment while_on
returns-then-registers-eq1-2 c =
    filled_line width _ c.args.places.now c.requires c.fill-then-registers-eq1-2.ensures.after ∙ line_same width _ _ (λ x h. rw (ne_eqb c.args.registers.on 0 (λ off. omega arith), ← c.row_shows.ensures, c.in-Some.is, eq-eqb _ _ c.if-registers-eq1-2.true) (omega arith))

pub returns-else-registers-eq1-2 : goal.returns-else-registers-eq1-2
unfolding segment while_on
returns-else-registers-eq1-2 c =
    c.copy_from_slice.ensures.after ∙ c.shown_bits.ensures ∙ line_same width _ _ (λ x h. rw (ne_eqb c.args.registers.on 0 (λ off. omega arith), ← c.row_shows.ensures, c.in-Some.is, ne_eqb _ _ c.if-registers-eq1-2.false))
