-- `picture::draw::draw_line` meets its contract: the row, the part and the memory are tested in turn.
use mathlib.Core.Path.{◌≡◌, refl, ◌∙◌, ap}
use mathlib.Core.Logic.{◌≢◌}
use mathlib.Core.Bool.{Bool, true, false, cond, ◌&&◌}
use mathlib.Core.List.{List}
use Prim.Native.Nat.{ℕ, ◌≤◌, ◌<◌}
use native.Mathlib.Omega.{arith}
use borrow.Author.Tests.{lt-ltb, le-ltb, le-leb, lt-leb, eq-eqb, ne_eqb}
use lib.Dec.{ltb, leb}
use lib.ListN.{length, take}
use Rattle.constants.specs.Sizes.{width, memory_size, height, frame_rows}
use Rattle.bus.specs.declared.registers.Registers.{Registers}
use Rattle.picture.specs.Scan.{row_shows}
use Rattle.picture.specs.Rows.{scan_of}
use Rattle.picture.specs.Frame.{segment, line}
use Rattle.picture.specs.DrawLine.{draw_line}
use Rattle.picture.specs.declared.rows.PanelRow.{PanelRow}
use Rattle.picture.proofs.FirstBytes.{line_first}
use Rattle.picture.proofs.draw.draw_line.Goals as goal
use Rattle.picture.proofs.draw.draw_line.Goals.{then-row-gt-HEIGHT-via-then-row-gt-HEIGHT, then-row-gt-HEIGHT-via-else-row-gt-HEIGHT+then-places-ne-WIDTH}

-- what is left, by the tests of the code
module _ (r : Registers) (memory : List ℕ) (row : PanelRow) (was : List ℕ) where
  no_row : height < row.0 → was ≡ draw_line r memory row was
  unfolding draw_line
  no_row l = rw (le-ltb row.0 frame_rows (omega arith))

  no_part : length was ≢ width → was ≡ draw_line r memory row was
  unfolding draw_line
  no_part n = rw (ne_eqb (length was) width n) (either (ltb row.0 frame_rows) (leb memory_size (length memory)) _)
    where
      either : (a b : Bool) (drawn : List ℕ) → was ≡ cond (a && b && false) drawn was
      either true true drawn = refl
      either true false drawn = refl
      either false true drawn = refl
      either false false drawn = refl

  module _ (l : row.0 ≤ height) where
    memory_short : length memory < memory_size → was ≡ draw_line r memory row was
    unfolding draw_line
    memory_short k = rw (lt-ltb row.0 frame_rows (omega arith), lt-leb memory_size (length memory) k)

    row_drawn : memory_size ≤ length memory → length was ≡ width → {first later : List ℕ} → first ≡ take memory_size memory → later ≡ line width (segment r first (row_shows (scan_of r) row)) → later ≡ draw_line r memory row was
    unfolding draw_line
    row_drawn k e same drawn = drawn ∙ ap (λ (bytes : List ℕ). line width (segment r bytes (row_shows (scan_of r) row))) same ∙ line_first r memory row ∙ rw (lt-ltb row.0 frame_rows (omega arith), le-leb memory_size (length memory) k, eq-eqb (length was) width e)

pub returns-then-row-gt-HEIGHT : goal.returns-then-row-gt-HEIGHT
returns-then-row-gt-HEIGHT c =
    let a = c.args in
    elim c.then-row-gt-HEIGHT.branch [
      | then-row-gt-HEIGHT-via-then-row-gt-HEIGHT w ↦ no_row a.registers a.memory.now a.row a.places.now w.if-row-gt-HEIGHT.true
      | then-row-gt-HEIGHT-via-else-row-gt-HEIGHT+then-places-ne-WIDTH w ↦ no_part a.registers a.memory.now a.row a.places.now w.if-places-ne-WIDTH.true
    ]

pub returns-in-Some : goal.returns-in-Some
returns-in-Some c =
    let a = c.args in
    let first = c.in-Some.ensures.cases in
    row_drawn a.registers a.memory.now a.row a.places.now (omega arith) first.enough (omega arith) first.same c.draw_row.ensures

pub returns-in_default : goal.returns-in_default
returns-in_default c =
    let a = c.args in
    memory_short a.registers a.memory.now a.row a.places.now (omega arith) c.in_default.ensures.cases
