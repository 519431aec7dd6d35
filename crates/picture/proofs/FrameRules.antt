-- The rules of the frame, for any number of rows in use.
-- Assumes nothing.
use mathlib.Core.Path.{◌≡◌, refl, ◌∙◌, ap}
use mathlib.Core.List.{List}
use Prim.Native.Nat.{ℕ, zero, suc, ◌+◌, ◌-◌, ◌%◌, ◌≤◌, ◌<◌}
use native.Mathlib.Omega.{arith}
use borrow.Author.Tests.{lt-ltb, le-ltb}
use lib.Dec.{eqb}
use Rattle.bus.proofs.Tests.{chosen}
use Rattle.constants.specs.Sizes.{width, height}
use Rattle.bus.specs.declared.registers.Registers.{Registers}
use Rattle.picture.specs.Scan.{panel_row, com_number, ram_row, com_of, used, ram_row_of, panel_shows, row_shows, column_of}
use Rattle.picture.specs.Rows.{rows_in_use, scan_of}
use Rattle.picture.specs.Frame.{turned, shown_bit, while_on, segment}
use Rattle.picture.specs.FrameRules.{com_at, PanelRowRules, IconLineRules, SegmentRules, FrameRules}
use Rattle.picture.specs.declared.rows.RamRow.{RamRow}
use Rattle.picture.specs.Shown.{Shown}
use Rattle.picture.proofs.Lines.{line_same}
use Rattle.picture.proofs.Places.{frame_row, bits_show}

-- entire on lights what is shown
lit_shows : (r : Registers) (memory : List ℕ) (row : RamRow) (x : ℕ) → r.on ≡ 1 → r.entire ≡ 1 → segment r memory (Shown.Ram row) x ≡ 1
unfolding segment while_on
lit_shows r memory row x on entire = rw (on, entire)

-- what is dark stays dark
pub dark_shows : (r : Registers) (memory : List ℕ) (x : ℕ) → segment r memory Shown.Dark x ≡ 0
unfolding segment while_on
dark_shows r memory x = chosen (λ v. v ≡ 0) (eqb r.on 0) _ _ (λ e. refl) (λ e. refl)

module _ (r : Registers) (memory : List ℕ) (p : ℕ) (l : p < height) where
  -- the COM by the chip's scan and by the chip's own numbers
  com_at_lem : com_of (scan_of r) (panel_row p) ≡ com_number (com_at r p)
  unfolding com_of
  com_at_lem = ap (λ a. com_number (a % 64)) (omega arith)

  pub row_dark : rows_in_use r ≤ com_at r p → row_shows (scan_of r) (panel_row p) ≡ Shown.Dark
  unfolding row_shows panel_shows used
  row_dark h = rw (lt-ltb p height l, com_at_lem, le-ltb (com_at r p) (rows_in_use r) h)

  pub row_normal : r.row_direction ≡ 0 → com_at r p < rows_in_use r → row_shows (scan_of r) (panel_row p) ≡ Shown.Ram (ram_row ((r.start + com_at r p) % 64))
  unfolding row_shows panel_shows used ram_row_of
  row_normal d h = rw (lt-ltb p height l, com_at_lem, lt-ltb (com_at r p) (rows_in_use r) h, d)

  pub row_reversed : r.row_direction ≡ 1 → com_at r p < rows_in_use r → row_shows (scan_of r) (panel_row p) ≡ Shown.Ram (ram_row ((r.start + rows_in_use r - 1 - com_at r p) % 64))
  unfolding row_shows panel_shows used ram_row_of
  row_reversed d h = rw (lt-ltb p height l, com_at_lem, lt-ltb (com_at r p) (rows_in_use r) h, d)

  row_used : com_at r p < rows_in_use r → row_shows (scan_of r) (panel_row p) ≡ Shown.Ram (ram_row_of (scan_of r) (com_number (com_at r p)))
  unfolding row_shows panel_shows used
  row_used h = rw (lt-ltb p height l, com_at_lem, lt-ltb (com_at r p) (rows_in_use r) h)

  panel_row_rules : PanelRowRules r memory p
  panel_row_rules = record {
    dark = λ h. frame_row r memory p (omega arith) ∙ line_same width _ _ (λ x k. rw (row_dark h) (dark_shows r memory x));
    lit = λ on entire h. frame_row r memory p (omega arith) ∙ line_same width _ _ (λ x k. rw (row_used h) (lit_shows r memory _ x on entire));
    normal = λ on entire d h. frame_row r memory p (omega arith) ∙ line_same width _ _ (λ x k. rw (row_normal d h) (bits_show r memory _ x on entire));
    reversed = λ on entire d h. frame_row r memory p (omega arith) ∙ line_same width _ _ (λ x k. rw (row_reversed d h) (bits_show r memory _ x on entire));
  }

module _ (r : Registers) (memory : List ℕ) where
  pub icons_shown : row_shows (scan_of r) (panel_row height) ≡ Shown.Ram (ram_row 64)
  unfolding row_shows
  icons_shown = refl

  icon_line_rules : IconLineRules r memory
  icon_line_rules = record {
    shows = λ on entire. frame_row r memory height (omega arith) ∙ line_same width _ _ (λ x k. rw icons_shown (bits_show r memory _ x on entire));
    lit = λ on entire. frame_row r memory height (omega arith) ∙ line_same width _ _ (λ x k. rw icons_shown (lit_shows r memory _ x on entire));
  }

  segment_rules : (row : RamRow) (x : ℕ) → SegmentRules r memory row x
  unfolding shown_bit column_of
  segment_rules row x = record { normal = λ d. rw d; mirrored = λ d. rw d }

not_turned : (b : ℕ) → b < 2 → turned 0 b ≡ b
unfolding turned
not_turned zero l = refl
not_turned (suc zero) l = refl
not_turned (suc (suc b)) l = absurd (omega arith)

turned_round : (b : ℕ) → b < 2 → turned 1 b ≡ 1 - b
unfolding turned
turned_round zero l = refl
turned_round (suc zero) l = refl
turned_round (suc (suc b)) l = absurd (omega arith)

pub frame_rules : FrameRules
frame_rules = record { panel_rows = panel_row_rules; icon_line = icon_line_rules; segments = segment_rules; not_turned = not_turned; turned_round = turned_round }
