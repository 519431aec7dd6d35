-- A row of one chip, drawn by picture's own call into its half of a wide row, is that row of the chip's frame.
-- Assumes nothing.
use mathlib.Core.Path.{◌≡◌, refl, sym, ◌∙◌, ap}
use mathlib.Core.List.{List, ◌++◌, append-nil}
use Prim.Native.Nat.{ℕ, zero, suc, ◌+◌, ◌*◌, ◌≤◌, ◌<◌}
use native.Mathlib.Omega.{arith}
use native.Mathlib.Nat.{le_of_eq}
use native.Mathlib.Numerals.{add-one}
use borrow.Author.Tests.{lt-ltb, le-leb, eq-eqb}
use lib.ListN.{length, take, drop, length-take, length-drop, take-append-drop, drop_of_length-le}
use lib.Seq.{length-take-le, drop-drop}
use Rattle.constants.specs.Sizes.{width, memory_size, frame_rows, frame_size, wide_width, wide_frame_size}
use Rattle.bus.specs.declared.registers.Registers.{Registers}
use Rattle.picture.specs.Scan.{panel_row}
use Rattle.picture.specs.Frame.{frame, row_of}
use Rattle.picture.specs.DrawLine.{draw_line}
use Rattle.picture.proofs.Places.{frame_length, frame_row}
use Rattle.widebus.specs.Pair.{chips_of}
use Rattle.widebus.specs.declared.both.Both.{Both}
use Rattle.widebus.specs.declared.selection.Side.{Side}
use Rattle.widepicture.specs.WideFrame.{row_by_row, side_by_side, wide_frame, first_column}
use Rattle.widepicture.specs.WideDraw.{written_at, rows_written}
use Rattle.widepicture.proofs.RowByRow.{row_length, side_length, written_length, written_front, written_after, row_written}

-- there is room for a half
pub column_within : (side : Side) → first_column side ≤ width
column_within Side.Left = omega arith
column_within Side.Right = omega arith

pub frame_row_length : (r : Registers) (memory : List ℕ) (y : ℕ) → y < frame_rows → length (row_of width y (frame r memory)) ≡ width
frame_row_length r memory y l = row_length width y (frame r memory) (rw (frame_length r memory) (omega arith))

-- what the call draws
line_drawn : (r : Registers) (memory : List ℕ) (y : ℕ) (was : List ℕ) → y < frame_rows → memory_size ≤ length memory → length was ≡ width → draw_line r memory (panel_row y) was ≡ row_of width y (frame r memory)
unfolding draw_line
line_drawn r memory y was l k e = rw (lt-ltb y frame_rows l, le-leb memory_size (length memory) k, eq-eqb (length was) width e) (sym (frame_row r memory y l))

-- the part came back with it
half_written : (r : Registers) (memory : List ℕ) (y start k : ℕ) (was part : List ℕ) → y < frame_rows → memory_size ≤ length memory → start + width ≤ length was → k ≡ width
    → part ≡ draw_line r memory (panel_row y) (take k (drop start was)) → take start was ++ (part ++ drop k (drop start was)) ≡ written_at start (row_of width y (frame r memory)) was
unfolding written_at
half_written r memory y start k was part l long room e drawn =
    let row = line_drawn r memory y (take k (drop start was)) l long (rw (length-take, length-drop) (omega arith)) in
    rw (drawn ∙ row, frame_row_length r memory y l, e, drop-drop width start was)

-- rows of one chip, written into a wide frame
module _ (first : ℕ) (k : first ≤ width) (own : List ℕ) (e : length own ≡ frame_size) where
  own_row_length : (y : ℕ) → y < frame_rows → length (row_of width y own) ≡ width
  own_row_length y l = row_length width y own (omega arith)

  pub rows_written_length : (h : ℕ) (was : List ℕ) → h ≤ frame_rows → h * wide_width ≤ length was → length (rows_written first h own was) ≡ length was
  unfolding rows_written
  rows_written_length zero was l long = refl
  rows_written_length (suc h) was l long =
      let before = rows_written_length h was (omega arith) (omega arith) in
      written_length (h * wide_width + first) (row_of width h own) (rows_written first h own was) (rw (own_row_length h (omega arith), before) (omega arith)) ∙ before

  -- what follows those rows is as it was
  rows_front : (h : ℕ) (front rest : List ℕ) → h ≤ frame_rows → h * wide_width ≤ length front → rows_written first h own (front ++ rest) ≡ rows_written first h own front ++ rest
  unfolding rows_written
  rows_front zero front rest l long = refl
  rows_front (suc h) front rest l long =
      rw (rows_front h front rest (omega arith) (omega arith))
      (written_front (h * wide_width + first) (row_of width h own) (rows_written first h own front) rest (rw (own_row_length h (omega arith), rows_written_length h front (omega arith) (omega arith)) (omega arith)))

  -- so a part may be written after them before they are, or once they are
  rows_then_part : (h : ℕ) (part was : List ℕ) → h ≤ frame_rows → h * wide_width ≤ length was → rows_written first h own (written_at (h * wide_width) part was) ≡ written_at (h * wide_width) part (rows_written first h own was)
  rows_then_part h part was l long =
      let start = h * wide_width in
      let front = take start was in
      let rest = drop start was in
      let whole = sym (take-append-drop start was) in
      let Front-length = length-take-le start was long in
      ap (λ (places : List ℕ). rows_written first h own (written_at start part places)) whole ∙
      rw (written_after front rest part start Front-length, rows_front h front (part ++ drop (length part) rest) l (le_of_eq (sym Front-length)))
      (sym (written_after (rows_written first h own front) rest part start (rows_written_length h front l (le_of_eq (sym Front-length)) ∙ Front-length))) ∙
      ap (written_at start part) (sym (rows_front h front rest l (le_of_eq (sym Front-length)))) ∙
      ap (λ (places : List ℕ). written_at start part (rows_written first h own places)) (sym whole)

-- so with the rows of a chip's frame, as its loop has them
module _ (r : Registers) (memory : List ℕ) (first : ℕ) (k : first ≤ width) (was : List ℕ) (long : wide_frame_size ≤ length was) where
  pub rows_kept : (y : ℕ) → y ≤ frame_rows → {places : List ℕ} → places ≡ rows_written first y (frame r memory) was → length places ≡ length was
  rows_kept y l p = rw p (rows_written_length first k (frame r memory) (frame_length r memory) y was l (omega arith))

  -- one row more: its part came back with it
  pub rows_turn : (y n : ℕ) (places part : List ℕ) → y < frame_rows → memory_size ≤ length memory → places ≡ rows_written first y (frame r memory) was → n ≡ width
      → part ≡ draw_line r memory (panel_row y) (take n (drop (y * wide_width + first) places))
      → take (y * wide_width + first) places ++ (part ++ drop n (drop (y * wide_width + first) places)) ≡ rows_written first (y + 1) (frame r memory) was
  unfolding rows_written
  rows_turn y n places part l enough p m drawn =
      let kept = rows_kept y (omega arith) p in
      half_written r memory y (y * wide_width + first) n places part l enough (omega arith) m drawn ∙ rw (p, add-one)

-- the rows of both chips: the left one's, and then the right one's
module _ (left right : List ℕ) (e : length left ≡ frame_size) (d : length right ≡ frame_size) where
  both_written : (h : ℕ) (was : List ℕ) → h ≤ frame_rows → h * wide_width ≤ length was
      → rows_written (first_column Side.Right) h right (rows_written (first_column Side.Left) h left was) ≡ side_by_side width h left right ++ drop (h * wide_width) was
  unfolding rows_written row_by_row
  both_written zero was l long = refl
  both_written (suc h) was l long =
      let none : h * wide_width + 0 ≡ h * wide_width = omega arith in
      let next : suc h * wide_width ≡ h * wide_width + (width + width) = omega arith in
      let before = both_written h was (omega arith) (omega arith) in
      let long-left = rows_written_length 0 (omega arith) left e h was (omega arith) (omega arith) in
      rw (none, rows_then_part width (omega arith) right d h (row_of width h left) (rows_written 0 h left was) (omega arith) (omega arith), before, next)
      (row_written width (h * wide_width) (side_by_side width h left right) was (row_of width h left) (row_of width h right) (side_length width h left right (omega arith) (omega arith)) (row_length width h left (omega arith)) (row_length width h right (omega arith)))

-- nothing follows what fills all
all_written : (n : ℕ) (places was : List ℕ) → length was ≡ n → places ++ drop n was ≡ places
all_written n places was e = rw (drop_of_length-le was {i = n} (omega arith), append-nil)

-- so they are the wide frame
pub halves_drawn : (registers : Both) (left_memory right_memory was : List ℕ) → length was ≡ wide_frame_size → {middle later : List ℕ} → middle ≡ rows_written (first_column Side.Left) frame_rows (frame registers.left left_memory) was
    → later ≡ rows_written (first_column Side.Right) frame_rows (frame registers.right right_memory) middle → later ≡ wide_frame (chips_of registers left_memory right_memory)
unfolding wide_frame
halves_drawn registers left_memory right_memory was k p q =
    q ∙ rw p (both_written (frame registers.left left_memory) (frame registers.right right_memory) (frame_length _ _) (frame_length _ _) frame_rows was (omega arith) (omega arith) ∙ all_written (frame_rows * wide_width) _ was (omega arith))
