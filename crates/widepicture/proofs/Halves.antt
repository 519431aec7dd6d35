-- Each half of the wide frame is the frame of its chip, and the halves decide a wide frame.
-- Assumes nothing.
use mathlib.Core.Path.{◌≡◌, sym, ◌∙◌, ap}
use mathlib.Core.List.{List, ◌++◌}
use Prim.Native.Nat.{ℕ, ◌+◌, ◌*◌, ◌-◌, ◌≤◌, ◌<◌}
use native.Mathlib.Omega.{arith}
use native.Mathlib.Nat.{le_of_eq}
use native.Mathlib.Decide.{dec_lt}
use lib.ListN.{length, get_or, drop, length-take, length-drop}
use lib.Seq.{take_at, drop_at, take_all, take-add, take-append-le, drop-append-le, get_or-take, get_or-drop}
use Rattle.constants.specs.Sizes.{width, frame_rows, wide_width, wide_frame_size}
use Rattle.bus.specs.Chip.{Chip}
use Rattle.picture.specs.Frame.{row_of, place_of}
use Rattle.picture.proofs.Places.{frame_length}
use Rattle.picture.proofs.Drawing.{drawing}
use Rattle.widebus.specs.Pair.{Pair, at, opposite}
use Rattle.widebus.specs.declared.selection.Side.{Side}
use Rattle.widepicture.specs.WideFrame.{frame_of, wide_frame, first_column, half_row, half_of}
use Rattle.widepicture.specs.Halves.{Halves}
use Rattle.widepicture.proofs.RowByRow.{row_length, row_place, rows_all, rows_same, rows_row, beside_length, side_length}
use Rattle.widepicture.proofs.HalfRows.{column_within, frame_row_length}

-- a place of a row lies in a side's half, or in the other
pub data Where (side : Side) (x : ℕ) : Type 0 where
  own : (k : ℕ) → k < width → x ≡ first_column side + k → Where side x
  beyond : (k : ℕ) → k < width → x ≡ first_column (opposite side) + k → Where side x

pub where_is : (side : Side) (x : ℕ) → x < wide_width → Where side x
where_is side x l = either side (dec_lt x width)
  where
    either : (s : Side) → Dec (x < width) → Where s x
    either Side.Left (yes k) = own x k (omega arith)
    either Side.Left (no n) = beyond (x - width) (omega arith) (omega arith)
    either Side.Right (yes k) = beyond x k (omega arith)
    either Side.Right (no n) = own (x - width) (omega arith) (omega arith)

-- a half's row of any list: what stands at its places, and its length
half_place : (side : Side) (y x : ℕ) (places : List ℕ) → x < width → get_or (half_row side y places) x 0 ≡ place_of wide_width y (first_column side + x) places
unfolding half_row
half_place side y x places k =
    get_or-take width (drop (first_column side) (row_of wide_width y places)) x 0 k ∙
    get_or-drop (first_column side) (row_of wide_width y places) x 0 ∙
    row_place wide_width y (first_column side + x) places (omega (arith, column_within side))

half_row_length : (side : Side) (y : ℕ) (places : List ℕ) → y < frame_rows → wide_frame_size ≤ length places → length (half_row side y places) ≡ width
unfolding half_row
half_row_length side y places l long = rw (length-take, length-drop, row_length wide_width y places (omega arith)) (omega (arith, column_within side))

module _ (chips : Pair Chip) where
  wide_row : (y : ℕ) → y < frame_rows → row_of wide_width y (wide_frame chips) ≡ row_of width y (frame_of chips.left) ++ row_of width y (frame_of chips.right)
  unfolding wide_frame
  wide_row y l = rows_row wide_width frame_rows (λ z. row_of width z (frame_of chips.left) ++ row_of width z (frame_of chips.right)) (beside_length width frame_rows (frame_of chips.left) (frame_of chips.right) (long chips.left) (long chips.right)) y l
    where
      long : (chip : Chip) → frame_rows * width ≤ length (frame_of chip)
      long chip = le_of_eq (sym (frame_length chip.registers chip.memory))

  pub half_row_lem : (side : Side) (y : ℕ) → y < frame_rows → half_row side y (wide_frame chips) ≡ row_of width y (frame_of (at side chips))
  unfolding half_row
  half_row_lem Side.Left y l = rw (wide_row y l) (take_at (row_of width y (frame_of chips.left)) (row_of width y (frame_of chips.right)) width (frame_row_length chips.left.registers chips.left.memory y l))
  half_row_lem Side.Right y l =
      rw (wide_row y l, drop_at (row_of width y (frame_of chips.left)) (row_of width y (frame_of chips.right)) width (frame_row_length chips.left.registers chips.left.memory y l))
      (take_all width (row_of width y (frame_of chips.right)) (le_of_eq (frame_row_length chips.right.registers chips.right.memory y l)))

  pub half_frame : (side : Side) → half_of side (wide_frame chips) ≡ frame_of (at side chips)
  unfolding half_of
  half_frame side =
      rows_same frame_rows (λ y. half_row side y (wide_frame chips)) (λ y. row_of width y (frame_of (at side chips))) (half_row_lem side) ∙
      rows_all width frame_rows (frame_of (at side chips)) (frame_length (at side chips).registers (at side chips).memory)

  pub wide_place : (side : Side) (y x : ℕ) → y < frame_rows → x < width → place_of wide_width y (first_column side + x) (wide_frame chips) ≡ place_of width y x (frame_of (at side chips))
  wide_place side y x l k =
      sym (half_place side y x (wide_frame chips) k) ∙
      ap (λ (row : List ℕ). get_or row x 0) (half_row_lem side y l) ∙
      row_place width y x (frame_of (at side chips)) k

  pub wide_length : length (wide_frame chips) ≡ wide_frame_size
  unfolding wide_frame
  wide_length = side_length width frame_rows (frame_of chips.left) (frame_of chips.right) (le_of_eq (sym (frame_length chips.left.registers chips.left.memory))) (le_of_eq (sym (frame_length chips.right.registers chips.right.memory)))

  dark_or_lit : (y x : ℕ) → y < frame_rows → x < wide_width → place_of wide_width y x (wide_frame chips) < 2
  dark_or_lit y x l k = either (where_is Side.Left x k)
    where
      shade : (side : Side) (n : ℕ) → n < width → x ≡ first_column side + n → place_of wide_width y x (wide_frame chips) < 2
      shade side n m e = rw (e, wide_place side y n l m) ((drawing.picture (at side chips).registers (at side chips).memory).dark_or_lit y n l m)

      either : Where Side.Left x → place_of wide_width y x (wide_frame chips) < 2
      either (own n m e) = shade Side.Left n m e
      either (beyond n m e) = shade Side.Right n m e

-- a row of a wide frame is its two halves
row_halves : (y : ℕ) (places : List ℕ) → y < frame_rows → length places ≡ wide_frame_size → row_of wide_width y places ≡ half_row Side.Left y places ++ half_row Side.Right y places
unfolding half_row
row_halves y places l e =
    sym (take_all wide_width (row_of wide_width y places) (le_of_eq (row_length wide_width y places (omega arith)))) ∙
    take-add width width (row_of wide_width y places)

-- a half's row is a row of the half
half_of_row : (side : Side) (y : ℕ) (places : List ℕ) → y < frame_rows → length places ≡ wide_frame_size → row_of width y (half_of side places) ≡ half_row side y places
unfolding half_of
half_of_row side y places l e = rows_row width frame_rows (λ z. half_row side z places) (λ z k. half_row_length side z places k (le_of_eq (sym e))) y l

nothing_else : (places others : List ℕ) → length places ≡ wide_frame_size → length others ≡ wide_frame_size → ((side : Side) → half_of side places ≡ half_of side others) → places ≡ others
nothing_else places others e d same =
    sym (rows_all wide_width frame_rows places e) ∙
    rows_same frame_rows (λ y. row_of wide_width y places) (λ y. row_of wide_width y others) row ∙
    rows_all wide_width frame_rows others d
  where
    part : (side : Side) (y : ℕ) → y < frame_rows → half_row side y places ≡ half_row side y others
    part side y l = sym (half_of_row side y places l e) ∙ ap (row_of width y) (same side) ∙ half_of_row side y others l d

    row : (y : ℕ) → y < frame_rows → row_of wide_width y places ≡ row_of wide_width y others
    row y l = row_halves y places l e ∙ rw (part Side.Left y l, part Side.Right y l) (sym (row_halves y others l d))

-- what follows a wide frame is in neither half
pub half_front : (side : Side) (places rest : List ℕ) → length places ≡ wide_frame_size → half_of side (places ++ rest) ≡ half_of side places
unfolding half_of half_row row_of
half_front side places rest e =
    rows_same frame_rows (λ y. half_row side y (places ++ rest)) (λ y. half_row side y places) (λ y l.
    rw (drop-append-le (y * wide_width) places rest (omega arith), take-append-le wide_width (drop (y * wide_width) places) rest (rw length-drop (omega arith))))

pub halves : Halves
halves = record {
  of_chips = λ chips. record { size = wide_length chips; dark_or_lit = dark_or_lit chips; left_then_right = wide_row chips; half = half_frame chips; place = wide_place chips };
  nothing_else = nothing_else;
}
