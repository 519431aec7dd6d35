-- Order 3: both directions turned are half a turn. A RAM row shown by both is shown with left and right exchanged, and COM k shows reversed what COM M - 1 - k shows normal.
-- Assumes nothing.
use mathlib.Core.Path.{◌≡◌, refl, sym, ◌∙◌, ap}
use mathlib.Core.Logic.{◌↔◌}
use mathlib.Core.Bool.{true}
use mathlib.Core.List.{List}
use Prim.Native.Nat.{ℕ, ◌+◌, ◌-◌, ◌%◌, ◌≤◌, ◌<◌}
use native.Mathlib.Omega.{arith}
use native.Mathlib.Decide.{dec_lt}
use Rattle.constants.specs.Sizes.{width, height}
use Rattle.bus.specs.Places.{column_direction, row_direction}
use Rattle.bus.specs.Registers.{image_of, ◌with◌≔◌}
use Rattle.bus.specs.Image.{legal}
use Rattle.bus.specs.Directions.{undirected}
use Rattle.bus.specs.declared.registers.Registers.{Registers}
use Rattle.picture.specs.Scan.{ram_row, column_of}
use Rattle.picture.specs.Rows.{rows_in_use, rows_above}
use Rattle.picture.specs.Frame.{shown_bit, while_on, segment}
use Rattle.picture.specs.FrameRules.{com_at}
use Rattle.picture.specs.HalfTurn.{upside_down, upright, HalfTurns}
use Rattle.picture.specs.declared.rows.RamRow.{RamRow}
use Rattle.picture.specs.Shown.{Shown}
use Rattle.picture.proofs.Places.{frame_place}
use Rattle.picture.proofs.FrameRules.{dark_shows, row_dark, row_normal, row_reversed, icons_shown}
use Rattle.picture.proofs.CentredBand.{centred_band}

-- t rows above n, and as many below: rows p and 63 - p are both among the n or both not, as far from either end
turned_inside : (t n p : ℕ) → t + t + n ≡ 64 → t ≤ p → p < t + n → (t ≤ 63 - p) × (63 - p < t + n)
turned_inside t n p sum l h = (omega arith, omega arith)

turned_back : (t n p : ℕ) → t + t + n ≡ 64 → p < 64 → t ≤ 63 - p → 63 - p < t + n → (t ≤ p) × (p < t + n)
turned_back t n p sum a l h = (omega arith, omega arith)

turned_com : (t n p i j : ℕ) → t + t + n ≡ 64 → t ≤ p → p < t + n → i ≡ p - t → j ≡ 63 - p - t → i + j + 1 ≡ n
turned_com t n p i j sum l h e f = omega arith

-- the COM of a panel row that is not above the band, where the offset is 0
below_the_top : (r : Registers) → r.offset ≡ 0 → (p : ℕ) → p < height → rows_above r ≤ p → com_at r p ≡ p - rows_above r
below_the_top r none p a top = ap (λ o. (p + o + 64 - rows_above r) % 64) none ∙ round (rows_above r) top
  where
    round : (t : ℕ) → t ≤ p → (p + 0 + 64 - t) % 64 ≡ p - t
    round t h = omega arith

module _ (r : Registers) (in_range : legal (image_of r) ≡ true) (memory : List ℕ) where
  abbrev turned : Registers
  turned = r with column_direction ≔ 1 with row_direction ≔ 1

  -- a RAM row that both show
  mirrored : (row : RamRow) (x : ℕ) → segment turned memory (Shown.Ram row) x ≡ segment (undirected r) memory (Shown.Ram row) (131 - x)
  unfolding segment while_on shown_bit column_of
  mirrored row x = refl

  in_use : (p q x : ℕ) → p < height → q < height → x < width → com_at r p + com_at r q + 1 ≡ rows_in_use r → upside_down r memory p x ≡ upright r memory q (131 - x)
  in_use p q x a b k h =
      let same : r.start + rows_in_use r - 1 - com_at r p ≡ r.start + com_at r q = omega arith in
      frame_place turned memory p x (omega arith) k ∙
      ap (λ shown. segment turned memory shown x) (row_reversed turned memory p a refl (omega arith) ∙ ap (λ n. Shown.Ram (ram_row (n % 64))) same) ∙
      mirrored (ram_row ((r.start + com_at r q) % 64)) x ∙
      ap (λ shown. segment (undirected r) memory shown (131 - x)) (sym (row_normal (undirected r) memory q b refl (omega arith))) ∙
      sym (frame_place (undirected r) memory q (131 - x) (omega arith) (omega arith))

  both_dark : (p q x : ℕ) → p < height → q < height → x < width → rows_in_use r ≤ com_at r p → rows_in_use r ≤ com_at r q → upside_down r memory p x ≡ upright r memory q (131 - x)
  both_dark p q x a b k h g =
      frame_place turned memory p x (omega arith) k ∙
      ap (λ shown. segment turned memory shown x) (row_dark turned memory p a h) ∙
      dark_shows turned memory x ∙
      sym (dark_shows (undirected r) memory (131 - x)) ∙
      ap (λ shown. segment (undirected r) memory shown (131 - x)) (sym (row_dark (undirected r) memory q b g)) ∙
      sym (frame_place (undirected r) memory q (131 - x) (omega arith) (omega arith))

  -- above the band are as many rows as below it
  as_many : rows_in_use r % 2 ≡ 0 → (t : ℕ) → t ≡ rows_above r → t + t + rows_in_use r ≡ 64
  as_many even t e = omega (arith, (centred_band.band r in_range).middle)

  panel_rows : r.offset ≡ 0 → rows_in_use r % 2 ≡ 0 → (p x : ℕ) → p < height → x < width → upside_down r memory p x ≡ upright r memory (63 - p) (131 - x)
  panel_rows none even p x a k = by (dec_lt (com_at r p) (rows_in_use r)) (dec_lt (com_at r (63 - p)) (rows_in_use r))
    where
      sum : rows_above r + rows_above r + rows_in_use r ≡ 64
      sum = as_many even (rows_above r) refl

      inside : (q : ℕ) → q < height → (com_at r q < rows_in_use r) ↔ (rows_above r ≤ q) × (q < rows_above r + rows_in_use r)
      inside = (centred_band.band r in_range).unmoved none

      by : Dec (com_at r p < rows_in_use r) → Dec (com_at r (63 - p) < rows_in_use r) → upside_down r memory p x ≡ upright r memory (63 - p) (131 - x)
      by (yes used) other =
          let here = (inside p a).0 used in
          let there = turned_inside (rows_above r) (rows_in_use r) p sum here.0 here.1 in
          in_use p (63 - p) x a (omega arith) k (turned_com (rows_above r) (rows_in_use r) p _ _ sum here.0 here.1 (below_the_top r none p a here.0) (below_the_top r none (63 - p) (omega arith) there.0))
      by (no unused) (no dark) = both_dark p (63 - p) x a (omega arith) k (omega arith) (omega arith)
      by (no unused) (yes used) =
          let there = (inside (63 - p) (omega arith)).0 used in
          absurd (unused ((inside p a).1 (turned_back (rows_above r) (rows_in_use r) p sum a there.0 there.1)))

  icons : (x : ℕ) → x < width → upside_down r memory height x ≡ upright r memory height (131 - x)
  icons x k =
      frame_place turned memory height x (omega arith) k ∙
      ap (λ shown. segment turned memory shown x) (icons_shown turned memory) ∙
      mirrored (ram_row 64) x ∙
      ap (λ shown. segment (undirected r) memory shown (131 - x)) (sym (icons_shown (undirected r) memory)) ∙
      sym (frame_place (undirected r) memory height (131 - x) (omega arith) (omega arith))

pub half_turns : HalfTurns
half_turns r in_range memory =
    record { in_use = in_use r in_range memory; panel_rows = panel_rows r in_range memory; icons = icons r in_range memory }
