-- With all rows in use: which RAM row each row of the frame shows, and where a RAM row shows, over any scan; rows and columns are bijections.
-- Assumes nothing.
use mathlib.Core.Path.{◌≡◌, refl, ap}
use mathlib.Core.Bool.{Bool, true, false, cond}
use Prim.Native.Nat.{ℕ, ◌+◌, ◌-◌, ◌%◌, ◌<◌}
use native.Mathlib.Omega.{arith}
use native.Mathlib.Nat.{mod-lt}
use native.Mathlib.Decide.{dec_lt}
use lib.Dec.{ltb, eqb}
use borrow.Author.Tests.{lt-ltb, le-ltb}
use Rattle.picture.specs.Scan.{Scan, panel_row, ram_row, com_of, used, ram_row_of, panel_shows, row_shows, column_of}
use Rattle.bus.proofs.Tests.{chosen}
use Rattle.picture.proofs.Bijection.{Bijection}
use Rattle.picture.proofs.Turns.{turn_of, back_of, amount, turn_below, back_below, turn_back, back_turn, rule}
use Rattle.picture.specs.declared.rows.PanelRow.{PanelRow}
use Rattle.picture.specs.Shown.{Shown}

-- with all rows in use each COM is
pub all_used : (s : Scan) (row : PanelRow) → 0 < s.size → s.in_use ≡ s.size → used s (com_of s row) ≡ true
unfolding used com_of
all_used s row pos all = rw all (lt-ltb ((row.0 + s.shift) % s.size) s.size (mod-lt _ pos))

-- a turn of h panel rows that leaves the icon line
abbrev pub leaving_icons : ℕ → (ℕ → ℕ) → ℕ → ℕ
leaving_icons h turn y = cond (ltb y h) (turn y) h

leaving_below : (h : ℕ) (turn : ℕ → ℕ) → ((n : ℕ) → turn n < h) → (y : ℕ) → leaving_icons h turn y < h + 1
leaving_below h turn below y = chosen (λ n. n < h + 1) (ltb y h) _ _ (λ e. omega (arith, below y)) (λ e. omega arith)

leaving_back : (h : ℕ) (turn back : ℕ → ℕ) → ((n : ℕ) → back n < h) → ((n : ℕ) → n < h → turn (back n) ≡ n) → (n : ℕ) → n < h + 1 → leaving_icons h turn (leaving_icons h back n) ≡ n
leaving_back h turn back below undone n l = either (dec_lt n h)
  where
    either : Dec (n < h) → leaving_icons h turn (leaving_icons h back n) ≡ n
    either (yes k) = rw (lt-ltb n h k, lt-ltb (back n) h (below n)) (undone n k)
    either (no m) = rw (le-ltb n h (omega arith), le-ltb h h (omega arith)) (omega arith)

-- rows are a bijection, for any size and either direction: the RAM row that a row of the frame shows, and the row that shows a RAM row
pub rows_bijection : (h : ℕ) (normal : Bool) (c : ℕ) → c < h → Bijection (h + 1) (leaving_icons h (turn_of h normal c)) (leaving_icons h (back_of h normal c))
rows_bijection h normal c k =
    let pos : 0 < h = omega arith in
    record {
      there_in = λ y l. leaving_below h (turn_of h normal c) (λ n. turn_below h normal c n pos) y;
      back_in = λ n l. leaving_below h (back_of h normal c) (λ n. back_below h normal c n pos) n;
      there_back = λ n l. leaving_back h (turn_of h normal c) (back_of h normal c) (λ n. back_below h normal c n pos) (λ n l. turn_back h normal c n k l) n l;
      back_there = λ y l. leaving_back h (back_of h normal c) (turn_of h normal c) (λ n. turn_below h normal c n pos) (λ n l. back_turn h normal c n k l) y l;
    }

-- columns are a bijection, for any width and either direction
pub columns_bijection : (w direction : ℕ) → Bijection w (column_of w direction) (column_of w direction)
unfolding column_of
columns_bijection w direction = record { there_in = inside; back_in = inside; there_back = λ x l. twice x l (eqb direction 0); back_there = λ x l. twice x l (eqb direction 0) }
  where
    inside : (x : ℕ) → x < w → cond (eqb direction 0) x (w - 1 - x) < w
    inside x l = chosen (λ c. c < w) (eqb direction 0) _ _ (λ e. l) (λ e. omega arith)

    twice : (x : ℕ) → x < w → (normal : Bool) → cond normal (cond normal x (w - 1 - x)) (w - 1 - cond normal x (w - 1 - x)) ≡ x
    twice x l true = refl
    twice x l false = omega arith

either_row : (normal : Bool) (n m : ℕ) → cond normal (ram_row n) (ram_row m) ≡ ram_row (cond normal n m)
either_row true n m = refl
either_row false n m = refl

-- the amount that start line and shift come to, and the RAM row that a row shows
abbrev pub scroll_of : Scan → ℕ
scroll_of s = amount s.size (eqb s.direction 0) s.start (s.shift % s.size)

abbrev pub ram_by : Scan → ℕ → ℕ
ram_by s = leaving_icons s.size (turn_of s.size (eqb s.direction 0) (scroll_of s))

-- any scan with all rows in use shows by that turn
module _ (s : Scan) (all : s.in_use ≡ s.size) (start_in : s.start < s.size) where
  panel_shows_lem : (p : ℕ) → p < s.size → panel_shows s (panel_row p) ≡ Shown.Ram (ram_row (turn_of s.size (eqb s.direction 0) (scroll_of s) p))
  unfolding panel_shows ram_row_of com_of
  panel_shows_lem p l =
      rw (all_used s (panel_row p) (omega arith) all, all, either_row (eqb s.direction 0))
      (ap (λ n. Shown.Ram (ram_row n)) (rule s.size (eqb s.direction 0) s.start s.shift p start_in l))

  pub rows_shown : (y : ℕ) → row_shows s (panel_row y) ≡ Shown.Ram (ram_row (ram_by s y))
  unfolding row_shows
  rows_shown y = either (dec_lt y s.size)
    where
      either : Dec (y < s.size) → cond (ltb y s.size) (panel_shows s (panel_row y)) (Shown.Ram (ram_row s.size)) ≡ Shown.Ram (ram_row (ram_by s y))
      either (yes k) = rw (lt-ltb y s.size k) (panel_shows_lem y k)
      either (no n) = rw (le-ltb y s.size (omega arith))
