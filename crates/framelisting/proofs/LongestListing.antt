-- No listing is longer than 27,408 bytes, or 61,728 with the wide frame, by what each of its parts can take; and one listing is that long.
-- Assumes nothing.
use Prim.Native.Nat.{ℕ, zero, suc, ◌+◌, ◌-◌, ◌*◌, ◌/◌, ◌%◌, ◌^◌, ◌≤◌, ◌<◌}
use mathlib.Core.Path.{◌≡◌, refl}
use mathlib.Core.Bool.{Bool, true, false, cond, ◌&&◌, false≢true}
use mathlib.Core.Logic.{⊎_elim}
use mathlib.Core.List.{List, [], ◌∷◌, ◌++◌}
use native.Mathlib.Nat.{not-suc-le-zero, eq-or-lt_of_le, add-zero, add-suc, suc-add, zero-mul, suc-mul, pow-suc}
use native.Mathlib.Omega.{arith}
use borrow.Author.Tests.{ltb-true, ltb-false, lt-ltb, leb-true, eqb-false}
use lib.Dec.{ltb, leb, eqb, lit≤}
use lib.Seq.{take_at, drop-append-add}
use lib.ListN.{length, length-append, length-take, drop, take}
use Rattle.constants.specs.Sizes.{width, wide_width, frame_rows, longest_listing, longest_wide_listing}
use Rattle.framelisting.specs.Ascii.{ascii}
use Rattle.framelisting.specs.Decimal.{digits, decimal}
use Rattle.framelisting.specs.Runs.{lit, any_lit, leading, runs_from, runs}
use Rattle.framelisting.specs.Text.{run_text, runs_text, line, row_of, lines, refused_text, listing_across}
use Rattle.framelisting.specs.LongestListing.{turns, striped, AtMost, Longest, LongestListing}
use Rattle.framelisting.proofs.AlongRow.{leading_length, gap}
use Rattle.framelisting.proofs.LengthsOfText.{run_length, line_length, refused_length, header_length, listing_length}

-- a number below 10 to the k has at most k digits
few_digits : (f k n : ℕ) → n < 10 ^ suc k → length (digits f n) ≤ suc k
unfolding digits
few_digits zero k n h = omega arith
few_digits (suc f) zero n h = rw (lt-ltb n 10 h) (lit≤ tt)
few_digits (suc f) (suc k) n h = by (ltb n 10) (few_digits f k (n / 10) (omega (arith, h, pow-suc 10 (suc k))))
  where
    by : (t : Bool) → length (digits f (n / 10)) ≤ suc k → length (cond t [] (digits f (n / 10)) ++ ((48 + n % 10) ∷ [])) ≤ suc (suc k)
    by true r = omega arith
    by false r = omega (arith, r, length-append (digits f (n / 10)) ((48 + n % 10) ∷ []))

-- a larger number has no fewer digits
digits_rise : (f m n : ℕ) → m ≤ n → length (digits f m) ≤ length (digits f n)
unfolding digits
digits_rise zero m n h = omega arith
digits_rise (suc f) m n h =
    by (ltb m 10) (ltb n 10) refl refl (digits_rise f (m / 10) (n / 10) (omega (arith, h)))
  where
    by : (t u : Bool) → ltb m 10 ≡ t → ltb n 10 ≡ u → length (digits f (m / 10)) ≤ length (digits f (n / 10)) → length (cond t [] (digits f (m / 10)) ++ ((48 + m % 10) ∷ [])) ≤ length (cond u [] (digits f (n / 10)) ++ ((48 + n % 10) ∷ []))
    by true true d e r = omega arith
    by true false d e r = omega (arith, length-append (digits f (n / 10)) ((48 + n % 10) ∷ []))
    by false true d e r = absurd (omega (arith, h, ltb-false m 10 d, ltb-true n 10 e))
    by false false d e r = omega (arith, r, length-append (digits f (m / 10)) ((48 + m % 10) ∷ []), length-append (digits f (n / 10)) ((48 + n % 10) ∷ []))

-- nor is it written shorter
width_rises : (m n : ℕ) → m ≤ n → length (decimal m) ≤ length (decimal n)
unfolding decimal
width_rises m n h = digits_rise 20 m n h

-- What the runs of the last n places of a row w wide can take: most where every second place is lit, from the first of them on.
most : ℕ → ℕ → ℕ
most w zero = 0
most w (suc zero) = 2 * (1 + length (decimal (w - 1)))
most w (suc (suc n)) = 2 * (1 + length (decimal (w - 2 - n))) + most w n

-- the test that a place more never takes less, for so many places
rising : ℕ → ℕ → Bool
rising w zero = true
rising w (suc n) = leb (most w n) (most w (suc n)) && rising w n

rising_at : (w m n : ℕ) → rising w m ≡ true → n < m → most w n ≤ most w (suc n)
unfolding rising
rising_at w zero n e h = absurd (not-suc-le-zero h)
rising_at w (suc m) n e h = by (leb (most w m) (most w (suc m))) refl e (rising_at w m n)
  where
    by : (t : Bool) → leb (most w m) (most w (suc m)) ≡ t → t && rising w m ≡ true → (rising w m ≡ true → n < m → most w n ≤ most w (suc n)) → most w n ≤ most w (suc n)
    by true d e more = ⊎_elim (λ q. rw q (leb-true (most w m) (most w (suc m)) d)) (more e) (eq-or-lt_of_le (omega (arith, h)))
    by false d e more = absurd (false≢true e)

-- what n lines from row p on can take
tall : ℕ → ℕ → ℕ → ℕ
tall w zero p = 0
tall w (suc n) p = length (decimal p) + most w w + 1 + tall w n (suc p)

-- what a stopped run prints
refused_most : (number offset : ℕ) → number < 256 → offset < 2 ^ 64 → length (refused_text number offset) ≤ 36
unfolding refused_text decimal
refused_most number offset h k = by (eqb number 0) refl
  where
    by : (t : Bool) → eqb number 0 ≡ t → length (refused_text number offset) ≤ 36
    by true e = rw e (omega arith)
    by false e =
        omega (arith, refused_length number offset (eqb-false number 0 e), few_digits 20 2 number (omega (arith, h)), few_digits 20 19 offset (omega (arith, k)))

-- and one prints that much
refused_all : length (refused_text 255 (2 ^ 64 - 1)) ≡ 36
unfolding refused_text ascii decimal digits
refused_all = refl

-- What is computed for a width.
record Figures (w longest : ℕ) : Type 0 where
  -- a place more never takes less
  rises : rising w w ≡ true
  -- rows by turns are so wide
  even : length (turns (w / 2)) ≡ w
  -- have lit places
  shows : any_lit (turns (w / 2)) ≡ true
  -- and take the most that a row can
  full : length (runs_text (runs (turns (w / 2)))) ≡ most w w
  -- which in all rows is, with what a stopped run prints, the first line and the last
  all : tall w frame_rows 0 + length (decimal w) + 50 ≡ longest

module _ (w longest : ℕ) (figures : Figures w longest) where
  -- more places never take less
  most_rises : (n k : ℕ) → n + k ≤ w → most w n ≤ most w (n + k)
  most_rises n zero h = rw add-zero (omega arith)
  most_rises n (suc k) h = rw add-suc (omega (arith, most_rises n k (omega (arith, h)), rising_at w w (n + k) figures.rises (omega (arith, h))))

  -- a place that is lit by itself, and the dark place after it
  step : (y : ℕ) → y < w → 2 * (1 + length (decimal y)) + most w (w - (y + 2)) ≤ most w (w - y)
  unfolding most
  step y h = by (w - y) refl
    where
      by : (n : ℕ) → w - y ≡ n → 2 * (1 + length (decimal y)) + most w (w - (y + 2)) ≤ most w n
      by zero e = absurd (omega (arith, e, h))
      by (suc zero) e =
          let last : y ≡ w - 1 = omega (arith, e, h) in
          let none : w - (y + 2) ≡ 0 = omega (arith, e, h) in
          rw (none, last) (omega arith)
      by (suc (suc n)) e =
          let here : y ≡ w - 2 - n = omega (arith, e, h) in
          let left : w - (y + 2) ≡ n = omega (arith, e, h) in
          rw (left, here) (omega arith)

  -- the runs of the places from x + n on
  runs_most : (x n : ℕ) (row : List ℕ) → x + length row ≤ w → length (runs_text (runs_from x n row)) ≤ most w (w - (x + n))
  unfolding runs_from runs_text
  runs_most x n [] h = omega arith
  runs_most x (suc n) (b ∷ row) h = rw (add-suc, ← suc-add) (runs_most (suc x) n row (omega (arith, h)))
  runs_most x zero (zero ∷ row) h =
      let e : w - (x + 0) ≡ w - (suc x + 0) + 1 = omega (arith, h) in
      rw e (omega (arith, runs_most (suc x) 0 row (omega (arith, h)), most_rises (w - (suc x + 0)) 1 (omega (arith, h))))
  runs_most x zero (suc b ∷ row) h =
      let k = leading row in
      let within : k ≤ length row = leading_length row in
      let after : w - (suc x + suc k) ≡ w - (x + k + 2) = omega arith in
      let all : w - (x + k) + k ≡ w - (x + 0) = omega (arith, h, within) in
      rw (length-append, gap (suc x) row)
      (omega (
        arith,
        run_length (record { first = x; last = x + k }),
        width_rises x (x + k) (omega arith),
        rw after at (runs_most (suc x) (suc k) row (omega (arith, h))),
        step (x + k) (omega (arith, h, within)),
        rw all at (most_rises (w - (x + k)) k (omega (arith, h, within))),
      ))

  -- the line of a row: its number, its runs and the newline
  line_most : (p : ℕ) (row : List ℕ) → length row ≤ w → length (line p row) ≤ length (decimal p) + most w w + 1
  unfolding line runs
  line_most p row h = by (any_lit row) refl
    where
      by : (t : Bool) → any_lit row ≡ t → length (line p row) ≤ length (decimal p) + most w w + 1
      by true e =
          let whole : w - (0 + 0) ≡ w = omega arith in
          omega (arith, line_length p row e, rw whole at (runs_most 0 0 row (omega (arith, h))))
      by false e = rw e (omega arith)

  lines_most : (frame : List ℕ) (n p : ℕ) → length (lines w frame n p) ≤ tall w n p
  unfolding lines tall row_of
  lines_most frame zero p = omega arith
  lines_most frame (suc n) p =
      let row = take w (drop (p * w) frame) in
      rw length-append
      (omega (arith, line_most p row (omega (arith, length-take w (drop (p * w) frame))), lines_most frame n (suc p)))

  -- no listing is longer
  at_most : AtMost w longest
  at_most number offset frame h k =
      omega (arith, listing_length w number offset frame, refused_most number offset h k, header_length w, lines_most frame frame_rows 0, figures.all)

  -- each row of a striped frame is the same
  stripe : (n p : ℕ) → p < n → row_of w (striped w n) p ≡ turns (w / 2)
  unfolding row_of
  stripe zero p h = absurd (not-suc-le-zero h)
  stripe (suc n) zero h = rw zero-mul (take_at (turns (w / 2)) (striped w n) w figures.even)
  stripe (suc n) (suc p) h =
      let e : suc p * w ≡ length (turns (w / 2)) + p * w = omega (arith, suc-mul p w, figures.even) in
      rw (e, drop-append-add (turns (w / 2)) (striped w n) (p * w)) (stripe n p (omega (arith, h)))

  -- and takes the most that it can
  stripe_lines : (n p : ℕ) → p + n ≤ frame_rows → length (lines w (striped w frame_rows) n p) ≡ tall w n p
  unfolding lines tall
  stripe_lines zero p h = refl
  stripe_lines (suc n) p h =
      rw (length-append, stripe frame_rows p (omega (arith, h)), line_length p (turns (w / 2)) figures.shows, figures.full, stripe_lines n (suc p) (omega (arith, h)))

  -- and one is that long
  reached : length (listing_across w 255 (2 ^ 64 - 1) (striped w frame_rows)) ≡ longest
  reached = omega (arith, listing_length w 255 (2 ^ 64 - 1) (striped w frame_rows), refused_all, header_length w, stripe_lines frame_rows 0 (lit≤ tt), figures.all)

  longest_across : Longest w longest
  longest_across = record { at_most = at_most; reached = reached }

-- each by computing
narrow : Figures width longest_listing
unfolding rising most tall decimal digits lit any_lit leading runs_from runs run_text runs_text ascii
narrow = record { rises = refl; even = refl; shows = refl; full = refl; all = refl }

wide : Figures wide_width longest_wide_listing
unfolding rising most tall decimal digits lit any_lit leading runs_from runs run_text runs_text ascii
wide = record { rises = refl; even = refl; shows = refl; full = refl; all = refl }

pub longest_listing_lem : LongestListing
longest_listing_lem = record { narrow = longest_across width longest_listing narrow; wide = longest_across wide_width longest_wide_listing wide }
