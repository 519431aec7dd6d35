-- Two listings that are equal are of one width, of one number, of one offset where the run stopped, and of one frame: read from the left, each piece tells what it is of.
-- Assumes nothing.
use Prim.Native.Nat.{ℕ, zero, suc, ◌+◌, ◌*◌, ◌/◌, ◌%◌, ◌^◌, ◌≤◌, ◌<◌}
use mathlib.Core.Path.{◌≡◌, refl, sym, ◌∙◌, ap, ap₂}
use mathlib.Core.Bool.{Bool, true, false, false≢true}
use mathlib.Core.List.{List, [], ◌∷◌, ◌++◌, append_assoc}
use mathlib.Core.Logic.{⊎_elim}
use native.Mathlib.Nat.{eq-or-lt_of_le, mod-lt, div-add-mod', div-lt_iff_lt-mul}
use native.Mathlib.Omega.{arith}
use borrow.Author.Tests.{eqb-true, eqb-false, ne_eqb}
use lib.Dec.{eqb, lit<, lit≤}
use lib.ListN.{length, length-take, get_or, take, drop}
use lib.Seq.{get_or-take, get_or-drop, ext_get_or}
use Rattle.constants.specs.Sizes.{frame_rows}
use Rattle.framelisting.specs.Ascii.{ascii}
use Rattle.framelisting.specs.Decimal.{decimal}
use Rattle.framelisting.specs.Runs.{Run, lit, any_lit, leading, runs_from, runs}
use Rattle.framelisting.specs.Text.{run_text, runs_text, line, row_of, lines, frame_text, refused_text}
use Rattle.framelisting.specs.EqualListings.{AsDrawn, EqualListings}
use Rattle.framelisting.proofs.PlainDecimal.{Stop, number_first, digit_first}
use Rattle.framelisting.proofs.AlongRow.{leading_length}
use Rattle.framelisting.proofs.LongestRuns.{runs_are, no_runs}
use Rattle.framelisting.proofs.LengthsOfText.{header_pieces, taken_nothing}

-- the places of the runs are numbers of the machine
abbrev Small : List Run → Type 0
Small [] = Unit {0}
Small (run ∷ more) = (run.first < 2 ^ 64) × (run.last < 2 ^ 64) × Small more

small_from : (x n : ℕ) (row : List ℕ) → x + length row ≤ 2 ^ 64 → Small (runs_from x n row)
unfolding runs_from
small_from x n [] h = tt
small_from x (suc n) (b ∷ row) h = small_from (suc x) n row (omega (arith, h))
small_from x zero (zero ∷ row) h = small_from (suc x) zero row (omega (arith, h))
small_from x zero (suc b ∷ row) h = (omega (arith, h), omega (arith, h, leading_length row), small_from (suc x) (leading row) row (omega (arith, h)))

-- a run's text, piece by piece
run_first : (run : Run) (more : List Run) (s : List ℕ) → runs_text (run ∷ more) ++ s ≡ 32 ∷ (decimal run.first ++ (45 ∷ (decimal run.last ++ (runs_text more ++ s))))
unfolding runs_text run_text ascii
run_first run more s = simp append_assoc

runs_stop : (list : List Run) (s : List ℕ) → Stop (runs_text list ++ 10 ∷ s)
unfolding runs_text
runs_stop [] s = lit< tt
runs_stop (run ∷ more) s = rw (run_first run more (10 ∷ s)) (lit< tt)

-- the text of a row's runs tells the runs, and where they end
runs_tell : (a b : List Run) (s t : List ℕ) → Small a → Small b → runs_text a ++ 10 ∷ s ≡ runs_text b ++ 10 ∷ t → (a ≡ b) × (s ≡ t)
unfolding runs_text
runs_tell [] [] s t p q e = (refl, ap (drop 1) e)
runs_tell [] (r ∷ b) s t p q e = absurd (omega (arith, ap (λ l. get_or l 0 0) (rw (run_first r b (10 ∷ t)) at e)))
runs_tell (r ∷ a) [] s t p q e = absurd (omega (arith, ap (λ l. get_or l 0 0) (rw (run_first r a (10 ∷ s)) at e)))
runs_tell (r ∷ a) (u ∷ b) s t p q e =
    let f = number_first r.first u.first _ _ p.0 q.0 (lit< tt) (lit< tt) (ap (drop 1) (rw (run_first r a (10 ∷ s), run_first u b (10 ∷ t)) at e)) in
    let l = number_first r.last u.last _ _ p.1 q.1 (runs_stop a s) (runs_stop b t) (ap (drop 1) f.1) in
    let rest = runs_tell a b s t p.2 q.2 l.1 in
    (ap₂ ◌∷◌ (ap₂ run f.0 l.0) rest.0, rest.1)
  where
    run : ℕ → ℕ → Run
    run a b = record { first = a; last = b }

-- a row's line, piece by piece, or none
line_first : (p : ℕ) (row s : List ℕ) → any_lit row ≡ true → line p row ++ s ≡ decimal p ++ (runs_text (runs row) ++ 10 ∷ s)
unfolding line ascii
line_first p row s e = rw e (simp append_assoc)

line_none : (p : ℕ) (row s : List ℕ) → any_lit row ≡ false → line p row ++ s ≡ s
unfolding line
line_none p row s e = rw e

-- Rows w wide, each with a number of the machine.
module _ (w : ℕ) (narrow : w ≤ 2 ^ 64) where
  small_row : (frame : List ℕ) (p : ℕ) → Small (runs (row_of w frame p))
  unfolding runs row_of
  small_row frame p = small_from 0 0 (take w (drop (p * w) frame)) (omega (arith, length-take w (drop (p * w) frame), narrow))

  -- the lines of later rows do not begin with an earlier row's number
  later_lines : (frame : List ℕ) (n q p : ℕ) (s : List ℕ) → p < q → q + n ≤ 2 ^ 64 → Stop s → decimal p ++ s ≡ lines w frame n q ++ ascii "end\n" → ⊥
  unfolding lines ascii
  later_lines frame zero q p s h k c e = omega (arith, digit_first p s, ap (λ l. get_or l 0 0) e)
  later_lines frame (suc n) q p s h k c e = by (any_lit row) refl (later_lines frame n (suc q) p s (omega (arith, h)) (omega (arith, k)) c)
    where
      row : List ℕ
      row = row_of w frame q

      rest : List ℕ
      rest = lines w frame n (suc q) ++ ascii "end\n"

      text : decimal p ++ s ≡ line q row ++ rest
      text = rw append_assoc at e

      by : (t : Bool) → any_lit row ≡ t → (decimal p ++ s ≡ rest → ⊥) → ⊥
      by true d r =
          let same = number_first p q s (runs_text (runs row) ++ 10 ∷ rest) (omega (arith, h, k)) (omega (arith, k)) c (runs_stop (runs row) rest) (rw (line_first q row rest d) at text) in
          omega (arith, h, same.0)
      by false d r = r (rw (line_none q row rest d) at text)

  -- the lines from row p on tell the runs of that row, and the lines after it
  row_tells : (f g : List ℕ) (p : ℕ) (s t : List ℕ) → p < 2 ^ 64 → line p (row_of w f p) ++ s ≡ line p (row_of w g p) ++ t → ((q : List ℕ) → Stop q → decimal p ++ q ≡ s → ⊥) → ((q : List ℕ) → Stop q → decimal p ++ q ≡ t → ⊥) → (runs (row_of w f p) ≡ runs (row_of w g p)) × (s ≡ t)
  unfolding runs
  row_tells f g p s t h e u v = by (any_lit a) (any_lit b) refl refl
    where
      a : List ℕ
      a = row_of w f p

      b : List ℕ
      b = row_of w g p

      by : (x y : Bool) → any_lit a ≡ x → any_lit b ≡ y → (runs a ≡ runs b) × (s ≡ t)
      by true true c d =
          let same = number_first p p (runs_text (runs a) ++ 10 ∷ s) (runs_text (runs b) ++ 10 ∷ t) h h (runs_stop (runs a) s) (runs_stop (runs b) t) (rw (line_first p a s c, line_first p b t d) at e) in
          runs_tell (runs a) (runs b) s t (small_row f p) (small_row g p) same.1
      by true false c d = absurd (v (runs_text (runs a) ++ 10 ∷ s) (runs_stop (runs a) s) (rw (line_first p a s c, line_none p b t d) at e))
      by false true c d = absurd (u (runs_text (runs b) ++ 10 ∷ t) (runs_stop (runs b) t) (sym (rw (line_none p a s c, line_first p b t d) at e)))
      by false false c d = (no_runs a c ∙ sym (no_runs b d), rw (line_none p a s c, line_none p b t d) at e)

  lines_tell : (f g : List ℕ) (n p : ℕ) → p + n ≤ 2 ^ 64 → lines w f n p ++ ascii "end\n" ≡ lines w g n p ++ ascii "end\n" → (q : ℕ) → p ≤ q → q < p + n → runs (row_of w f q) ≡ runs (row_of w g q)
  unfolding lines
  lines_tell f g zero p h e q k l = absurd (omega (arith, k, l))
  lines_tell f g (suc n) p h e q k l = ⊎_elim (λ i. rw (← i) here.0) (λ i. lines_tell f g n (suc p) (omega (arith, h)) here.1 q (omega (arith, i)) (omega (arith, l))) (eq-or-lt_of_le k)
    where
      s : List ℕ
      s = lines w f n (suc p) ++ ascii "end\n"

      t : List ℕ
      t = lines w g n (suc p) ++ ascii "end\n"

      here : (runs (row_of w f p) ≡ runs (row_of w g p)) × (s ≡ t)
      here = row_tells f g p s t (omega (arith, h)) (rw (append_assoc, append_assoc) at e)
          (λ q c. later_lines f n (suc p) p q (omega arith) (omega (arith, h)) c)
          (λ q c. later_lines g n (suc p) p q (omega arith) (omega (arith, h)) c)

-- a place of a row is a place of the frame
place : (w : ℕ) (frame : List ℕ) (p x : ℕ) → x < w → get_or (row_of w frame p) x 0 ≡ get_or frame (p * w + x) 0
unfolding row_of
place w frame p x h = get_or-take w (drop (p * w) frame) x 0 h ∙ get_or-drop (p * w) frame x 0

-- a frame's text, piece by piece
frame_first : (w : ℕ) (frame : List ℕ) → frame_text w frame_rows frame ≡ ascii "frame " ++ (decimal w ++ (ascii " 65\n" ++ (lines w frame frame_rows 0 ++ ascii "end\n")))
unfolding frame_text
frame_first w frame = rw (header_pieces w) (simp append_assoc)

-- and it tells the width and the lit places
frame_tells : (w v : ℕ) (f g : List ℕ) → w < 2 ^ 64 → v < 2 ^ 64 → frame_text w frame_rows f ≡ frame_text v frame_rows g → (w ≡ v) × ((p x : ℕ) → p < frame_rows → x < w → lit (get_or f (p * w + x) 0) ≡ lit (get_or g (p * w + x) 0))
unfolding ascii
frame_tells w v f g a b e = (across.0, tells)
  where
    across : (w ≡ v) × (ascii " 65\n" ++ (lines w f frame_rows 0 ++ ascii "end\n") ≡ ascii " 65\n" ++ (lines v g frame_rows 0 ++ ascii "end\n"))
    across = number_first w v _ _ a b (lit< tt) (lit< tt) (ap (drop 6) (sym (frame_first w f) ∙ e ∙ frame_first v g))

    rest : lines w f frame_rows 0 ++ ascii "end\n" ≡ lines w g frame_rows 0 ++ ascii "end\n"
    rest = ap (drop 4) (rw (← across.0) at across.1)

    tells : (p x : ℕ) → p < frame_rows → x < w → lit (get_or f (p * w + x) 0) ≡ lit (get_or g (p * w + x) 0)
    tells p x h k =
        let same = lines_tell w (omega (arith, a)) f g frame_rows 0 (lit≤ tt) rest p (omega arith) (omega (arith, h)) in
        rw (← (place w f p x k), ← (place w g p x k), ← ((runs_are (row_of w f p)).exact x), ← ((runs_are (row_of w g p)).exact x), same)

-- What a stopped run prints, piece by piece.
refused_first : (number offset : ℕ) (s : List ℕ) → (number ≡ 0 → ⊥) → refused_text number offset ++ s ≡ ascii "refused " ++ (decimal number ++ (ascii " at " ++ (decimal offset ++ (10 ∷ s))))
unfolding refused_text ascii
refused_first number offset s n = rw (ne_eqb number 0 n) (simp append_assoc)

refused_none : (number offset : ℕ) (s : List ℕ) → number ≡ 0 → refused_text number offset ++ s ≡ s
refused_none number offset s e = rw (taken_nothing number offset e)

-- Two runs with what is printed of them, before texts that do not begin with "r".
module _ (m n o u : ℕ) (s t : List ℕ) (a : m < 2 ^ 64) (b : n < 2 ^ 64) (c : o < 2 ^ 64) (d : u < 2 ^ 64) (f : get_or s 0 0 < 114) (g : get_or t 0 0 < 114) where
  stopped_tells : (m ≡ 0 → ⊥) → (n ≡ 0 → ⊥) → refused_text m o ++ s ≡ refused_text n u ++ t → (m ≡ n) × (o ≡ u) × (s ≡ t)
  unfolding ascii
  stopped_tells p q e =
      let number = number_first m n _ _ a b (lit< tt) (lit< tt) (ap (drop 8) (sym (refused_first m o s p) ∙ e ∙ refused_first n u t q)) in
      let offset = number_first o u _ _ c d (lit< tt) (lit< tt) (ap (drop 4) number.1) in
      (number.0, offset.0, ap (drop 1) offset.1)

  refused_tells : refused_text m o ++ s ≡ refused_text n u ++ t → (m ≡ n) × ((m ≡ 0 → ⊥) → o ≡ u) × (s ≡ t)
  unfolding ascii
  refused_tells e = by (eqb m 0) (eqb n 0) refl refl
    where
      by : (x y : Bool) → eqb m 0 ≡ x → eqb n 0 ≡ y → (m ≡ n) × ((m ≡ 0 → ⊥) → o ≡ u) × (s ≡ t)
      by true true x y =
          let p = eqb-true m 0 x in
          let q = eqb-true n 0 y in
          (p ∙ sym q, λ k. absurd (k p), sym (refused_none m o s p) ∙ e ∙ refused_none n u t q)
      by true false x y = absurd (omega (arith, f, ap (λ l. get_or l 0 0) (sym (refused_none m o s (eqb-true m 0 x)) ∙ e ∙ refused_first n u t (eqb-false n 0 y))))
      by false true x y = absurd (omega (arith, g, ap (λ l. get_or l 0 0) (sym (refused_first m o s (eqb-false m 0 x)) ∙ e ∙ refused_none n u t (eqb-true n 0 y))))
      by false false x y =
          let r = stopped_tells (eqb-false m 0 x) (eqb-false n 0 y) e in
          (r.0, λ k. r.1, r.2)

begins : (w : ℕ) (frame : List ℕ) → get_or (frame_text w frame_rows frame) 0 0 < 114
unfolding frame_text ascii
begins w frame = lit< tt

-- places that are 0 or 1 and both lit or both dark are equal
one_bit : (b c : ℕ) → b ≤ 1 → c ≤ 1 → lit b ≡ lit c → b ≡ c
unfolding lit
one_bit zero zero h k e = refl
one_bit zero (suc c) h k e = absurd (false≢true e)
one_bit (suc b) zero h k e = absurd (false≢true (sym e))
one_bit (suc b) (suc c) h k e = omega (arith, h, k)

-- frames as they are drawn that are lit at the same places are equal
same_places : (w : ℕ) (f g : List ℕ) → ((p x : ℕ) → p < frame_rows → x < w → lit (get_or f (p * w + x) 0) ≡ lit (get_or g (p * w + x) 0)) → AsDrawn w f → AsDrawn w g → f ≡ g
same_places w f g places a b = ext_get_or 0 f g (a.size ∙ sym b.size) at
  where
    at : (i : ℕ) → i < length f → get_or f i 0 ≡ get_or g i 0
    at i h =
        let some : 0 < w = omega (arith, h, a.size) in
        one_bit (get_or f i 0) (get_or g i 0) (a.places i) (b.places i)
        (rw (div-add-mod' i w) at (places (i / w) (i % w) ((div-lt_iff_lt-mul some).1 (omega (arith, h, a.size))) (mod-lt i some)))

pub equal_listings : EqualListings
equal_listings w v m n o u f g i j a b c d e =
    let r = refused_tells m n o u (frame_text w frame_rows f) (frame_text v frame_rows g) a b c d (begins w f) (begins v g) e in
    let t = frame_tells w v f g i j r.2 in
    record { across = t.0; number = r.0; offset = r.1; places = t.1; frame = λ p q. same_places w f g t.1 p (rw (← t.0) at q) }
