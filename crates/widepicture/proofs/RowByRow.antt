-- Laws on rows one after the other: their length, each of them, and what decides them; a row that is written over.
-- Assumes nothing.
use mathlib.Core.Path.{◌≡◌, refl, sym, ◌∙◌}
use mathlib.Core.List.{List, ◌++◌, append_assoc}
use Prim.Native.Nat.{ℕ, zero, suc, ◌+◌, ◌*◌, ◌≤◌, ◌<◌}
use native.Mathlib.Omega.{arith}
use native.Mathlib.Nat.{suc-mul, zero-mul, mul-le-mul_right, not-suc-le-zero, le_of_eq}
use native.Mathlib.Decide.{dec_lt}
use lib.ListN.{length, get_or, take, drop, length-append, length-take, length-drop}
use lib.Seq.{take_at, drop_at, drop-drop, take-append-le, drop-append-le, take_all, take-add, get_or-take, get_or-drop}
use Rattle.picture.specs.Frame.{row_of, place_of}
use Rattle.widepicture.specs.WideFrame.{row_by_row, side_by_side}
use Rattle.widepicture.specs.WideDraw.{written_at}

pub row_length : (w y : ℕ) (places : List ℕ) → y * w + w ≤ length places → length (row_of w y places) ≡ w
unfolding row_of
row_length w y places l = rw (length-take, length-drop) (omega arith)

-- what stands at a place of a row
pub row_place : (w y x : ℕ) (places : List ℕ) → x < w → get_or (row_of w y places) x 0 ≡ place_of w y x places
unfolding row_of place_of
row_place w y x places k = get_or-take w (drop (y * w) places) x 0 k ∙ get_or-drop (y * w) places x 0

-- the rows of a list, as far as they go
pub rows_taken : (w h : ℕ) (places : List ℕ) → row_by_row h (λ y. row_of w y places) ≡ take (h * w) places
unfolding row_by_row row_of
rows_taken w zero places = rw zero-mul
rows_taken w (suc h) places = rw (rows_taken w h places, suc-mul) (sym (take-add (h * w) w places))

pub rows_all : (w h : ℕ) (places : List ℕ) → length places ≡ h * w → row_by_row h (λ y. row_of w y places) ≡ places
rows_all w h places e = rows_taken w h places ∙ take_all (h * w) places (le_of_eq e)

-- rows that agree one by one are the same
pub rows_same : (h : ℕ) (row other : ℕ → List ℕ) → ((y : ℕ) → y < h → row y ≡ other y) → row_by_row h row ≡ row_by_row h other
unfolding row_by_row
rows_same zero row other e = refl
rows_same (suc h) row other e = rw (rows_same h row other (λ y l. e y (omega arith)), e h (omega arith))

pub rows_length : (w h : ℕ) (row : ℕ → List ℕ) → ((y : ℕ) → y < h → length (row y) ≡ w) → length (row_by_row h row) ≡ h * w
unfolding row_by_row
rows_length w zero row e = sym (zero-mul w)
rows_length w (suc h) row e = length-append (row_by_row h row) (row h) ∙ rw (rows_length w h row (λ y l. e y (omega arith)), e h (omega arith), suc-mul)

-- each of the rows
pub rows_row : (w h : ℕ) (row : ℕ → List ℕ) → ((y : ℕ) → y < h → length (row y) ≡ w) → (y : ℕ) → y < h → row_of w y (row_by_row h row) ≡ row y
unfolding row_by_row row_of
rows_row w zero row e y l = absurd (not-suc-le-zero l)
rows_row w (suc h) row e y l = either (rows_row w h row (λ z k. e z (omega arith)) y) (dec_lt y h)
  where
    long : length (row_by_row h row) ≡ h * w
    long = rows_length w h row (λ z k. e z (omega arith))

    either : (y < h → take w (drop (y * w) (row_by_row h row)) ≡ row y) → Dec (y < h) → take w (drop (y * w) (row_by_row h row ++ row h)) ≡ row y
    either before (yes k) =
        let room : y * w + w ≤ h * w = rw suc-mul at (mul-le-mul_right w k) in
        let e = long in
        rw (drop-append-le (y * w) (row_by_row h row) (row h) (omega arith), take-append-le w (drop (y * w) (row_by_row h row)) (row h) (rw length-drop (omega arith))) (before k)
    either before (no n) =
        let same : y ≡ h = omega arith in
        rw (same, drop_at (row_by_row h row) (row h) (h * w) long, take_all w (row h) (le_of_eq (e h (omega arith))))

-- two frames side by side: a row, and all of them
pub beside_length : (w h : ℕ) (left right : List ℕ) → h * w ≤ length left → h * w ≤ length right → (y : ℕ) → y < h → length (row_of w y left ++ row_of w y right) ≡ w + w
beside_length w h left right l r y k =
    let room : y * w + w ≤ h * w = rw suc-mul at (mul-le-mul_right w k) in
    length-append (row_of w y left) (row_of w y right) ∙ rw (row_length w y left (omega arith), row_length w y right (omega arith))

pub side_length : (w h : ℕ) (left right : List ℕ) → h * w ≤ length left → h * w ≤ length right → length (side_by_side w h left right) ≡ h * (w + w)
side_length w h left right l r = rows_length (w + w) h (λ y. row_of w y left ++ row_of w y right) (beside_length w h left right l r)

-- a part written leaves a frame as long as before, and leaves what follows it
pub written_length : (start : ℕ) (part was : List ℕ) → start + length part ≤ length was → length (written_at start part was) ≡ length was
unfolding written_at
written_length start part was l = simp (length-append, length-take, length-drop) (omega arith)

pub written_front : (start : ℕ) (part front rest : List ℕ) → start + length part ≤ length front → written_at start part (front ++ rest) ≡ written_at start part front ++ rest
unfolding written_at
written_front start part front rest l = rw (take-append-le start front rest (omega arith), drop-append-le (start + length part) front rest l) (simp append_assoc)

-- a part written after what is done
pub written_after : (done rest part : List ℕ) (start : ℕ) → length done ≡ start → written_at start part (done ++ rest) ≡ done ++ (part ++ drop (length part) rest)
unfolding written_at
written_after done rest part start e = rw (take_at done rest start e, ← (drop-drop (length part) start (done ++ rest)), drop_at done rest start e)

-- one row more: its left half is written, and then its right half
pub row_written : (w start : ℕ) (done was left right : List ℕ) → length done ≡ start → length left ≡ w → length right ≡ w
    → written_at (start + w) right (written_at start left (done ++ drop start was)) ≡ (done ++ (left ++ right)) ++ drop (start + (w + w)) was
row_written w start done was left right e l r =
    let both : start + w + w ≡ start + (w + w) = omega arith in
    rw (written_after done (drop start was) left start e, l, drop-drop w start was, ← (append_assoc done left (drop (start + w) was)))
    (written_after (done ++ left) (drop (start + w) was) right (start + w) (length-append done left ∙ rw (e, l)) ∙
    rw (r, drop-drop w (start + w) was, both, ← (append_assoc done left right))
    (sym (append_assoc (done ++ left) right (drop (start + (w + w)) was))))
