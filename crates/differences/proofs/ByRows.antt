-- For the code: rows walked one after the other, each lent as a part of the whole.
-- Assumes nothing.
use Prim.Native.Nat.{ℕ, zero, suc, ◌+◌, ◌-◌, ◌*◌, ◌≤◌, ◌<◌}
use mathlib.Core.Path.{◌≡◌, sym, ◌∙◌, ap}
use mathlib.Core.List.{List, [], ◌++◌}
use native.Mathlib.Nat.{add-zero}
use native.Mathlib.Numerals.{add-one}
use native.Mathlib.Omega.{arith}
use lib.ListN.{length, get_or, take, drop, length-drop}
use lib.Seq.{length-take-le, get_or-take, get_or-drop, ext_get_or}
use Rattle.picture.specs.Frame.{row_of}
use Rattle.differences.specs.ByRows.{by_rows}
use Rattle.differences.specs.Put.{SameRows}

-- what the rows from p on give is what row p gives and what those after it do
pub rows_on : {A : Type 0} (w : ℕ) (each : ℕ → List ℕ → List ℕ → List A) (f g : List ℕ) (n p : ℕ) → p < n
    → by_rows w each f g (n - p) p ≡ each p (row_of w p f) (row_of w p g) ++ by_rows w each f g (n - (p + 1)) (p + 1)
unfolding by_rows
rows_on w each f g n p h =
    let e : n - p ≡ suc (n - (p + 1)) = omega arith in
    rw (e, ← add-one p)

pub rows_end : {A : Type 0} (w : ℕ) (each : ℕ → List ℕ → List ℕ → List A) (f g : List ℕ) (n p : ℕ) → n ≤ p → by_rows w each f g (n - p) p ≡ []
unfolding by_rows
rows_end w each f g n p h =
    let e : n - p ≡ 0 = omega arith in
    rw e

-- a row below row n ends within n rows
pub rows_within : (n p w : ℕ) → p < n → p * w + w ≤ n * w
rows_within n p w h =
    let e : n ≡ suc p + (n - suc p) = omega arith in
    rw e (omega arith)

-- rows whose places are the same are one
same_row : (w p : ℕ) (f g : List ℕ) → p * w + w ≤ length f → p * w + w ≤ length g → ((i : ℕ) → i < w → get_or f (p * w + i) 0 ≡ get_or g (p * w + i) 0) → row_of w p f ≡ row_of w p g
unfolding row_of
same_row w p f g l m same =
    let sized : (h : List ℕ) → p * w + w ≤ length h → length (take w (drop (p * w) h)) ≡ w = λ h k. length-take-le w (drop (p * w) h) (rw length-drop (omega (arith, k))) in
    ext_get_or 0 (take w (drop (p * w) f)) (take w (drop (p * w) g)) (sized f l ∙ sym (sized g m))
    (λ i h. let j : i < w = rw (sized f l) at h in rw (get_or-take w (drop (p * w) f) i 0 j, get_or-take w (drop (p * w) g) i 0 j, get_or-drop (p * w) f i 0, get_or-drop (p * w) g i 0) (same i j))

-- the part that is lent for row p
pub part : (f : List ℕ) (p : ℕ) → take (p * 132 + 132 - p * 132) (drop (p * 132) f) ≡ row_of 132 p f
unfolding row_of
part f p =
    let e : p * 132 + 132 - p * 132 ≡ 132 = omega arith in
    rw e

-- rows that are the same in both, where such rows give nothing, are passed over
pub rows_over : {A : Type 0} (w : ℕ) (each : ℕ → List ℕ → List ℕ → List A) → ((p : ℕ) (a : List ℕ) → each p a a ≡ []) → (f g : List ℕ) (n : ℕ) → n * w ≤ length f → n * w ≤ length g
    → (k p : ℕ) → p + k ≤ n → SameRows w k p f g → by_rows w each f g (n - p) p ≡ by_rows w each f g (n - (p + k)) (p + k)
rows_over w each none f g n l m zero p h same = rw add-zero
rows_over w each none f g n l m (suc k) p h same =
    let row : row_of w p f ≡ row_of w p g = same_row w p f g (omega (arith, l, rows_within n p w (omega (arith, h)))) (omega (arith, m, rows_within n p w (omega (arith, h)))) (λ i j. same i (omega arith)) in
    let later : SameRows w k (p + 1) f g = λ i j.
    let e : (p + 1) * w + i ≡ p * w + (w + i) = omega arith in
    rw e (same (w + i) (omega (arith, j))) in
    let e : p + 1 + k ≡ p + suc k = omega arith in
    rw (rows_on w each f g n p (omega (arith, h)), row, none) (rw e at (rows_over w each none f g n l m k (p + 1) (omega (arith, h)) later))

-- a part that is lent, of any length: how long it is, and that equal parts have equal places
pub lent_length : (f : List ℕ) (a k : ℕ) → a + k ≤ length f → length (take (a + k - a) (drop a f)) ≡ k
lent_length f a k h =
    let e : a + k - a ≡ k = omega arith in
    rw e (length-take-le k (drop a f) (rw length-drop (omega (arith, h))))

pub lent_places : (f g : List ℕ) (a k : ℕ) → take (a + k - a) (drop a f) ≡ take (a + k - a) (drop a g) → (i : ℕ) → i < k → get_or f (a + i) 0 ≡ get_or g (a + i) 0
lent_places f g a k same i h =
    let e : a + k - a ≡ k = omega arith in
    let part : take k (drop a f) ≡ take k (drop a g) = rw e at same in
    sym (get_or-take k (drop a f) i 0 h ∙ get_or-drop a f i 0) ∙ ap (λ l. get_or l i 0) part ∙ get_or-take k (drop a g) i 0 h ∙ get_or-drop a g i 0

pub part_length : (f : List ℕ) (p : ℕ) → p * 132 + 132 ≤ length f → length (take (p * 132 + 132 - p * 132) (drop (p * 132) f)) ≡ 132
part_length f p = lent_length f (p * 132) 132
