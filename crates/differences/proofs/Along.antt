-- For the code: rows walked one beside the other, as the iterator gives them, and chunks of rows.
-- Assumes nothing.
use Prim.Native.Nat.{ℕ, zero, suc, ◌+◌, ◌-◌, ◌*◌, ◌/◌, ◌≤◌}
use mathlib.Core.Path.{◌≡◌, refl, sym, ◌∙◌, ap}
use mathlib.Core.Bool.{Bool, true, false, not}
use mathlib.Core.Logic.{◌⊎◌, inl, inr}
use mathlib.Core.List.{List, [], ◌∷◌, ◌++◌, append_assoc}
use native.Mathlib.Nat.{add-zero, zero-add, zero-mul}
use native.Mathlib.Numerals.{add-one}
use native.Mathlib.Omega.{arith}
use lib.Dec.{eqb}
use lib.Pointwise.{pointwise, bytes_decides}
use lib.ListN.{length, take, drop, length-append}
use lib.Seq.{drop-drop, take-take}
use Rattle.std.proofs.lemmas.List.{drop-take}
use Rattle.std.specs.Simd.{first_chunks}
use Rattle.picture.specs.Frame.{row_of}
use Rattle.differences.specs.ByRows.{by_rows}

-- what the rows of two lists of rows give, the first of them number p
pub along : {A : Type 0} → (ℕ → List ℕ → List ℕ → List A) → List (List ℕ) → List (List ℕ) → ℕ → List A
along each [] ys p = []
along each (a ∷ xs) [] p = []
along each (a ∷ xs) (b ∷ ys) p = each p a b ++ along each xs ys (p + 1)

-- one row more, and none
pub along_on : {A : Type 0} (each : ℕ → List ℕ → List ℕ → List A) (xs ys xs' ys' : List (List ℕ)) (a b : List ℕ) (p : ℕ) → xs ≡ a ∷ xs' → ys ≡ b ∷ ys' → along each xs ys p ≡ each p a b ++ along each xs' ys' (p + 1)
unfolding along
along_on each xs ys xs' ys' a b p e f = rw (e, f)

pub along_end : {A : Type 0} (each : ℕ → List ℕ → List ℕ → List A) (xs ys : List (List ℕ)) (p : ℕ) → (xs ≡ []) ⊎ (ys ≡ []) → along each xs ys p ≡ []
unfolding along
along_end each xs ys p (inl e) = rw e
along_end each [] ys p (inr e) = refl
along_end each (a ∷ xs) ys p (inr e) = rw e

-- what is counted of them, and what is left to count
pub count_on : {A : Type 0} (each : ℕ → List ℕ → List ℕ → List A) (xs ys xs' ys' : List (List ℕ)) (a b : List ℕ) (p count one all : ℕ) → xs ≡ a ∷ xs' → ys ≡ b ∷ ys'
    → count + length (along each xs ys p) ≡ all → one ≡ length (each p a b) → count + one + length (along each xs' ys' (p + 1)) ≡ all
count_on each xs ys xs' ys' a b p count one all e f h k =
    let g = rw (along_on each xs ys xs' ys' a b p e f, length-append) at h in
    omega (arith, g, k)

-- rows that are the same in both are passed over, where such rows give nothing
pub along_over : {A : Type 0} (each : ℕ → List ℕ → List ℕ → List A) (xs ys xs' ys' : List (List ℕ)) (a b : List ℕ) (p : ℕ) → ((p : ℕ) (a : List ℕ) → each p a a ≡ []) → xs ≡ a ∷ xs' → ys ≡ b ∷ ys' → a ≡ b → along each xs ys p ≡ along each xs' ys' (p + 1)
along_over each xs ys xs' ys' a b p none e f same = along_on each xs ys xs' ys' a b p e f ∙ rw (same, none p b)

-- bytes that are not found different are the same
pub same_bytes : (a b : List ℕ) (r : Bool) → r ≡ not (pointwise eqb a b) → r ≡ false → a ≡ b
same_bytes a b r e f = by (pointwise eqb a b) refl (sym e ∙ f)
  where
    by : (t : Bool) → pointwise eqb a b ≡ t → not t ≡ false → a ≡ b
    by true h k = (bytes_decides a b).0 h
    by false h k = absurd (cc)

-- they are those of the two screens
pub along_rows : {A : Type 0} (w : ℕ) (each : ℕ → List ℕ → List ℕ → List A) (f g : List ℕ) (n p : ℕ) → along each (first_chunks w n (drop (p * w) f)) (first_chunks w n (drop (p * w) g)) p ≡ by_rows w each f g n p
unfolding along by_rows row_of
along_rows w each f g zero p = refl
along_rows w each f g (suc n) p =
    let e : p * w + w ≡ suc p * w = omega arith in
    rw (drop-drop, drop-drop, e, add-one) (ap (λ rest. each p (take w (drop (p * w) f)) (take w (drop (p * w) g)) ++ rest) (along_rows w each f g n (suc p)))

pub along_start : {A : Type 0} (w : ℕ) (each : ℕ → List ℕ → List ℕ → List A) (f g : List ℕ) (xs ys : List (List ℕ)) (n p : ℕ) → xs ≡ first_chunks w n f → ys ≡ first_chunks w n g → p ≡ 0 → along each xs ys p ≡ by_rows w each f g n 0
along_start w each f g xs ys n p e h k = rw (e, h, k) (rw zero-mul at (along_rows w each f g n 0))

-- Chunks of rows.
module _ {A : Type 0} (w : ℕ) (each : ℕ → List ℕ → List ℕ → List A) where
  -- a row of a part that begins with row q is a row of the whole
  row_in_part : (n q j : ℕ) (f : List ℕ) → j * w + w ≤ n → row_of w j (take n (drop (q * w) f)) ≡ row_of w (q + j) f
  unfolding row_of
  row_in_part n q j f h =
      let m = n - j * w in
      let e : n ≡ j * w + m = omega arith in
      let k : w ≤ m = omega arith in
      let d : q * w + j * w ≡ (q + j) * w = omega arith in
      rw (e, drop-take (j * w) m (drop (q * w) f), take-take w m (drop (j * w) (drop (q * w) f)) k, drop-drop (j * w) (q * w) f, d)

  -- so what its rows give is what those of the whole do
  pub rows_in_part : (n q : ℕ) (f g : List ℕ) (m j : ℕ) → (j + m) * w ≤ n → by_rows w (λ p. each (q + p)) (take n (drop (q * w) f)) (take n (drop (q * w) g)) m j ≡ by_rows w each f g m (q + j)
  unfolding by_rows
  rows_in_part n q f g zero j h = refl
  rows_in_part n q f g (suc m) j h =
      let k : j * w + w ≤ n = omega (arith, h) in
      let next : q + suc j ≡ suc (q + j) = omega arith in
      rw (row_in_part n q j f k, row_in_part n q j g k) (ap (λ rest. each (q + j) (row_of w (q + j) f) (row_of w (q + j) g) ++ rest) (rows_in_part n q f g m (suc j) (omega (arith, h)) ∙ ap (λ r. by_rows w each f g m r) next))

  -- the first rows, and those after them
  pub rows_append : (f g : List ℕ) (m n p : ℕ) → by_rows w each f g (m + n) p ≡ by_rows w each f g m p ++ by_rows w each f g n (p + m)
  unfolding by_rows
  rows_append f g zero n p =
      let e : zero + n ≡ n = omega arith in
      rw (e, add-zero)
  rows_append f g (suc m) n p =
      let e : suc m + n ≡ suc (m + n) = omega arith in
      let r : suc p + m ≡ p + suc m = omega arith in
      rw (e, rows_append f g m n (suc p), r) (rw append_assoc)

  -- chunk by chunk, k rows each, is row by row
  pub rows_by_chunks : (k : ℕ) (f g : List ℕ) (n i : ℕ) → by_rows (k * w) (λ c a b. by_rows w (λ p. each (c * k + p)) a b k 0) f g n i ≡ by_rows w each f g (n * k) (i * k)
  unfolding by_rows row_of
  rows_by_chunks k f g zero i =
      let e : zero * k ≡ 0 = omega arith in
      rw e
  rows_by_chunks k f g (suc n) i =
      let e : suc n * k ≡ k + n * k = omega arith in
      let next : suc i * k ≡ i * k + k = omega arith in
      let place : i * (k * w) ≡ i * k * w = omega arith in
      let same : i * k + 0 ≡ i * k = omega arith in
      rw (e, rows_append f g k (n * k) (i * k), rows_by_chunks k f g n (suc i), next, place, rows_in_part (k * w) (i * k) f g k 0 (omega arith), same)

  -- nothing where both are the same, and each row gives nothing then
  pub rows_none : ((p : ℕ) (a : List ℕ) → each p a a ≡ []) → (f : List ℕ) (n p : ℕ) → by_rows w each f f n p ≡ []
  unfolding by_rows
  rows_none none f zero p = refl
  rows_none none f (suc n) p = rw (none, rows_none none f n (suc p))

  -- so with all rows of two screens
  pub whole_by_chunks : (f g : List ℕ) (chunk k n rows : ℕ) → k * w ≡ chunk → n * k ≡ rows → by_rows chunk (λ c a b. by_rows w (λ p. each (c * k + p)) a b k 0) f g n 0 ≡ by_rows w each f g rows 0
  whole_by_chunks f g chunk k n rows e h = rw (← e, ← h) (rw zero-mul at (rows_by_chunks k f g n 0))

-- as many rows as the chunks have
pub rows_of_chunks : (bytes chunk k n : ℕ) → k * 132 ≡ chunk → n * chunk ≡ bytes → n * k ≡ bytes / 132
rows_of_chunks bytes chunk k n e h =
    let whole : n * k * 132 ≡ bytes = rw (← h, ← e) (omega arith) in
    omega (arith, whole)

pub rows_whole : (bytes chunk k n : ℕ) → k * 132 ≡ chunk → n * chunk ≡ bytes → bytes / 132 * 132 ≡ bytes
rows_whole bytes chunk k n e h =
    let whole : n * k * 132 ≡ bytes = rw (← h, ← e) (omega arith) in
    omega (arith, whole)

-- Rows of the first places alone are those of the whole.
pub rows_first : {A : Type 0} (w : ℕ) (each : ℕ → List ℕ → List ℕ → List A) (n rows : ℕ) (f g : List ℕ) → rows * w ≤ n → by_rows w each (take n f) (take n g) rows 0 ≡ by_rows w each f g rows 0
rows_first w each n rows f g h =
    let e : 0 + rows ≡ rows = omega arith in
    let same : (λ (p : ℕ). each (0 + p)) ≡ each = λ i p. each (zero-add p i) in
    let part = rows_in_part w each n 0 f g rows 0 (rw e h) in
    rw (zero-mul, same) at part
