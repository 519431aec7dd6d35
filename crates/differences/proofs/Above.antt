-- For the code: bytes passed one by one, and whether one of them is above 1.
-- Assumes nothing.
use Prim.Native.Nat.{ℕ, ◌≤◌, ◌<◌, ◌+◌, max}
use mathlib.Core.Path.{◌≡◌, refl, sym}
use mathlib.Core.Bool.{Bool, true, false, ◌||◌}
use mathlib.Core.List.{List, [], ◌∷◌, ◌++◌}
use native.Mathlib.Numerals.{add-one}
use native.Mathlib.Omega.{arith}
use borrow.Author.Tests.{ltb-true, ltb-false, lt-ltb, le-ltb}
use lib.Dec.{ltb}
use lib.ListN.{length, get_or, take}
use lib.Seq.{take-suc}
use Rattle.differences.specs.Compare.{any_above}

-- one byte more
snoc : (l : List ℕ) (b : ℕ) → any_above (l ++ b ∷ []) ≡ (any_above l || ltb 1 b)
unfolding any_above
snoc [] b = by (ltb 1 b)
  where
    by : (t : Bool) → (t || false) ≡ t
    by true = refl
    by false = refl
snoc (a ∷ l) b = by (ltb 1 a) (snoc l b)
  where
    by : (t : Bool) → any_above (l ++ b ∷ []) ≡ (any_above l || ltb 1 b) → (t || any_above (l ++ b ∷ [])) ≡ ((t || any_above l) || ltb 1 b)
    by true e = refl
    by false e = e

passed : (frame : List ℕ) (i : ℕ) → i < length frame → any_above (take (i + 1) frame) ≡ (any_above (take i frame) || ltb 1 (get_or frame i 0))
passed frame i h = rw (add-one i, take-suc frame i 0 h) (snoc (take i frame) (get_or frame i 0))

-- the largest is the byte passed,
pub raise : (frame : List ℕ) (i m : ℕ) → i < length frame → ltb 1 m ≡ any_above (take i frame) → m < get_or frame i 0 → ltb 1 (get_or frame i 0) ≡ any_above (take (i + 1) frame)
raise frame i m h e l = rw (passed frame i h, ← e) (by (ltb 1 m) refl)
  where
    by : (t : Bool) → ltb 1 m ≡ t → ltb 1 (get_or frame i 0) ≡ (t || ltb 1 (get_or frame i 0))
    by true d = lt-ltb 1 (get_or frame i 0) (omega (arith, l, ltb-true 1 m d))
    by false d = refl

-- or as it was
pub keep : (frame : List ℕ) (i m : ℕ) → i < length frame → ltb 1 m ≡ any_above (take i frame) → get_or frame i 0 ≤ m → ltb 1 m ≡ any_above (take (i + 1) frame)
keep frame i m h e l = rw (passed frame i h, ← e) (by (ltb 1 m) refl)
  where
    by : (t : Bool) → ltb 1 m ≡ t → t ≡ (t || ltb 1 (get_or frame i 0))
    by true d = refl
    by false d = sym (le-ltb 1 (get_or frame i 0) (omega (arith, l, ltb-false 1 m d)))

-- whichever is larger
pub larger_above : (frame : List ℕ) (i m r : ℕ) → i < length frame → ltb 1 m ≡ any_above (take i frame) → r ≡ max m (get_or frame i 0) → ltb 1 r ≡ any_above (take (i + 1) frame)
larger_above frame i m r h e f = by (ltb m (get_or frame i 0)) refl
  where
    by : (t : Bool) → ltb m (get_or frame i 0) ≡ t → ltb 1 r ≡ any_above (take (i + 1) frame)
    by true d =
        let l = ltb-true m (get_or frame i 0) d in
        let g : r ≡ get_or frame i 0 = omega (arith, l, f) in
        rw g (raise frame i m h e l)
    by false d =
        let l = ltb-false m (get_or frame i 0) d in
        let g : r ≡ m = omega (arith, l, f) in
        rw g (keep frame i m h e l)
