-- The rows of a frame one after the other: their lines, and where each lies.
-- Assumes nothing.
use Prim.Native.Nat.{ℕ, suc, ◌≤◌, ◌<◌, ◌+◌, ◌-◌, ◌*◌}
use mathlib.Core.Path.{◌≡◌}
use mathlib.Core.List.{List, ◌++◌}
use native.Mathlib.Nat.{suc-mul, mul-le-mul_right}
use native.Mathlib.Numerals.{add-one}
use native.Mathlib.Omega.{arith}
use lib.ListN.{take, drop}
use Rattle.framelisting.specs.Text.{line, row_of, lines}

-- the lines from row p on are its own and those after it
pub lines_on : (w : ℕ) (frame : List ℕ) (n p : ℕ) → p < n → lines w frame (n - p) p ≡ line p (row_of w frame p) ++ lines w frame (n - (p + 1)) (p + 1)
unfolding lines
lines_on w frame n p h =
    let e : n - p ≡ suc (n - (p + 1)) = omega arith in
    rw (e, ← add-one p)

-- the part of the frame that is lent for row p
pub part : (w : ℕ) (frame : List ℕ) (p : ℕ) → take (p * w + w - p * w) (drop (p * w) frame) ≡ row_of w frame p
unfolding row_of
part w frame p =
    let e : p * w + w - p * w ≡ w = omega arith in
    rw e

-- row p lies in the frame
pub within : (w n p : ℕ) → p < n → p * w + w ≤ n * w
within w n p h = omega (arith, suc-mul p w, mul-le-mul_right w h)
