-- A page walked column by column: what the column under the walk says of the differing bytes from there on.
-- Assumes nothing.
use Prim.Native.Nat.{ℕ, suc, ◌+◌, ◌-◌, ◌≤◌, ◌<◌}
use mathlib.Core.Path.{◌≡◌}
use mathlib.Core.List.{List, [], ◌∷◌}
use native.Mathlib.Numerals.{add-one}
use native.Mathlib.Omega.{arith}
use borrow.Author.Tests.{eq-eqb, ne_eqb}
use Rattle.differences.specs.Bytes.{held, byte_at, bytes_from}

-- The bytes from column x on, of a page of w: those after it where x holds the same in both, this one and those where it does not, none at the end.
pub bytes_on : (w page : ℕ) (a b : List ℕ) (x : ℕ) → x < w → held page a x ≡ held page b x → bytes_from page a b (w - x) x ≡ bytes_from page a b (w - (x + 1)) (x + 1)
unfolding bytes_from
bytes_on w page a b x h e =
    let g : w - x ≡ suc (w - (x + 1)) = omega arith in
    rw (g, eq-eqb (held page a x) (held page b x) e, ← add-one x)

pub bytes_here : (w page : ℕ) (a b : List ℕ) (x : ℕ) → x < w → (held page a x ≡ held page b x → ⊥) → bytes_from page a b (w - x) x ≡ byte_at page a b x ∷ bytes_from page a b (w - (x + 1)) (x + 1)
unfolding bytes_from
bytes_here w page a b x h d =
    let g : w - x ≡ suc (w - (x + 1)) = omega arith in
    rw (g, ne_eqb (held page a x) (held page b x) d, ← add-one x)

pub bytes_end : (w page : ℕ) (a b : List ℕ) (x : ℕ) → w ≤ x → bytes_from page a b (w - x) x ≡ []
unfolding bytes_from
bytes_end w page a b x h =
    let g : w - x ≡ 0 = omega arith in
    rw g
