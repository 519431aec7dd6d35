-- What it says of a lent state and memory that they are long enough, and of an image that it is within its ranges.
-- Assumes nothing.
use mathlib.Core.Path.{◌≡◌, refl, sym}
use mathlib.Core.Bool.{Bool, true, false, ◌||◌, false≢true}
use mathlib.Core.List.{List, [], ◌∷◌}
use Prim.Native.Nat.{ℕ, ◌≤◌, ◌<◌, zero-le, suc-le-suc}
use native.Mathlib.Omega.{arith}
use lib.Dec.{leb, ltb}
use borrow.Author.Tests.{ltb-false}
use lib.ListN.{length}
use Rattle.codes.proofs.Tests.{both, refuted}
use Rattle.bus.specs.Registers.{largest_values}
use Rattle.bus.specs.Image.{within, short}
use Rattle.constants.specs.Sizes.{image_size, memory_size}

-- an image within its ranges has a byte for each
pub within_length : (largest image : List ℕ) → within largest image ≡ true → length largest ≤ length image
unfolding within
within_length [] image e = zero-le
within_length (largest ∷ rest) [] e = absurd (false≢true e)
within_length (largest ∷ rest) (byte ∷ image) e = suc-le-suc (within_length rest image (both (leb byte largest) (within rest image) e).1)

-- an image that is too short is out of its ranges
pub within_short : (image : List ℕ) → length image < 23 → within largest_values image ≡ false
unfolding largest_values
within_short image h = refuted _ (λ e. omega (arith, within_length largest_values image e))

neither : (s t : Bool) → (s || t) ≡ false → (s ≡ false) × (t ≡ false)
neither true t e = absurd (false≢true (sym e))
neither false t e = (refl, e)

-- a state and memory that are not too short
pub long : (state memory : List ℕ) → short state memory ≡ false → (image_size ≤ length state) × (memory_size ≤ length memory)
unfolding short
long state memory e =
    let halves = neither (ltb (length state) image_size) (ltb (length memory) memory_size) e in
    (ltb-false (length state) image_size halves.0, ltb-false (length memory) memory_size halves.1)
