-- Masks of low bits are remainders: what a place shows, by the low bits of a page's byte.
-- Assumes nothing.
use mathlib.Core.Path.{◌≡◌, ap, ◌∙◌}
use Prim.Native.Nat.{ℕ, ◌+◌, ◌%◌}
use lib.Bits.{bit_and, and_mask}
use Rattle.picture.specs.Frame.{turned}

-- a bit and the reverse added, each by its low bit
pub low_bits : (bits reverse : ℕ) → bit_and (bit_and bits 1 + reverse) 1 ≡ turned reverse (bits % 2)
unfolding turned
low_bits bits reverse = and_mask (bit_and bits 1 + reverse) 1 ∙ ap (λ (b : ℕ). (b + reverse) % 2) (and_mask bits 1)
