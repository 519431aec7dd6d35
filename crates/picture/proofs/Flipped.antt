-- Laws on a flipped bit: it is turned round, and every other bit is as it was.
-- Assumes nothing.
use mathlib.Core.Path.{◌≡◌, refl, ◌∙◌, ap}
use mathlib.Core.Logic.{◌≢◌}
use mathlib.Core.List.{List}
use Prim.Native.Nat.{ℕ, zero, suc, ◌+◌, ◌*◌, ◌-◌, ◌/◌, ◌%◌, ◌^◌, ◌<◌}
use native.Mathlib.Omega.{arith}
use native.Mathlib.Nat.{div_self, div-eq_of_lt, mod-lt, one-mul}
use native.Mathlib.Decide.{ℕ_discrete, dec_lt}
use lib.Bits.{bit_xor, xor_shr, xor_mod, xor_zero_r, shifted_even}
use lib.Pow.{pow_pos, pow-lt, pow-add, shl-shr}
use lib.ListN.{length, get_or, set}
use lib.Seq.{get_or-set_same, get_or-set_other}
use Rattle.constants.specs.Sizes.{width}
use Rattle.bus.specs.Memory.{address}
use Rattle.picture.specs.Scan.{ram_row}
use Rattle.picture.specs.Frame.{bit}
use Rattle.picture.specs.Demand3.{flipped}

-- a bit of a byte with one bit flipped
xor_bit : (b k j : ℕ) → bit_xor b (2 ^ k) / 2 ^ j % 2 ≡ bit_xor (b / 2 ^ j % 2) (2 ^ k / 2 ^ j % 2)
xor_bit b k j = rw (xor_shr b (2 ^ k) j) (xor_mod (b / 2 ^ j) (2 ^ k / 2 ^ j) 1)

-- a power of two has its own bit and no other
own_bit : (k : ℕ) → 2 ^ k / 2 ^ k % 2 ≡ 1
own_bit k = rw (div_self (pow_pos k))

bit_above : (d j : ℕ) → 2 ^ (suc d + j) / 2 ^ j % 2 ≡ 0
bit_above d j = rw (pow-add 2 (suc d) j, shl-shr (2 ^ suc d) j, ← (one-mul (2 ^ suc d))) (shifted_even 1 d)

other_bit : (k j : ℕ) → j ≢ k → 2 ^ k / 2 ^ j % 2 ≡ 0
other_bit k j n = either (dec_lt k j)
  where
    either : Dec (k < j) → 2 ^ k / 2 ^ j % 2 ≡ 0
    either (yes l) = rw (div-eq_of_lt (pow-lt l))
    either (no m) =
        let e : k ≡ suc (k - suc j) + j = omega arith in
        ap (λ n. 2 ^ n / 2 ^ j % 2) e ∙ bit_above (k - suc j) j

flip_bit : (v : ℕ) → v < 2 → bit_xor v 1 ≡ 1 - v
flip_bit zero l = refl
flip_bit (suc zero) l = refl
flip_bit (suc (suc v)) l = absurd (omega arith)

-- bit k of the byte at a place flipped: that bit, and any other
byte_hit : (memory : List ℕ) (place k : ℕ) → place < length memory → get_or (set memory place (bit_xor (get_or memory place 0) (2 ^ k))) place 0 / 2 ^ k % 2 ≡ 1 - get_or memory place 0 / 2 ^ k % 2
byte_hit memory place k inside =
    let byte = get_or memory place 0 in
    rw (get_or-set_same memory place (bit_xor byte (2 ^ k)) 0 inside, xor_bit byte k k, own_bit k) (flip_bit (byte / 2 ^ k % 2) (mod-lt _ (omega arith)))

byte_miss : (memory : List ℕ) (place k place' k' : ℕ) → place < length memory → ((place' ≡ place) × (k' ≡ k) → ⊥) → get_or (set memory place (bit_xor (get_or memory place 0) (2 ^ k))) place' 0 / 2 ^ k' % 2 ≡ get_or memory place' 0 / 2 ^ k' % 2
byte_miss memory place k place' k' inside n = either (ℕ_discrete place' place)
  where
    either : Dec (place' ≡ place) → get_or (set memory place (bit_xor (get_or memory place 0) (2 ^ k))) place' 0 / 2 ^ k' % 2 ≡ get_or memory place' 0 / 2 ^ k' % 2
    either (yes e) =
        let byte = get_or memory place 0 in
        rw (e, get_or-set_same memory place (bit_xor byte (2 ^ k)) 0 inside, xor_bit byte k k', other_bit k k' (λ p. n (e, p)), xor_zero_r)
    either (no m) = rw (get_or-set_other memory place place' (bit_xor (get_or memory place 0) (2 ^ k)) 0 m)

-- the bit of a RAM row in a column
module _ (memory : List ℕ) (row column : ℕ) (inside : address (row / 8) column < length memory) where
  pub flip_hit : bit address (flipped (ram_row row) column memory) (ram_row row) column ≡ 1 - bit address memory (ram_row row) column
  unfolding bit flipped
  flip_hit = byte_hit memory (address (row / 8) column) (row % 8) inside

  pub flip_miss : (row' column' : ℕ) → column < width → column' < width → ((row' ≡ row) × (column' ≡ column) → ⊥) → bit address (flipped (ram_row row) column memory) (ram_row row') column' ≡ bit address memory (ram_row row') column'
  unfolding bit flipped
  flip_miss row' column' l l' n = byte_miss memory (row / 8 * width + column) (row % 8) (row' / 8 * width + column') (row' % 8) inside (λ e. n (omega arith))
