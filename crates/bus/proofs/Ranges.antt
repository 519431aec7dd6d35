-- The ranges of registers side by side, asked as one number: by the bits that none in its range has.
-- Assumes nothing.
use mathlib.Core.Path.{◌≡◌, refl, sym, ◌∙◌}
use mathlib.Core.Bool.{Bool, true, false, ◌&&◌, false≢true}
use mathlib.Core.List.{List, [], ◌∷◌, ◌++◌}
use Prim.Native.Nat.{ℕ, ◌+◌, ◌*◌, ◌/◌, ◌%◌, ◌<◌}
use native.Mathlib.Omega.{arith}
use native.Mathlib.Nat.{mod-eq_of_lt}
use borrow.Author.Tests.{leb-true, leb-false, eqb-true, eq-eqb, ne_eqb}
use lib.Bits.{bit_and, and_block, and_high}
use lib.Dec.{leb, eqb, lit≤}
use Rattle.codes.proofs.Tests.{both}
use Rattle.bus.specs.Bytes.{Bytes}
use Rattle.bus.specs.Image.{within}

-- two tests that hold together
pub same : (s t : Bool) → (s ≡ true → t ≡ true) → (s ≡ false → t ≡ false) → s ≡ t
same true t h k = sym (h refl)
same false t h k = sym (k refl)

-- bytes side by side as one number, the first at the low end
abbrev pub number : List ℕ → ℕ
number [] = 0
number (b ∷ bytes) = number bytes * 256 + b

-- each byte is at most the value beside it exactly where it has none of the bits beside it
abbrev pub Asked : List ℕ → List ℕ → List ℕ → Type 0
Asked [] [] [] = Unit {0}
Asked [] [] (b ∷ bytes) = ⊥
Asked [] (m ∷ bits) bytes = ⊥
Asked (l ∷ largest) [] bytes = ⊥
Asked (l ∷ largest) (m ∷ bits) [] = ⊥
Asked (l ∷ largest) (m ∷ bits) (b ∷ bytes) = (b < 256) × (m < 256) × (leb b l ≡ eqb (bit_and b m) 0) × Asked largest bits bytes

both_zero : (x y : ℕ) → (eqb y 0 && eqb x 0) ≡ eqb (x * 256 + y) 0
both_zero x y =
    same (eqb y 0 && eqb x 0) (eqb (x * 256 + y) 0)
    (λ e. let h = both (eqb y 0) (eqb x 0) e in eq-eqb (x * 256 + y) 0 (omega (arith, eqb-true y 0 h.0, eqb-true x 0 h.1)))
    (λ e. ne_eqb (x * 256 + y) 0 (λ (z : x * 256 + y ≡ 0). false≢true (sym e ∙ rw (eq-eqb y 0 (omega arith), eq-eqb x 0 (omega arith)))))

-- so they are asked as one number
as_one : (largest bits bytes rest : List ℕ) → Asked largest bits bytes → within largest (bytes ++ rest) ≡ eqb (bit_and (number bytes) (number bits)) 0
unfolding within
as_one [] [] [] rest a = refl
as_one [] [] (b ∷ bytes) rest a = absurd a
as_one [] (m ∷ bits) bytes rest a = absurd a
as_one (l ∷ largest) [] bytes rest a = absurd a
as_one (l ∷ largest) (m ∷ bits) [] rest a = absurd a
as_one (l ∷ largest) (m ∷ bits) (b ∷ bytes) rest a =
    rw (a.2, as_one largest bits bytes rest a.3, and_block 8 (number bytes) (number bits) b m a.0 a.1) (both_zero (bit_and (number bytes) (number bits)) (bit_and b m))

-- the four widths that registers have
to_63 : (b : ℕ) → b < 256 → leb b 63 ≡ eqb (bit_and b 0xC0) 0
to_63 b h =
    let high : b / 64 % 4 ≡ b / 64 = mod-eq_of_lt (omega arith) in
    same (leb b 63) _
    (λ e. eq-eqb _ _ (and_high b 2 6 ∙ omega (arith, leb-true b 63 e)))
    (λ e. ne_eqb (bit_and b 0xC0) 0 (λ (z : bit_and b 0xC0 ≡ 0). omega (arith, leb-false b 63 e, sym (and_high b 2 6) ∙ z)))

to_7 : (b : ℕ) → b < 256 → leb b 7 ≡ eqb (bit_and b 0xF8) 0
to_7 b h =
    let high : b / 8 % 32 ≡ b / 8 = mod-eq_of_lt (omega arith) in
    same (leb b 7) _
    (λ e. eq-eqb _ _ (and_high b 5 3 ∙ omega (arith, leb-true b 7 e)))
    (λ e. ne_eqb (bit_and b 0xF8) 0 (λ (z : bit_and b 0xF8 ≡ 0). omega (arith, leb-false b 7 e, sym (and_high b 5 3) ∙ z)))

to_3 : (b : ℕ) → b < 256 → leb b 3 ≡ eqb (bit_and b 0xFC) 0
to_3 b h =
    let high : b / 4 % 64 ≡ b / 4 = mod-eq_of_lt (omega arith) in
    same (leb b 3) _
    (λ e. eq-eqb _ _ (and_high b 6 2 ∙ omega (arith, leb-true b 3 e)))
    (λ e. ne_eqb (bit_and b 0xFC) 0 (λ (z : bit_and b 0xFC ≡ 0). omega (arith, leb-false b 3 e, sym (and_high b 6 2) ∙ z)))

to_1 : (b : ℕ) → b < 256 → leb b 1 ≡ eqb (bit_and b 0xFE) 0
to_1 b h =
    let high : b / 2 % 128 ≡ b / 2 = mod-eq_of_lt (omega arith) in
    same (leb b 1) _
    (λ e. eq-eqb _ _ (and_high b 7 1 ∙ omega (arith, leb-true b 1 e)))
    (λ e. ne_eqb (bit_and b 0xFE) 0 (λ (z : bit_and b 0xFE ≡ 0). omega (arith, leb-false b 1 e, sym (and_high b 7 1) ∙ z)))

-- four registers, of which the last is smaller
pub four_as_one : (a b c d word : ℕ) → Bytes (a ∷ b ∷ c ∷ d ∷ []) → word ≡ a + b * 256 + c * 65536 + d * 16777216 → eqb (bit_and word 0xF8C0C0C0) 0 ≡ within (63 ∷ 63 ∷ 63 ∷ 7 ∷ []) (a ∷ b ∷ c ∷ d ∷ [])
four_as_one a b c d word h e =
    let n : word ≡ number (a ∷ b ∷ c ∷ d ∷ []) = omega (arith, e) in
    rw n (sym (as_one (63 ∷ 63 ∷ 63 ∷ 7 ∷ []) (0xC0 ∷ 0xC0 ∷ 0xC0 ∷ 0xF8 ∷ []) (a ∷ b ∷ c ∷ d ∷ []) [] (h.0, lit≤ tt, to_63 a h.0, (h.1.0, lit≤ tt, to_63 b h.1.0, (h.1.1.0, lit≤ tt, to_63 c h.1.1.0, (h.1.1.1.0, lit≤ tt, to_7 d h.1.1.1.0, tt))))))

-- two
pub two_as_one : (a b word : ℕ) → Bytes (a ∷ b ∷ []) → word ≡ a + b * 256 → eqb (bit_and word 0xFEF8) 0 ≡ within (7 ∷ 1 ∷ []) (a ∷ b ∷ [])
two_as_one a b word h e =
    let n : word ≡ number (a ∷ b ∷ []) = omega (arith, e) in
    rw n (sym (as_one (7 ∷ 1 ∷ []) (0xF8 ∷ 0xFE ∷ []) (a ∷ b ∷ []) [] (h.0, lit≤ tt, to_7 a h.0, (h.1.0, lit≤ tt, to_1 b h.1.0, tt))))

-- eight, of which six are 0 or 1
pub eight_as_one : (a b c d e f g i word : ℕ) → Bytes (a ∷ b ∷ c ∷ d ∷ e ∷ f ∷ g ∷ i ∷ []) → word ≡ a + b * 256 + c * 65536 + d * 16777216 + e * 4294967296 + f * 1099511627776 + g * 281474976710656 + i * 72057594037927936 → eqb (bit_and word 0xFCFEFEFEFEFEFEFC) 0 ≡ within (3 ∷ 1 ∷ 1 ∷ 1 ∷ 1 ∷ 1 ∷ 1 ∷ 3 ∷ []) (a ∷ b ∷ c ∷ d ∷ e ∷ f ∷ g ∷ i ∷ [])
eight_as_one a b c d e f g i word h l =
    let n : word ≡ number (a ∷ b ∷ c ∷ d ∷ e ∷ f ∷ g ∷ i ∷ []) = omega (arith, l) in
    rw n (sym (as_one (3 ∷ 1 ∷ 1 ∷ 1 ∷ 1 ∷ 1 ∷ 1 ∷ 3 ∷ []) (0xFC ∷ 0xFE ∷ 0xFE ∷ 0xFE ∷ 0xFE ∷ 0xFE ∷ 0xFE ∷ 0xFC ∷ []) (a ∷ b ∷ c ∷ d ∷ e ∷ f ∷ g ∷ i ∷ []) [] (h.0, lit≤ tt, to_3 a h.0, (h.1.0, lit≤ tt, to_1 b h.1.0, (h.1.1.0, lit≤ tt, to_1 c h.1.1.0, (h.1.1.1.0, lit≤ tt, to_1 d h.1.1.1.0, (h.1.1.1.1.0, lit≤ tt, to_1 e h.1.1.1.1.0, (h.1.1.1.1.1.0, lit≤ tt, to_1 f h.1.1.1.1.1.0, (h.1.1.1.1.1.1.0, lit≤ tt, to_1 g h.1.1.1.1.1.1.0, (h.1.1.1.1.1.1.1.0, lit≤ tt, to_3 i h.1.1.1.1.1.1.1.0, tt))))))))))
