-- Bytes put and compared side by side: what holds of the bytes passed, and what a page keeps.
-- Assumes nothing.
use Prim.Native.Nat.{ℕ, zero, suc, ◌+◌, ◌-◌, ◌*◌, ◌≤◌, ◌<◌}
use mathlib.Core.Path.{◌≡◌, refl, sym, ◌∙◌, ap}
use mathlib.Core.Bool.{Bool, true, false}
use mathlib.Core.Logic.{◌≢◌}
use mathlib.Core.List.{List, [], ◌∷◌, ◌++◌, map}
use native.Mathlib.Omega.{arith}
use borrow.Author.Tests.{ltb-true, ltb-false, ne_eqb}
use Rattle.constants.specs.Sizes.{icon_page}
use Rattle.std.specs.Simd.{first_chunks}
use Rattle.bus.specs.Memory.{kept}
use Rattle.bus.specs.Pieces.{chunk}
use lib.Dec.{ltb}
use lib.Bits.{bit_or, bit_xor, or_add_and, xor_add_and, and_le_l, and_le_r}
use lib.ListN.{length, get_or, take, drop, length-drop}
use lib.Seq.{length-take-le, drop-drop, get_or-take, get_or-drop}

-- what holds below x and at x holds below x + 1
pub one_more : (P : ℕ → Type 0) (x : ℕ) → ((i : ℕ) → i < x → P i) → P x → (i : ℕ) → i < x + 1 → P i
one_more P x below here i h = by (ltb i x) refl
  where
    by : (t : Bool) → ltb i x ≡ t → P i
    by true e = below i (ltb-true i x e)
    by false e =
        let same : i ≡ x = omega (arith, h, ltb-false i x e) in
        rw same here

-- a part has as many bytes as it should
pub length_part : (l : List ℕ) (from n : ℕ) → from + n ≤ length l → length (take n (drop from l)) ≡ n
length_part l from n h = length-take-le n (drop from l) (omega (arith, length-drop from l))

-- a byte of a part of a list
pub in_part : (l : List ℕ) (from n i : ℕ) → i < n → get_or (take n (drop from l)) i 0 ≡ get_or l (from + i) 0
in_part l from n i h = get_or-take n (drop from l) i 0 h ∙ get_or-drop from l i 0

-- bytes of which each is as the one before it are all as the first
pub all_as_first : (byte : ℕ) (l : List ℕ) → get_or l 0 0 ≡ byte → take (length l - 1) (drop 1 l) ≡ take (length (take (length l - 1) (drop 1 l))) l → (i : ℕ) → i < length l → byte ≡ get_or l i 0
all_as_first byte l first e zero h = sym first
all_as_first byte l first e (suc i) h =
    let long : length (take (length l - 1) (drop 1 l)) ≡ length l - 1 = length_part l 1 (length l - 1) (omega arith) in
    let next : 1 + i ≡ suc i = omega arith in
    all_as_first byte l first e i (omega arith) ∙
    sym (get_or-take (length (take (length l - 1) (drop 1 l))) l i 0 (omega (arith, long))) ∙
    ap (λ k. get_or k i 0) (sym e) ∙
    in_part l 1 (length l - 1) i (omega arith) ∙
    ap (λ k. get_or l k 0) next

-- the chunk at a place of the chunks
pub chunk_at : {A : Type 0} (count i : ℕ) (l : List A) → i < count → get_or (first_chunks chunk count l) i [] ≡ take chunk (drop (i * chunk) l)
chunk_at zero i l h = absurd (omega arith)
chunk_at (suc count) zero l h = refl
chunk_at (suc count) (suc i) l h =
    let further : chunk + i * chunk ≡ suc i * chunk = omega arith in
    chunk_at count i (drop chunk l) (omega arith) ∙ ap (λ k. take chunk k) (drop-drop (i * chunk) chunk l ∙ ap (λ k. drop k l) further)

-- what holds of each holds of one more
pub each_more : {A : Type 0} (P : A → Type 0) (d : A) (l : List A) (a : A) → ((i : ℕ) → i < length l → P (get_or l i d)) → P a → (i : ℕ) → i < length (l ++ a ∷ []) → P (get_or (l ++ a ∷ []) i d)
each_more P d [] a each last zero h = last
each_more P d [] a each last (suc i) h = absurd (omega arith)
each_more P d (b ∷ l) a each last zero h = each 0 (omega arith)
each_more P d (b ∷ l) a each last (suc i) h = each_more P d l a (λ j k. each (suc j) (omega arith)) last i (omega arith)

-- bytes of which no bit is set are 0
pub or_zero : (a b : ℕ) → bit_or a b ≡ 0 → (a ≡ 0) × (b ≡ 0)
or_zero a b e = (omega (arith, e, or_add_and a b, and_le_l a b, and_le_r a b), omega (arith, e, or_add_and a b, and_le_l a b, and_le_r a b))

-- bytes that differ in no bit are one
pub xor_zero : (a b : ℕ) → bit_xor a b ≡ 0 → a ≡ b
xor_zero a b e = omega (arith, e, xor_add_and a b, and_le_l a b, and_le_r a b)

-- on every page but 8 a byte is kept whole
pub kept_byte : (page byte : ℕ) → page ≢ icon_page → kept page byte ≡ byte
unfolding kept
kept_byte page byte n = rw (ne_eqb page icon_page n)

pub kept_whole : (page : ℕ) (bytes : List ℕ) → page ≢ icon_page → map (kept page) bytes ≡ bytes
kept_whole page [] n = refl
kept_whole page (byte ∷ bytes) n = rw (kept_byte page byte n, kept_whole page bytes n)
