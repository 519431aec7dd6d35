-- Bytes put one by one over the first ones of a list.
-- Assumes nothing.
use mathlib.Core.Path.{◌≡◌, refl, ◌∙◌, sym, ap}
use mathlib.Core.List.{List, [], ◌∷◌, ◌++◌}
use Prim.Native.Nat.{ℕ, ◌+◌, ◌≤◌, ◌<◌}
use native.Mathlib.Omega.{arith}
use native.Mathlib.Numerals.{add-one}
use native.Mathlib.Nat.{zero-add}
use lib.ListN.{length, get_or, set, take, drop}
use lib.Seq.{paste, paste-suc, length-paste, drop-length}

-- one byte more
pub turn : (d s : List ℕ) (i : ℕ) → i < length d → i < length s → set (paste d 0 s i) i (get_or s i 0) ≡ paste d 0 s (i + 1)
turn d s i p q = ap (λ (k : ℕ). set (paste d 0 s i) k (get_or s i 0)) (sym (zero-add i)) ∙ paste-suc d 0 s i 0 (omega (arith, zero-add i)) q ∙ ap (paste d 0 s) (sym (add-one i))

pub kept_length : (d s : List ℕ) (i : ℕ) → i ≤ length d → i ≤ length s → length (paste d 0 s i) ≡ length d
kept_length d s i p q = length-paste d 0 s i (omega (arith, zero-add i)) q

nothing_more : (l : List ℕ) → l ++ [] ≡ l
nothing_more [] = refl
nothing_more (x ∷ rest) = rw (nothing_more rest)

-- over all of a list
pub over_all : (d s : List ℕ) (n : ℕ) → length d ≡ n → paste d 0 s n ≡ take n s
over_all d s n h =
    let none : drop (0 + n) d ≡ [] = rw (zero-add, ← h) (drop-length d) in
    rw none (nothing_more (take n s))
