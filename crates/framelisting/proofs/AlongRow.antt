-- A row walked from left to right: what the place under the walk says of the lit places and runs from there on.
-- Assumes nothing.
use Prim.Native.Nat.{ℕ, zero, suc, ◌+◌, ◌-◌, ◌≤◌, ◌<◌}
use mathlib.Core.Path.{◌≡◌, refl, sym, ◌∙◌}
use mathlib.Core.Bool.{◌||◌}
use mathlib.Core.List.{List, [], ◌∷◌, ◌++◌}
use native.Mathlib.Nat.{add-zero, add-suc, suc-add}
use native.Mathlib.Numerals.{add-one}
use native.Mathlib.Omega.{arith}
use borrow.Author.Tests.{ne_eqb}
use lib.Bits.{bit_or, or_zero_l, or_zero_r, or_add_and, and_le_l}
use lib.ListN.{length, get_or, drop, length-drop, drop_of_length-le}
use lib.Seq.{drop-drop}
use Rattle.std.proofs.Common.{not, nat_eq, fold}
use Rattle.std.proofs.Math.Bool.{or-false, or_assoc}
use Rattle.framelisting.proofs.PutPieces.{from}
use Rattle.framelisting.specs.Runs.{lit, any_lit, leading, runs_from}
use Rattle.framelisting.specs.Text.{run_text, runs_text}

-- a number that is not 0 is a successor
above : (b : ℕ) → (b ≡ 0 → ⊥) → b ≡ suc (b - 1)
above b n = omega (arith, n)

-- The lit places from x on: none where x is dark, one more than after it where it is lit, none at the end.
pub leading_here : (row : List ℕ) (x : ℕ) → x < length row → get_or row x 0 ≡ 0 → leading (drop x row) ≡ 0
unfolding leading
leading_here row x h e = rw (from row x h, e)

pub leading_on : (row : List ℕ) (x : ℕ) → x < length row → (get_or row x 0 ≡ 0 → ⊥) → leading (drop x row) ≡ suc (leading (drop (x + 1) row))
unfolding leading
leading_on row x h n = rw (from row x h, above _ n)

pub leading_end : (row : List ℕ) (x : ℕ) → length row ≤ x → leading (drop x row) ≡ 0
unfolding leading
leading_end row x h = rw (drop_of_length-le row h)

-- no more places lead a row than it has
pub leading_length : (row : List ℕ) → leading row ≤ length row
unfolding leading
leading_length [] = omega arith
leading_length (zero ∷ row) = omega arith
leading_length (suc b ∷ row) = omega (arith, leading_length row)

-- to pass over places is to begin after them
pub passed_over : (x n : ℕ) (row : List ℕ) → runs_from x n row ≡ runs_from (x + n) 0 (drop n row)
unfolding runs_from
passed_over x zero row = rw add-zero
passed_over x (suc n) [] = refl
passed_over x (suc n) (b ∷ row) = passed_over (suc x) n row ∙ rw (suc-add, ← add-suc)

-- the place after a run is dark, or there is none: to pass over it too changes nothing
pub gap : (x : ℕ) (row : List ℕ) → runs_from x (leading row) row ≡ runs_from x (suc (leading row)) row
unfolding runs_from leading
gap x [] = refl
gap x (zero ∷ row) = refl
gap x (suc b ∷ row) = gap (suc x) row

-- The runs from x on: those after it where x is dark, the one that begins here where it is lit, none at the end.
pub runs_on : (row : List ℕ) (x : ℕ) → x < length row → get_or row x 0 ≡ 0 → runs_from x 0 (drop x row) ≡ runs_from (x + 1) 0 (drop (x + 1) row)
unfolding runs_from
runs_on row x h e = rw (from row x h, e, add-one x)

pub runs_here : (row : List ℕ) (x : ℕ) → x < length row → (get_or row x 0 ≡ 0 → ⊥) → runs_from x 0 (drop x row) ≡ record { first = x; last = x + leading (drop (x + 1) row) } ∷ runs_from (x + 1 + leading (drop (x + 1) row)) 0 (drop (x + 1 + leading (drop (x + 1) row)) row)
unfolding runs_from
runs_here row x h n = rw (from row x h, above _ n, passed_over (suc x) (leading (drop (x + 1) row)) (drop (x + 1) row), drop-drop, add-one x)

pub runs_end : (row : List ℕ) (x : ℕ) → length row ≤ x → runs_from x 0 (drop x row) ≡ []
unfolding runs_from
runs_end row x h = rw (drop_of_length-le row h)

-- the runs from the place after a run on are those from the next place on
after_gap : (row : List ℕ) (x end : ℕ) → end ≡ x + 1 + leading (drop (x + 1) row) → runs_from end 0 (drop end row) ≡ runs_from (end + 1) 0 (drop (end + 1) row)
after_gap row x end e =
    let rest = drop (x + 1) row in
    let n = leading rest in
    let f : x + 1 + suc n ≡ end + 1 = omega arith in
    let there : runs_from (x + 1) n rest ≡ runs_from end 0 (drop end row) = passed_over (x + 1) n rest ∙ rw (drop-drop n (x + 1) row, ← e) in
    let past : runs_from (x + 1) (suc n) rest ≡ runs_from (end + 1) 0 (drop (end + 1) row) = passed_over (x + 1) (suc n) rest ∙ rw (drop-drop (suc n) (x + 1) row, f) in
    sym there ∙ gap (x + 1) rest ∙ past

-- the text of the runs from a lit place on: the run that ends before `end`, and then the runs from there on
pub run_text_lem : (row : List ℕ) (x end : ℕ) → x < length row → (get_or row x 0 ≡ 0 → ⊥) → end ≡ x + 1 + leading (drop (x + 1) row) → runs_text (runs_from x 0 (drop x row)) ≡ run_text (record { first = x; last = end - 1 }) ++ runs_text (runs_from end 0 (drop end row))
unfolding runs_text
run_text_lem row x end h n e =
    let last : x + leading (drop (x + 1) row) ≡ end - 1 = omega arith in
    rw (runs_here row x h n, last, ← e)

-- a run ends within its row
pub run_within : (row : List ℕ) (x end : ℕ) → x < length row → end ≡ x + 1 + leading (drop (x + 1) row) → end ≤ length row
run_within row x end h e = omega (arith, leading_length (drop (x + 1) row), length-drop (x + 1) row)

-- the same, with the place after the run passed over too
pub run_text_on : (row : List ℕ) (x end : ℕ) → x < length row → (get_or row x 0 ≡ 0 → ⊥) → end ≡ x + 1 + leading (drop (x + 1) row) → runs_text (runs_from x 0 (drop x row)) ≡ run_text (record { first = x; last = end - 1 }) ++ runs_text (runs_from (end + 1) 0 (drop (end + 1) row))
run_text_on row x end h n e = run_text_lem row x end h n e ∙ rw (after_gap row x end e)

-- bytes seen together are lit where one of them is
lit_both : (a b : ℕ) → lit (bit_or a b) ≡ lit a || lit b
unfolding lit
lit_both zero b = rw (or_zero_l b)
lit_both (suc a) zero = rw (or_zero_r (suc a))
lit_both (suc a) (suc b) =
    let some : bit_or (suc a) (suc b) ≡ 0 → ⊥ = λ e. omega (arith, e, or_add_and (suc a) (suc b), and_le_l (suc a) (suc b)) in
    rw (above (bit_or (suc a) (suc b)) some)

-- what is seen of a row together with what was seen before it
seen_after : (seen : ℕ) (row : List ℕ) → lit (fold bit_or seen row) ≡ lit seen || any_lit row
unfolding any_lit
seen_after seen [] = sym (or-false (lit seen))
seen_after seen (b ∷ row) = seen_after (bit_or seen b) row ∙ rw (lit_both seen b, or_assoc (lit seen) (lit b) (any_lit row))

lit_above : (b : ℕ) → not (nat_eq b 0) ≡ lit b
unfolding lit
lit_above zero = refl
lit_above (suc b) = rw (ne_eqb (suc b) 0 (λ e. omega arith))

-- a row has a lit place where its bytes together are not 0
pub seen_together : (row : List ℕ) → not (nat_eq (fold bit_or 0 row) 0) ≡ any_lit row
unfolding lit
seen_together row = lit_above (fold bit_or 0 row) ∙ seen_after 0 row
