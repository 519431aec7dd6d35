-- For the code: runs and bytes counted place by place, and row by row.
-- Assumes nothing.
use Prim.Native.Nat.{ℕ, zero, suc, ◌+◌, ◌-◌, ◌≤◌, ◌<◌}
use mathlib.Core.Path.{◌≡◌, refl, sym, ◌∙◌}
use mathlib.Core.Bool.{Bool, true, false, ◌&&◌, not, cond}
use mathlib.Core.List.{List, ◌∷◌}
use native.Mathlib.Nat.{not-suc-le-zero}
use native.Mathlib.Numerals.{add-one}
use native.Mathlib.Omega.{arith}
use mir.Val.{bool_byte}
use lib.Dec.{eqb}
use lib.ListN.{length, length-append, get_or}
use Rattle.picture.specs.Frame.{row_of}
use Rattle.differences.specs.ByRows.{by_rows}
use Rattle.differences.specs.Runs.{alike, goes_on, begins, run_at, runs_from}
use Rattle.differences.specs.Bytes.{held, byte_at, bytes_from}
use Rattle.differences.proofs.ByRows.{rows_on}

-- a test as a byte
pub byte_of : (t : Bool) → bool_byte t ≡ cond t 1 0
byte_of true = refl
byte_of false = refl

-- a list with one thing more where a test passes
one_more : {A : Type 0} (t : Bool) (a : A) (rest : List A) → length (cond t (a ∷ rest) rest) ≡ cond t 1 0 + length rest
one_more true a rest = omega arith
one_more false a rest = omega arith

one_less : {A : Type 0} (t : Bool) (a : A) (rest : List A) → length (cond t rest (a ∷ rest)) ≡ cond (not t) 1 0 + length rest
one_less true a rest = omega arith
one_less false a rest = omega arith

-- the runs from x on are one more than those after it where x begins one
runs_counted : (w p : ℕ) (a b : List ℕ) (x : ℕ) → x < w → length (runs_from p a b (w - x) x) ≡ cond (begins a b x) 1 0 + length (runs_from p a b (w - (x + 1)) (x + 1))
unfolding runs_from
runs_counted w p a b x h =
    let e : w - x ≡ suc (w - (x + 1)) = omega arith in
    rw (e, add-one x) (one_more (begins a b x) (run_at p a b (w - suc x) x) (runs_from p a b (w - suc x) (suc x)))

-- in the first column, and after it
begins_first : (a b : List ℕ) → begins a b 0 ≡ not (eqb (get_or a 0 0) (get_or b 0 0))
unfolding begins goes_on
begins_first a b = by (not (eqb (get_or a 0 0) (get_or b 0 0)))
  where
    by : (t : Bool) → (t && true) ≡ t
    by true = refl
    by false = refl

begins_after : (a b : List ℕ) (x : ℕ) → 1 ≤ x → begins a b x ≡ (not (eqb (get_or a x 0) (get_or b x 0)) && not (eqb (get_or a x 0) (get_or a (x - 1) 0) && eqb (get_or b x 0) (get_or b (x - 1) 0)))
unfolding begins goes_on alike
begins_after a b zero h = absurd (not-suc-le-zero h)
begins_after a b (suc x) h =
    let e : suc x - 1 ≡ x = omega arith in
    rw e

-- What a count of runs keeps: it and the runs from here on are all runs.
pub runs_first : (w : ℕ) (a b : List ℕ) (count : ℕ) → 0 < w → count ≡ cond (not (eqb (get_or a 0 0) (get_or b 0 0))) 1 0 → count + length (runs_from 0 a b (w - 1) 1) ≡ length (runs_from 0 a b w 0)
runs_first w a b count h e =
    let f : length (runs_from 0 a b (w - 0) 0) ≡ cond (not (eqb (get_or a 0 0) (get_or b 0 0))) 1 0 + length (runs_from 0 a b (w - 1) 1) = runs_counted w 0 a b 0 h ∙ rw (begins_first a b) in
    let g : w - 0 ≡ w = omega arith in
    rw e (sym (rw g at f))

pub runs_next : (w : ℕ) (a b : List ℕ) (x count one all : ℕ) → 1 ≤ x → x < w → count + length (runs_from 0 a b (w - x) x) ≡ all
    → one ≡ cond (not (eqb (get_or a x 0) (get_or b x 0)) && not (eqb (get_or a x 0) (get_or a (x - 1) 0) && eqb (get_or b x 0) (get_or b (x - 1) 0))) 1 0
    → count + one + length (runs_from 0 a b (w - (x + 1)) (x + 1)) ≡ all
runs_next w a b x count one all l h e f =
    let g : length (runs_from 0 a b (w - x) x) ≡ one + length (runs_from 0 a b (w - (x + 1)) (x + 1)) = runs_counted w 0 a b x h ∙ rw (begins_after a b x l, f) in
    omega (arith, e, g)

-- a row's runs are as many whatever its number
pub any_row : (p : ℕ) (a b : List ℕ) (n x : ℕ) → length (runs_from p a b n x) ≡ length (runs_from 0 a b n x)
unfolding runs_from
any_row p a b zero x = refl
any_row p a b (suc n) x = one_more (begins a b x) (run_at p a b n x) (runs_from p a b n (suc x)) ∙ rw (any_row p a b n (suc x)) (sym (one_more (begins a b x) (run_at 0 a b n x) (runs_from 0 a b n (suc x))))

-- What a count of a page's bytes keeps.
pub bytes_next : (w page : ℕ) (a b : List ℕ) (x count one all : ℕ) → x < w → count + length (bytes_from page a b (w - x) x) ≡ all → one ≡ cond (not (eqb (held page a x) (held page b x))) 1 0
    → count + one + length (bytes_from page a b (w - (x + 1)) (x + 1)) ≡ all
unfolding bytes_from
bytes_next w page a b x count one all h e f =
    let m : w - x ≡ suc (w - (x + 1)) = omega arith in
    let g : length (bytes_from page a b (w - x) x) ≡ one + length (bytes_from page a b (w - (x + 1)) (x + 1)) = rw (m, add-one x, f) (one_less (eqb (held page a x) (held page b x)) (byte_at page a b x) (bytes_from page a b (w - suc x) (suc x))) in
    omega (arith, e, g)

-- What a count by rows keeps.
pub rows_next : {A : Type 0} (w : ℕ) (each : ℕ → List ℕ → List ℕ → List A) (f g : List ℕ) (n p count one all : ℕ) → p < n → count + length (by_rows w each f g (n - p) p) ≡ all → one ≡ length (each p (row_of w p f) (row_of w p g))
    → count + one + length (by_rows w each f g (n - (p + 1)) (p + 1)) ≡ all
rows_next w each f g n p count one all h e k =
    let m = rw (rows_on w each f g n p h, length-append) at e in
    omega (arith, m, k)
