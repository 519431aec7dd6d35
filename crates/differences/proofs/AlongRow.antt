-- A row walked from left to right: what the place under the walk says of the runs from there on.
-- Assumes nothing.
use Prim.Native.Nat.{ℕ, zero, suc, ◌+◌, ◌-◌, ◌≤◌, ◌<◌}
use mathlib.Core.Path.{◌≡◌, refl, sym, ◌∙◌}
use mathlib.Core.Bool.{Bool, true, false, ◌&&◌, not, cond}
use mathlib.Core.List.{List, [], ◌∷◌}
use native.Mathlib.Nat.{add-zero}
use native.Mathlib.Numerals.{add-one}
use native.Mathlib.Omega.{arith}
use borrow.Author.Tests.{eqb-true, eq-eqb, ne_eqb}
use lib.Dec.{eqb}
use lib.ListN.{get_or}
use Rattle.differences.specs.Runs.{Run, alike, goes_on, begins, more, run_at, runs_from}
use Rattle.differences.specs.Put.{OneRun}
use Rattle.differences.proofs.RowRuns.{more_within, more_ends}

module _ (p : ℕ) (a b : List ℕ) where
  -- a place that is the same in both begins no run
  none_here : (n x : ℕ) → get_or a x 0 ≡ get_or b x 0 → runs_from p a b (suc n) x ≡ runs_from p a b n (suc x)
  unfolding runs_from begins
  none_here n x e = rw (eq-eqb (get_or a x 0) (get_or b x 0) e)

  -- a differing place that does not go on begins one
  one_here : (n x : ℕ) → (get_or a x 0 ≡ get_or b x 0 → ⊥) → goes_on a b x ≡ false → runs_from p a b (suc n) x ≡ run_at p a b n x ∷ runs_from p a b n (suc x)
  unfolding runs_from begins
  one_here n x d e = rw (ne_eqb (get_or a x 0) (get_or b x 0) d, e)

  -- a place that goes on begins none
  goes_on_lem : (n x : ℕ) → alike a b x ≡ true → runs_from p a b (suc n) (suc x) ≡ runs_from p a b n (suc (suc x))
  unfolding runs_from begins goes_on
  goes_on_lem n x e = by (eqb (get_or a (suc x) 0) (get_or b (suc x) 0))
    where
      rest : List Run
      rest = runs_from p a b n (suc (suc x))

      by : (t : Bool) → cond (not t && not (alike a b x)) (run_at p a b n (suc x) ∷ rest) rest ≡ rest
      by true = refl
      by false = rw e

  -- the places that go on with a place begin none
  pub passed_over : (n x : ℕ) → runs_from p a b n (suc x) ≡ runs_from p a b (n - more a b n x) (suc x + more a b n x)
  unfolding more
  passed_over zero x = rw add-zero
  passed_over (suc n) x = by (alike a b x) refl (passed_over n (suc x))
    where
      k : ℕ
      k = more a b n (suc x)

      by : (t : Bool) → alike a b x ≡ t → runs_from p a b n (suc (suc x)) ≡ runs_from p a b (n - k) (suc (suc x) + k) → runs_from p a b (suc n) (suc x) ≡ runs_from p a b (suc n - cond t (suc k) 0) (suc x + cond t (suc k) 0)
      by true e later =
          let f : suc (suc x) + k ≡ suc x + suc k = omega arith in
          let g : n - k ≡ suc n - suc k = omega arith in
          goes_on_lem n x e ∙ later ∙ rw (f, g)
      by false e later =
          let g : suc n - 0 ≡ suc n = omega arith in
          rw (add-zero, g)

-- the place after x goes on, or does not, or there is none
pub more_on : (a b : List ℕ) (w x : ℕ) → x + 1 < w → alike a b x ≡ true → more a b (w - (x + 1)) x ≡ suc (more a b (w - (x + 1 + 1)) (x + 1))
unfolding more
more_on a b w x h e =
    let g : w - (x + 1) ≡ suc (w - (x + 1 + 1)) = omega arith in
    rw (g, e, add-one x)

pub more_not : (a b : List ℕ) (w x : ℕ) → x + 1 < w → alike a b x ≡ false → more a b (w - (x + 1)) x ≡ 0
unfolding more
more_not a b w x h e =
    let g : w - (x + 1) ≡ suc (w - (x + 1 + 1)) = omega arith in
    rw (g, e)

pub more_end : (a b : List ℕ) (w x : ℕ) → w ≤ x + 1 → more a b (w - (x + 1)) x ≡ 0
unfolding more
more_end a b w x h =
    let g : w - (x + 1) ≡ 0 = omega arith in
    rw g

-- what the test on the next place says, where x holds what the run does
pub way_told : (a b : List ℕ) (x was is : ℕ) (r : Bool) → get_or a x 0 ≡ was → get_or b x 0 ≡ is → r ≡ (eqb (get_or a (x + 1) 0) was && eqb (get_or b (x + 1) 0) is) → alike a b x ≡ r
unfolding alike
way_told a b x was is r e f h = rw (← add-one x, e, f) (sym h)

-- A run may begin here: a place that differs does not go on with the one before it.
abbrev pub Open : ℕ → List ℕ → List ℕ → ℕ → Type 0
Open w a b x = x < w → (get_or a x 0 ≡ get_or b x 0 → ⊥) → goes_on a b x ≡ false

-- at the first place,
pub open_first : (w : ℕ) (a b : List ℕ) → Open w a b 0
unfolding goes_on
open_first w a b h d = refl

-- after a place that is the same in both,
pub open_same : (w : ℕ) (a b : List ℕ) (x : ℕ) → get_or a x 0 ≡ get_or b x 0 → Open w a b (x + 1)
unfolding goes_on alike
open_same w a b x e h d = rw (add-one x) (by (eqb (get_or a (suc x) 0) (get_or a x 0)) refl (eqb (get_or b (suc x) 0) (get_or b x 0)) refl)
  where
    by : (t : Bool) → eqb (get_or a (suc x) 0) (get_or a x 0) ≡ t → (u : Bool) → eqb (get_or b (suc x) 0) (get_or b x 0) ≡ u → (t && u) ≡ false
    by true m true n = absurd (rw (add-one x) at d (eqb-true _ _ m ∙ e ∙ sym (eqb-true _ _ n)))
    by true m false n = refl
    by false m true n = refl
    by false m false n = refl

-- and after a run
pub open_after : (w : ℕ) (a b : List ℕ) (x last : ℕ) → x < w → last ≡ x + more a b (w - (x + 1)) x → Open w a b (last + 1)
unfolding goes_on
open_after w a b x last l e h d = rw (add-one last, e) (more_ends a b (w - (x + 1)) x (omega (arith, e, h, l)))

-- The runs from x on, of a row of w places: those after it where x is the same in both, the one that begins here where it differs, none at the end.
pub runs_on : (w p : ℕ) (a b : List ℕ) (x : ℕ) → x < w → get_or a x 0 ≡ get_or b x 0 → runs_from p a b (w - x) x ≡ runs_from p a b (w - (x + 1)) (x + 1)
runs_on w p a b x h e =
    let g : w - x ≡ suc (w - (x + 1)) = omega arith in
    rw g (none_here p a b (w - (x + 1)) x e ∙ rw (add-one x))

pub runs_here : (w p : ℕ) (a b : List ℕ) (x last : ℕ) → x < w → (get_or a x 0 ≡ get_or b x 0 → ⊥) → Open w a b x → last ≡ x + more a b (w - (x + 1)) x
    → runs_from p a b (w - x) x ≡ record { row = p; first = x; last = last; in_first = get_or a x 0; in_second = get_or b x 0 } ∷ runs_from p a b (w - (last + 1)) (last + 1)
runs_here w p a b x last h d o e =
    let k = more a b (w - (x + 1)) x in
    let g : w - x ≡ suc (w - (x + 1)) = omega arith in
    let m : w - (x + 1) - k ≡ w - (last + 1) = omega (arith, e) in
    let n : suc x + k ≡ last + 1 = omega (arith, e) in
    rw (g, one_here p a b (w - (x + 1)) x d (o h d), passed_over p a b (w - (x + 1)) x, m, n, ← e)

pub runs_end : (w p : ℕ) (a b : List ℕ) (x : ℕ) → w ≤ x → runs_from p a b (w - x) x ≡ []
unfolding runs_from
runs_end w p a b x h =
    let g : w - x ≡ 0 = omega arith in
    rw g

-- or that it does not go on, as the code asks
not_twice : (t : Bool) → not (not t) ≡ t
not_twice true = refl
not_twice false = refl

pub way_left : (a b : List ℕ) (last x was is : ℕ) (r : Bool) → last + 1 ≡ x → get_or a last 0 ≡ was → get_or b last 0 ≡ is → r ≡ not (eqb (get_or a x 0) was && eqb (get_or b x 0) is) → alike a b last ≡ not r
way_left a b last x was is r h e f g = way_told a b last was is (not r) e f (rw (g, not_twice, h))

pub way_same : (a b x was is : ℕ) (r : Bool) → r ≡ not (eqb a was && eqb b is) → r ≡ false → (a ≡ was) × (b ≡ is)
way_same a b x was is r g z = by (eqb a was) refl (eqb b is) refl (sym g ∙ z)
  where
    by : (t : Bool) → eqb a was ≡ t → (u : Bool) → eqb b is ≡ u → not (t && u) ≡ false → (a ≡ was) × (b ≡ is)
    by true m true n k = (eqb-true a was m, eqb-true b is n)
    by true m false n k = absurd (cc)
    by false m u n k = absurd (cc)

-- a run ends within its row
pub run_within : (w : ℕ) (a b : List ℕ) (x last : ℕ) → x < w → last ≡ x + more a b (w - (x + 1)) x → last < w
run_within w a b x last h e = omega (arith, e, more_within a b (w - (x + 1)) x)

-- where all n places after x go on, there are n
more_all : (a b : List ℕ) (n x : ℕ) → ((y : ℕ) → x ≤ y → y < x + n → alike a b y ≡ true) → more a b n x ≡ n
unfolding more
more_all a b zero x all = refl
more_all a b (suc n) x all = rw (all x (omega arith) (omega arith), more_all a b n (suc x) (λ y l h. all y (omega (arith, l)) (omega (arith, h))))

-- a row that differs in one way throughout is one run
pub runs_one : (w p : ℕ) (a b : List ℕ) → OneRun (suc w) a b → runs_from p a b (suc w) 0 ≡ record { row = p; first = 0; last = w; in_first = get_or a 0 0; in_second = get_or b 0 0 } ∷ []
unfolding alike
runs_one w p a b one =
    let goes : (y : ℕ) → 0 ≤ y → y < 0 + w → alike a b y ≡ true = λ y l h. rw (eq-eqb (get_or a (suc y) 0) (get_or a y 0) (one.1 (suc y) (omega (arith, h)) ∙ sym (one.1 y (omega (arith, h)))), eq-eqb (get_or b (suc y) 0) (get_or b y 0) (one.2 (suc y) (omega (arith, h)) ∙ sym (one.2 y (omega (arith, h))))) in
    let e : suc w - (0 + 1) ≡ w = omega arith in
    let last : w ≡ 0 + more a b (suc w - (0 + 1)) 0 = rw (e, more_all a b w 0 goes) (omega arith) in
    let whole : suc w - 0 ≡ suc w = omega arith in
    rw whole at (runs_here (suc w) p a b 0 w (omega arith) one.0 (open_first (suc w) a b) last) ∙ rw (runs_end (suc w) p a b (w + 1) (omega arith))
