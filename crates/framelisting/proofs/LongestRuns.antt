-- The runs of a row are its longest runs of lit places, left to right, and no other list of runs is.
-- Assumes nothing.
use Prim.Native.Nat.{ℕ, zero, suc, ◌+◌, ◌≤◌, ◌<◌}
use mathlib.Core.Path.{◌≡◌, refl, sym, ◌∙◌, ap, ap₂}
use mathlib.Core.Bool.{Bool, true, false, ◌&&◌, ◌||◌, true≢false, false≢true}
use mathlib.Core.List.{List, [], ◌∷◌}
use native.Mathlib.Nat.{not-suc-le-zero, zero-add, add-suc, suc-add}
use native.Mathlib.Omega.{arith}
use borrow.Author.Tests.{ltb-true, ltb-false, leb-true, leb-false, le-leb, lt-leb}
use lib.Dec.{ltb, leb}
use lib.ListN.{length, get_or}
use Rattle.framelisting.specs.Runs.{Run, lit, any_lit, leading, runs_from, runs}
use Rattle.framelisting.specs.LongestRuns.{inside, covered, together, Apart, LongestRuns, RunsOfLines}
use Rattle.framelisting.proofs.AlongRow.{gap}

-- where a run stands to a place
within : (run : Run) (x : ℕ) → run.first ≤ x → x ≤ run.last → inside run x ≡ true
within run x p q = rw (le-leb run.first x p, le-leb x run.last q)

left_of : (run : Run) (x : ℕ) → x < run.first → inside run x ≡ false
left_of run x p = rw (lt-leb run.first x p)

right_of : (run : Run) (x : ℕ) → run.last < x → inside run x ≡ false
right_of run x p = by (leb run.first x)
  where
    by : (t : Bool) → (t && leb x run.last) ≡ false
    by true = lt-leb x run.last p
    by false = refl

-- no run covers a place before the first
before : (x : ℕ) (list : List Run) → Apart x list → (y : ℕ) → y < x → covered list y ≡ false
unfolding covered
before x [] a y h = refl
before x (run ∷ more) a y h = rw (left_of run y (omega (arith, h, a.0)), before (run.last + 2) more a.2 y (omega (arith, h, a.0, a.1)))

-- runs that stand apart from x on do so from any place before it
sooner : (x y : ℕ) (list : List Run) → y ≤ x → Apart x list → Apart y list
sooner x y [] h a = tt
sooner x y (run ∷ more) h a = (omega (arith, h, a.0), a.1, a.2)

-- the runs from x on, after n places passed over, begin there or later
apart_from : (x n : ℕ) (row : List ℕ) → Apart (x + n) (runs_from x n row)
unfolding runs_from
apart_from x n [] = tt
apart_from x (suc n) (b ∷ row) = rw (add-suc, ← suc-add) (apart_from (suc x) n row)
apart_from x zero (zero ∷ row) = sooner (suc x + 0) (x + 0) (runs_from (suc x) 0 row) (omega arith) (apart_from (suc x) 0 row)
apart_from x zero (suc b ∷ row) =
    let k = leading row in
    let e : x + k + 2 ≡ suc x + suc k = omega arith in
    (omega arith, omega arith, rw (e, gap (suc x) row) (apart_from (suc x) (suc k) row))

-- the leading places are lit
leading_lit : (row : List ℕ) (y : ℕ) → y < leading row → lit (get_or row y 0) ≡ true
unfolding leading lit
leading_lit [] y h = absurd (not-suc-le-zero h)
leading_lit (zero ∷ row) y h = absurd (not-suc-le-zero h)
leading_lit (suc b ∷ row) zero h = refl
leading_lit (suc b ∷ row) (suc y) h = leading_lit row y (omega (arith, h))

-- and cover the lit places from there on
exact_from : (x n : ℕ) (row : List ℕ) (y : ℕ) → n ≤ y → covered (runs_from x n row) (x + y) ≡ lit (get_or row y 0)
unfolding runs_from covered lit
exact_from x n [] y h = refl
exact_from x (suc n) (b ∷ row) zero h = absurd (not-suc-le-zero h)
exact_from x (suc n) (b ∷ row) (suc y) h = rw (add-suc, ← suc-add) (exact_from (suc x) n row y (omega (arith, h)))
exact_from x zero (zero ∷ row) zero h = before (suc x + 0) (runs_from (suc x) 0 row) (apart_from (suc x) 0 row) (x + 0) (omega arith)
exact_from x zero (zero ∷ row) (suc y) h = rw (add-suc, ← suc-add) (exact_from (suc x) 0 row y (omega arith))
exact_from x zero (suc b ∷ row) zero h = rw (within (record { first = x; last = x + leading row }) (x + 0) (omega arith) (omega arith))
exact_from x zero (suc b ∷ row) (suc y) h = by (ltb y (leading row)) refl (exact_from (suc x) (leading row) row y)
  where
    run : Run
    run = record { first = x; last = x + leading row }

    by : (t : Bool) → ltb y (leading row) ≡ t → (leading row ≤ y → covered (runs_from (suc x) (leading row) row) (suc x + y) ≡ lit (get_or row y 0)) → (inside run (x + suc y) || covered (runs_from (suc x) (leading row) row) (x + suc y)) ≡ lit (get_or row y 0)
    by true e more = let h = ltb-true y (leading row) e in rw (within run (x + suc y) (omega arith) (omega (arith, h)), leading_lit row y h)
    by false e more = let h = ltb-false y (leading row) e in rw (right_of run (x + suc y) (omega (arith, h)), add-suc, ← suc-add) (more h)

-- the runs of a row are its longest runs
pub runs_are : (row : List ℕ) → LongestRuns row (runs row)
unfolding runs
runs_are row = record {
  exact = λ x. ap (covered (runs_from 0 0 row)) (sym (zero-add x)) ∙ exact_from 0 0 row x (omega arith);
  apart = apart_from 0 0 row;
}

-- Two lists of runs that stand apart and cover the same places.
module _ (r s : Run) (rs ss : List Run) (a : Apart r.first (r ∷ rs)) (b : Apart s.first (s ∷ ss)) (agree : (y : ℕ) → covered (r ∷ rs) y ≡ covered (s ∷ ss) y) where
  -- the one begins no sooner than the other
  no_sooner : s.first ≤ r.first
  unfolding covered
  no_sooner = by (ltb r.first s.first) refl
    where
      by : (t : Bool) → ltb r.first s.first ≡ t → s.first ≤ r.first
      by true e = absurd (true≢false (sym (rw (within r r.first (omega arith) a.1)) ∙ agree r.first ∙ before s.first (s ∷ ss) b r.first (ltb-true r.first s.first e)))
      by false e = ltb-false r.first s.first e

  -- nor ends later, where both begin at one place
  no_later : r.first ≡ s.first → s.last ≤ r.last
  unfolding covered
  no_later f = by (ltb r.last s.last) refl
    where
      by : (t : Bool) → ltb r.last s.last ≡ t → s.last ≤ r.last
      by true e =
          let h = ltb-true r.last s.last e in
          let here : covered (s ∷ ss) (r.last + 1) ≡ true = rw (within s (r.last + 1) (omega (arith, f, a.1)) (omega (arith, h))) in
          let there : covered (r ∷ rs) (r.last + 1) ≡ false = rw (right_of r (r.last + 1) (omega arith)) (before (r.last + 2) rs a.2 (r.last + 1) (omega arith)) in
          absurd (true≢false (sym here ∙ sym (agree (r.last + 1)) ∙ there))
      by false e = ltb-false r.last s.last e

  -- and after runs that end at one place the rest covers the same places
  rests : r.last ≡ s.last → (y : ℕ) → covered rs y ≡ covered ss y
  unfolding covered
  rests l y = by (ltb y (r.last + 2)) refl
    where
      by : (t : Bool) → ltb y (r.last + 2) ≡ t → covered rs y ≡ covered ss y
      by true e =
          let h = ltb-true y (r.last + 2) e in
          before (r.last + 2) rs a.2 y h ∙ sym (before (s.last + 2) ss b.2 y (omega (arith, h, l)))
      by false e =
          let h = ltb-false y (r.last + 2) e in
          rw (right_of r y (omega (arith, h)), right_of s y (omega (arith, h, l))) at (agree y)

abbrev run : ℕ → ℕ → Run
run a b = record { first = a; last = b }

-- runs that stand apart are known by the places that they cover
one_list : (x : ℕ) (rs ss : List Run) → Apart x rs → Apart x ss → ((y : ℕ) → covered rs y ≡ covered ss y) → rs ≡ ss
unfolding covered
one_list x [] [] a b agree = refl
one_list x [] (s ∷ ss) a b agree = absurd (false≢true (agree s.first ∙ rw (within s s.first (omega arith) b.1)))
one_list x (r ∷ rs) [] a b agree = absurd (false≢true (sym (agree r.first) ∙ rw (within r r.first (omega arith) a.1)))
one_list x (r ∷ rs) (s ∷ ss) a b agree =
    let p : Apart r.first (r ∷ rs) = (omega arith, a.1, a.2) in
    let q : Apart s.first (s ∷ ss) = (omega arith, b.1, b.2) in
    let back : (y : ℕ) → covered (s ∷ ss) y ≡ covered (r ∷ rs) y = λ y. sym (agree y) in
    let f : r.first ≡ s.first = omega (arith, no_sooner r s rs ss p q agree, no_sooner s r ss rs q p back) in
    let l : r.last ≡ s.last = omega (arith, no_later r s rs ss p q agree f, no_later s r ss rs q p back (sym f)) in
    ap₂ ◌∷◌ (ap₂ run f l) (one_list (r.last + 2) rs ss a.2 (rw l b.2) (rests r s rs ss p q agree l))

-- no other list is
runs_alone : (row : List ℕ) (list : List Run) → LongestRuns row list → list ≡ runs row
runs_alone row list l =
    let k = runs_are row in
    one_list 0 list (runs row) l.apart k.apart (λ x. l.exact x ∙ sym (k.exact x))

-- what a test of a place against a run says
is_inside : (run : Run) (x : ℕ) → inside run x ≡ true → (run.first ≤ x) × (x ≤ run.last)
is_inside run x e = by (leb run.first x) refl e
  where
    by : (t : Bool) → leb run.first x ≡ t → (t && leb x run.last) ≡ true → (run.first ≤ x) × (x ≤ run.last)
    by true d e = (leb-true run.first x d, leb-true x run.last e)
    by false d e = absurd (false≢true e)

is_right : (run : Run) (x : ℕ) → inside run x ≡ false → run.first ≤ x → run.last < x
is_right run x e h = leb-false x run.last (rw (le-leb run.first x h) at e)

-- a covered place is none before the first
is_after : (z : ℕ) (list : List Run) → Apart z list → (x : ℕ) → covered list x ≡ true → z ≤ x
is_after z list a x e = by (ltb x z) refl
  where
    by : (t : Bool) → ltb x z ≡ t → z ≤ x
    by true d = absurd (true≢false (sym e ∙ before z list a x (ltb-true x z d)))
    by false d = ltb-false x z d

-- where runs stand apart, places that are covered side by side are in one run
stretch : (z : ℕ) (list : List Run) → Apart z list → (x y : ℕ) → x ≤ y → ((p : ℕ) → x ≤ p → p ≤ y → covered list p ≡ true) → together list x y ≡ true
unfolding covered together
stretch z [] a x y h all = absurd (false≢true (all x (omega arith) h))
stretch z (run ∷ more) a x y h all = by (inside run x) (inside run y) refl refl (stretch (run.last + 2) more a.2 x y h)
  where
    -- past this run a covered place is the next runs'
    past : (p : ℕ) → run.last < p → x ≤ p → p ≤ y → run.last + 2 ≤ p
    past p l f t = is_after (run.last + 2) more a.2 p (rw (right_of run p l) at (all p f t))

    next : inside run x ≡ false → run.last < x
    next d = let e = is_after (run.last + 2) more a.2 x (rw d at (all x (omega arith) h)) in omega (arith, e)

    by : (t u : Bool) → inside run x ≡ t → inside run y ≡ u → (((p : ℕ) → x ≤ p → p ≤ y → covered more p ≡ true) → together more x y ≡ true) → ((t && u) || together more x y) ≡ true
    by true true d e rest = refl
    by true false d e rest =
        let i = is_inside run x d in
        let j = is_right run y e (omega (arith, i.0, h)) in
        absurd (omega (arith, past (run.last + 1) (omega arith) (omega (arith, i.1)) (omega (arith, j))))
    by false true d e rest = rest (λ p f t. rw (right_of run p (omega (arith, next d, f))) at (all p f t))
    by false false d e rest = rest (λ p f t. rw (right_of run p (omega (arith, next d, f))) at (all p f t))

-- no run could be longer: lit places side by side are in one run
runs_longest : (row : List ℕ) (x y : ℕ) → x ≤ y → ((p : ℕ) → x ≤ p → p ≤ y → lit (get_or row p 0) ≡ true) → together (runs row) x y ≡ true
runs_longest row x y h all = stretch 0 (runs row) (runs_are row).apart x y h (λ p f t. (runs_are row).exact p ∙ all p f t)

-- a row has runs exactly where it has a lit place, so that no line is without a run
none_from : (x : ℕ) (row : List ℕ) → any_lit row ≡ false → runs_from x 0 row ≡ []
unfolding runs_from any_lit lit
none_from x [] e = refl
none_from x (zero ∷ row) e = none_from (suc x) row e
none_from x (suc b ∷ row) e = absurd (true≢false e)

some_from : (x : ℕ) (row : List ℕ) → any_lit row ≡ true → runs_from x 0 row ≡ [] → ⊥
unfolding runs_from any_lit lit
some_from x [] e = absurd (false≢true e)
some_from x (zero ∷ row) e = some_from (suc x) row e
some_from x (suc b ∷ row) e = λ h. omega (arith, ap length h)

pub no_runs : (row : List ℕ) → any_lit row ≡ false → runs row ≡ []
unfolding runs
no_runs row e = none_from 0 row e

some_run : (row : List ℕ) → any_lit row ≡ true → runs row ≡ [] → ⊥
unfolding runs
some_run row e = some_from 0 row e

pub runs_of_lines : RunsOfLines
runs_of_lines = record { longest = runs_are; alone = runs_alone; joined = runs_longest; none = no_runs; some = some_run }
