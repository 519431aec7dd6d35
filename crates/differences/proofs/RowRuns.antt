-- A row of two frames: where a run begins, how far it goes, and that each differing place lies in one.
-- Assumes nothing.
use Prim.Native.Nat.{ℕ, zero, suc, ◌+◌, ◌-◌, ◌≤◌, ◌<◌}
use mathlib.Core.Path.{◌≡◌, refl, ◌∙◌, sym, ap}
use mathlib.Core.Bool.{Bool, true, false, not, true≢false}
use mathlib.Core.Logic.{◌≢◌, inr, ⊎_elim, by_cases}
use mathlib.Core.List.{List}
use native.Mathlib.Nat.{eq-or-lt_of_le}
use native.Mathlib.Decide.{dec_lt}
use native.Mathlib.Omega.{arith}
use borrow.Author.Tests.{eqb-true, eqb-false, not-true, eq-eqb, ne_eqb}
use lib.Dec.{eqb}
use lib.ListN.{get_or}
use Rattle.codes.proofs.Tests.{both, chosen}
use Rattle.bus.specs.Bytes.{All}
use Rattle.differences.specs.Runs.{Run, differs, alike, goes_on, begins, more, run_at, runs_from, row_runs}
use Rattle.differences.specs.InOrder.{Some, InOrder}
use Rattle.differences.specs.FrameRule.{Before, Within}
use Rattle.differences.proofs.Found.{found, all_found, some_found, order_found}

module _ (a b : List ℕ) where
  -- Places x and y hold the same in either frame.
  abbrev Same : ℕ → ℕ → Type 0
  Same x y = (get_or a x 0 ≡ get_or a y 0) × (get_or b x 0 ≡ get_or b y 0)

  -- What the tests say: two neighbours are alike, and a run begins.
  is_alike : (x : ℕ) → alike a b x ≡ true → Same (suc x) x
  unfolding alike
  is_alike x e =
      let halves = both (eqb (get_or a (suc x) 0) (get_or a x 0)) (eqb (get_or b (suc x) 0) (get_or b x 0)) e in
      (eqb-true _ _ halves.0, eqb-true _ _ halves.1)

  pub alike_is : (x : ℕ) → Same (suc x) x → alike a b x ≡ true
  unfolding alike
  alike_is x same = rw (eq-eqb (get_or a (suc x) 0) (get_or a x 0) same.0, eq-eqb (get_or b (suc x) 0) (get_or b x 0) same.1)

  pub is_begun : (x : ℕ) → begins a b x ≡ true → (get_or a x 0 ≢ get_or b x 0) × (goes_on a b x ≡ false)
  unfolding begins
  is_begun x e =
      let halves = both (differs a b x) (not (goes_on a b x)) e in
      (eqb-false (get_or a x 0) (get_or b x 0) (not-true _ halves.0), not-true _ halves.1)

  begun_is : (x : ℕ) → get_or a x 0 ≢ get_or b x 0 → goes_on a b x ≡ false → begins a b x ≡ true
  unfolding begins
  begun_is x n e = rw (ne_eqb (get_or a x 0) (get_or b x 0) n, e)

  -- From x to y each place and the next are alike.
  abbrev pub Along : ℕ → ℕ → Type 0
  Along x y = (z : ℕ) → x ≤ z → z < y → alike a b z ≡ true

  -- then y goes on with the place before it,
  goes_on_lem : (x y : ℕ) → x < y → Along x y → goes_on a b y ≡ true
  unfolding goes_on
  goes_on_lem x zero h along = absurd (omega arith)
  goes_on_lem x (suc y) h along = along y (omega arith) (omega arith)

  -- and holds the same as x
  same_along : (x y : ℕ) → x ≤ y → Along x y → Same y x
  same_along x zero h along = let i : zero ≡ x = omega arith in (ap (λ z. get_or a z 0) i, ap (λ z. get_or b z 0) i)
  same_along x (suc y) h along =
      ⊎_elim
      (λ i. (ap (λ z. get_or a z 0) (sym i), ap (λ z. get_or b z 0) (sym i)))
      (λ l.
      let before = same_along x y (omega arith) (λ z p q. along z p (omega arith)) in
      let here = is_alike y (along y (omega arith) (omega arith)) in
      (here.0 ∙ before.0, here.1 ∙ before.1))
      (eq-or-lt_of_le h)

  -- How far a run goes: over no more places than there are, over places that are alike, and to one that is not like the next, if there is a next.
  pub more_within : (n x : ℕ) → more a b n x ≤ n
  unfolding more
  more_within zero x = omega arith
  more_within (suc n) x = chosen (λ m. m ≤ suc n) (alike a b x) (suc (more a b n (suc x))) 0 (λ e. omega (arith, more_within n (suc x))) (λ e. omega arith)

  more_alike : (n x : ℕ) → Along x (x + more a b n x)
  unfolding more
  more_alike zero x z h = λ k. absurd (omega arith)
  more_alike (suc n) x z h =
      chosen (λ m. z < x + m → alike a b z ≡ true) (alike a b x) (suc (more a b n (suc x))) 0
      (λ e k. ⊎_elim (λ i. ap (alike a b) (sym i) ∙ e) (λ l. more_alike n (suc x) z (omega arith) (omega arith)) (eq-or-lt_of_le h))
      (λ e k. absurd (omega arith))

  pub more_ends : (n x : ℕ) → more a b n x < n → alike a b (x + more a b n x) ≡ false
  unfolding more
  more_ends zero x = λ h. absurd (omega arith)
  more_ends (suc n) x =
      let i : x + suc (more a b n (suc x)) ≡ suc x + more a b n (suc x) = omega arith in
      let j : x + 0 ≡ x = omega arith in
      chosen (λ m. m < suc n → alike a b (x + m) ≡ false) (alike a b x) (suc (more a b n (suc x))) 0
      (λ e h. ap (alike a b) i ∙ more_ends n (suc x) (omega arith))
      (λ e h. ap (alike a b) j ∙ e)

  -- all its places are the same
  pub more_same : (n x y : ℕ) → x ≤ y → y ≤ x + more a b n x → Same y x
  more_same n x y h k = same_along x y h (λ z p q. more_alike n x z p (omega arith))

  -- a place up to which all are alike is one of its places
  more_reaches : (n x y : ℕ) → y ≤ x + n → Along x y → y ≤ x + more a b n x
  more_reaches n x y h along =
      by_cases (dec_lt (x + more a b n x) y)
      (λ l. absurd (true≢false (sym (along (x + more a b n x) (omega arith) l) ∙ more_ends n x (omega arith))))
      (λ l. omega arith)

  -- no place after the first of a run and up to its last begins one
  begins_after : (n x y : ℕ) → x < y → begins a b y ≡ true → x + more a b n x < y
  begins_after n x y h e =
      by_cases (dec_lt (x + more a b n x) y)
      (λ l. l)
      (λ l. absurd (true≢false (sym (goes_on_lem x y h (λ z p q. more_alike n x z p (omega arith))) ∙ (is_begun y e).1)))

  -- a stretch of places, alike one by one, that has the places of a run has no others
  pub no_longer : (n x s t : ℕ) → begins a b x ≡ true → s ≤ x → x + more a b n x ≤ t → t ≤ x + n → Along s t → (s ≡ x) × (t ≡ x + more a b n x)
  no_longer n x s t e h k l along =
      let reached = more_reaches n x t l (λ z p q. along z (omega arith) q) in
      (⊎_elim (λ i. i) (λ p. absurd (true≢false (sym (goes_on_lem s x p (λ z q r. along z q (omega arith))) ∙ (is_begun x e).1))) (eq-or-lt_of_le h), omega arith)

  -- Where the run of a place begins.
  record Start (y : ℕ) : Type 0 where
    at : ℕ
    before : at ≤ y
    begun : begins a b at ≡ true
    along : Along at y

  -- each differing place has such
  start : (y : ℕ) → get_or a y 0 ≢ get_or b y 0 → Start y
  unfolding goes_on
  start zero n = record { at = 0; before = omega arith; begun = begun_is 0 n refl; along = λ z h k. absurd (omega arith) }
  start (suc y) n = by (alike a b y) refl (start y)
    where
      by : (t : Bool) → alike a b y ≡ t → (get_or a y 0 ≢ get_or b y 0 → Start y) → Start (suc y)
      by true e rest =
          let same = is_alike y e in
          let s = rest (λ i. n (same.0 ∙ i ∙ sym same.1)) in
          record { at = s.at; before = omega arith; begun = s.begun; along = λ z h k. let l : z ≤ y = omega arith in ⊎_elim (λ i. ap (alike a b) i ∙ e) (s.along z h) (eq-or-lt_of_le l) }
      by false e rest = record { at = suc y; before = omega arith; begun = begun_is (suc y) n e; along = λ z h k. absurd (omega arith) }

-- The runs of row p, of w places.
module _ (w p : ℕ) (a b : List ℕ) where
  -- The run that begins at place x.
  abbrev pub run_of : ℕ → Run
  run_of x = run_at p a b (w - suc x) x

  -- the runs are what the places at which one begins give
  runs_found : (n x : ℕ) → x + n ≡ w → runs_from p a b n x ≡ found (begins a b) run_of n x
  unfolding runs_from found
  runs_found zero x e = refl
  runs_found (suc n) x e =
      let i : w - suc x ≡ n = omega arith in
      rw (runs_found n (suc x) (omega arith), i)

  row_found : row_runs w p a b ≡ found (begins a b) run_of w 0
  row_found = runs_found w 0 (omega arith)

  -- so they are in order,
  pub row_order : InOrder Before (row_runs w p a b)
  row_order = rw row_found (order_found (begins a b) run_of Before (λ x y h d e. inr (refl, begins_after a b (w - suc x) x y h e)) w 0)

  -- what each has, all have,
  pub row_all : (P : Run → Type 0) → ((x : ℕ) → x < w → begins a b x ≡ true → P (run_of x)) → All P (row_runs w p a b)
  row_all P each = rw row_found (all_found (begins a b) run_of P w 0 (λ x h k e. each x (omega arith) e))

  -- and each differing place lies in one
  pub row_every : (x : ℕ) → x < w → get_or a x 0 ≢ get_or b x 0 → Some (Within p x) (row_runs w p a b)
  row_every x h n =
      let s = start a b x n in
      rw row_found (some_found (begins a b) run_of (Within p x) w 0 s.at (omega arith) (omega arith) s.begun (refl, s.before, more_reaches a b (w - suc s.at) s.at x (omega arith) s.along))
