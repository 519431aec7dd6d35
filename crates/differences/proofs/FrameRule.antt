-- The differing runs of two frames meet the order's rule, and no other list does.
-- Assumes nothing.
use Prim.Native.Nat.{ℕ, suc, ◌-◌, ◌≤◌, ◌<◌}
use mathlib.Core.Path.{◌≡◌, refl, ◌∙◌, sym}
use mathlib.Core.Bool.{true}
use mathlib.Core.Logic.{◌≢◌, ◌⊎◌, inl, inr, by_cases}
use mathlib.Core.List.{List}
use native.Mathlib.Decide.{dec_lt}
use native.Mathlib.Omega.{arith}
use Rattle.constants.specs.Sizes.{width, frame_rows}
use Rattle.bus.specs.Bytes.{All}
use Rattle.picture.specs.Frame.{row_of, place_of}
use Rattle.differences.specs.Runs.{Run, begins, row_runs, runs_in}
use Rattle.differences.specs.InOrder.{Some, InOrder}
use Rattle.differences.specs.FrameRule.{Before, Within, Differing, Longest, FrameRule, TheOnlyRuns}
use Rattle.differences.proofs.InOrder.{Among, all_map, some_map, all_some, all_both, order_map, one_list}
use Rattle.differences.proofs.Found.{place_of_row, all_rows, some_rows, order_rows}
use Rattle.differences.proofs.RowRuns.{Along, alike_is, is_begun, more_within, more_same, no_longer, run_of, row_order, row_all, row_every}

-- A run begins before another, row by row, left to right: so stand runs that have places, and no two do each before the other.
abbrev Sooner : Run → Run → Type 0
Sooner run other = (run.row < other.row) ⊎ ((run.row ≡ other.row) × (run.first < other.first))

sooner : (run other : Run) → run.first ≤ run.last → Before run other → Sooner run other
sooner run other h (inl k) = inl k
sooner run other h (inr k) = inr (k.0, omega (arith, k.1))

never : (run other : Run) → Sooner run other → Sooner other run → ⊥
never run other (inl h) (inl k) = omega arith
never run other (inl h) (inr k) = omega (arith, k.0)
never run other (inr h) (inl k) = omega (arith, h.0)
never run other (inr h) (inr k) = omega (arith, h.1, k.1)

-- runs that have the same parts are the same
same_run : (run other : Run) → run.row ≡ other.row → run.first ≡ other.first → run.last ≡ other.last → run.in_first ≡ other.in_first → run.in_second ≡ other.in_second → run ≡ other
same_run run other row first last one two = λ j. record { row = row j; first = first j; last = last j; in_first = one j; in_second = two j }

module _ (w h : ℕ) (f g : List ℕ) where
  -- from the first place of a run to its last all are alike
  alike_along : (p : ℕ) (run : Run) → Differing w h f g run → run.row ≡ p → Along (row_of w p f) (row_of w p g) run.first run.last
  alike_along p run d i z k l =
      alike_is (row_of w p f) (row_of w p g) z (
        place_of_row w p (suc z) f (omega arith) ∙ (rw i at (d.first (suc z) (omega arith) l)) ∙ sym (rw i at (d.first z k (omega arith))) ∙ sym (place_of_row w p z f (omega arith)),
        place_of_row w p (suc z) g (omega arith) ∙ (rw i at (d.second (suc z) (omega arith) l)) ∙ sym (rw i at (d.second z k (omega arith))) ∙ sym (place_of_row w p z g (omega arith)),
      )

  -- The run of row p that begins at place x.
  module _ (p : ℕ) (p_in : p < h) (x : ℕ) (x_in : x < w) (e : begins (row_of w p f) (row_of w p g) x ≡ true) where
    abbrev a : List ℕ
    a = row_of w p f

    abbrev b : List ℕ
    b = row_of w p g

    abbrev run : Run
    run = run_of w p a b x

    -- its places differ in its way
    differing : Differing w h f g run
    differing =
        let within = more_within a b (w - suc x) x in
        record {
          row_in = p_in;
          not_empty = omega arith;
          last_in = omega arith;
          differs = (is_begun a b x e).0;
          first = λ y k l. sym (place_of_row w p y f (omega arith)) ∙ (more_same a b (w - suc x) x y k l).0;
          second = λ y k l. sym (place_of_row w p y g (omega arith)) ∙ (more_same a b (w - suc x) x y k l).1;
        }

    -- and it could not be longer
    longest : Longest w h f g run
    longest longer d i k l =
        let ends = no_longer a b (w - suc x) x longer.first longer.last e k l (omega (arith, d.last_in)) (alike_along p longer d i) in
        same_run longer run i ends.0 ends.1
        (sym (rw i at (d.first x k (omega arith))) ∙ sym (place_of_row w p x f x_in))
        (sym (rw i at (d.second x k (omega arith))) ∙ sym (place_of_row w p x g x_in))

  -- The runs of the frames: what each has, all have,
  runs_all : (P : Run → Type 0) → ((p : ℕ) (p_in : p < h) (x : ℕ) (x_in : x < w) (e : begins (row_of w p f) (row_of w p g) x ≡ true) → P (run_of w p (row_of w p f) (row_of w p g) x)) → All P (runs_in w h f g)
  unfolding runs_in
  runs_all P each = all_rows w (row_runs w) f g P h 0 (λ p l k. row_all w p (row_of w p f) (row_of w p g) P (each p (omega arith)))

  -- they are in order, since the rows are,
  runs_order : InOrder Before (runs_in w h f g)
  unfolding runs_in
  runs_order =
      order_rows w (row_runs w) f g Before (λ p run. run.row ≡ p) (λ p q k run other i j. inl (omega arith)) h 0
      (λ p. row_all w p (row_of w p f) (row_of w p g) (λ run. run.row ≡ p) (λ x k e. refl))
      (λ p. row_order w p (row_of w p f) (row_of w p g))

  -- and each differing place lies in one
  runs_every : (p x : ℕ) → p < h → x < w → place_of w p x f ≢ place_of w p x g → Some (Within p x) (runs_in w h f g)
  unfolding runs_in
  runs_every p x p_in x_in n =
      some_rows w (row_runs w) f g (Within p x) h 0 p (omega arith) (omega arith)
      (row_every w p (row_of w p f) (row_of w p g) x x_in (λ e. n (sym (place_of_row w p x f x_in) ∙ e ∙ place_of_row w p x g x_in)))

  runs_meet : FrameRule w h f g (runs_in w h f g)
  runs_meet = record { in_order = runs_order; differing = runs_all (Differing w h f g) differing; longest = runs_all (Longest w h f g) longest; every = runs_every }

  -- Two runs of one row, where the second has the first's first place: they differ in one way,
  module _ (run other : Run) (d : Differing w h f g run) (e : Differing w h f g other) (i : run.row ≡ other.row) (k : other.first ≤ run.first) (l : run.first ≤ other.last) where
    one_way : (run.in_first ≡ other.in_first) × (run.in_second ≡ other.in_second)
    one_way = (
      sym (d.first run.first (omega arith) d.not_empty) ∙ (rw i (e.first run.first k l)),
      sym (d.second run.first (omega arith) d.not_empty) ∙ (rw i (e.second run.first k l)),
    )

    -- a run from the second's first place to the first's last differs in that way too,
    abbrev joined : Run
    joined = record { row = run.row; first = other.first; last = run.last; in_first = run.in_first; in_second = run.in_second }

    joined_way : (x : ℕ) → other.first ≤ x → x ≤ run.last → (place_of w run.row x f ≡ run.in_first) × (place_of w run.row x g ≡ run.in_second)
    joined_way x m n =
        by_cases (dec_lt x run.first)
        (λ c. ((rw i (e.first x m (omega arith))) ∙ sym one_way.0, (rw i (e.second x m (omega arith))) ∙ sym one_way.1))
        (λ c. (d.first x (omega arith) n, d.second x (omega arith) n))

    joined_differing : Differing w h f g joined
    joined_differing = record {
      row_in = d.row_in;
      not_empty = omega (arith, d.not_empty);
      last_in = d.last_in;
      differs = d.differs;
      first = λ x m n. (joined_way x m n).0;
      second = λ x m n. (joined_way x m n).1;
    }

    -- so they are one where both are longest
    one_run : Longest w h f g run → Longest w h f g other → other ≡ run
    one_run r o =
        by_cases (dec_lt other.last run.last)
        (λ c. sym (o joined joined_differing i (omega arith) (omega arith)) ∙ r joined joined_differing refl k (omega arith))
        (λ c. r other e (sym i) k (omega arith))

  -- A run that differs in its way and is longest.
  abbrev Maximal : Run → Type 0
  Maximal run = Differing w h f g run × Longest w h f g run

  -- any list that meets the rule has each of those
  runs_among : (list : List Run) → FrameRule w h f g list → (run : Run) → Maximal run → Among list run
  runs_among list r run m =
      let d = m.0 in
      some_map (λ other. Maximal other × Within run.row run.first other) (λ other. other ≡ run)
      (λ other n. one_run run other d n.0.0 n.1.0 n.1.1 n.1.2 m.1 n.0.1) list
      (all_some Maximal (Within run.row run.first) list (all_both (Differing w h f g) (Longest w h f g) list r.differing r.longest)
      (r.every run.row run.first d.row_in (omega (arith, d.not_empty, d.last_in))
      (λ e. d.differs (sym (d.first run.first (omega arith) d.not_empty) ∙ e ∙ d.second run.first (omega arith) d.not_empty))))

  -- and two that meet it are one
  runs_one : (list other : List Run) → FrameRule w h f g list → FrameRule w h f g other → list ≡ other
  runs_one list other r s = one_list Sooner never list other (order list r) (order other s) (all list other r s) (all other list s r)
    where
      order : (list : List Run) → FrameRule w h f g list → InOrder Sooner list
      order list r = order_map (Differing w h f g) Before Sooner (λ run other d. sooner run other d.not_empty) list r.differing r.in_order

      all : (list other : List Run) → FrameRule w h f g list → FrameRule w h f g other → All (Among other) list
      all list other r s = all_map Maximal (Among other) (runs_among other s) list (all_both (Differing w h f g) (Longest w h f g) list r.differing r.longest)

  runs_alone : (list : List Run) → FrameRule w h f g list → list ≡ runs_in w h f g
  runs_alone list r = runs_one list (runs_in w h f g) r runs_meet

pub the_only_runs : TheOnlyRuns
the_only_runs = record { meets = runs_meet; alone = runs_alone; called = λ f g list. (runs_alone width frame_rows f g list, λ e. rw e (runs_meet width frame_rows f g)) }
