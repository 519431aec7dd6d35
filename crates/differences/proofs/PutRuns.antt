-- Runs that meet the order's rule, put into the first frame, give the second; and there is none exactly where the two are equal.
-- Assumes nothing.
use Prim.Native.Nat.{ℕ, suc, ◌+◌, ◌-◌, ◌*◌, ◌/◌, ◌%◌, ◌≤◌, ◌<◌}
use mathlib.Core.Path.{◌≡◌, refl, sym, ◌∙◌, ap₂}
use mathlib.Core.Bool.{Bool, true, false}
use mathlib.Core.Logic.{◌≢◌, ◌↔◌, ◌⊎◌, inl, inr}
use mathlib.Core.List.{List, [], ◌∷◌, ◌++◌, append-nil}
use native.Mathlib.Nat.{mul-le-mul_right, suc-mul}
use native.Mathlib.Omega.{arith}
use native.Mathlib.Decide.{dec_le}
use borrow.Author.Tests.{eqb-true, eqb-false}
use lib.Dec.{eqb}
use lib.ListN.{length, get_or, take, drop, replicate, length-replicate, take-append-drop, drop_of_length-le}
use lib.Seq.{length-sets, take_all}
use Rattle.constants.specs.Sizes.{width, frame_rows, frame_size}
use Rattle.bus.specs.Bytes.{All}
use Rattle.picture.specs.Frame.{place_of}
use Rattle.differences.specs.Runs.{Run}
use Rattle.differences.specs.InOrder.{Some}
use Rattle.differences.specs.FrameRule.{Within, Differing, FrameRule}
use Rattle.differences.specs.PutBack.{put_run, put_runs}
use Rattle.differences.proofs.Stores.{stored_inside, stored_outside, stored_before, begin_alike, alike_at}
use Rattle.differences.proofs.InOrder.{some_map}

-- Two frames of h rows of w places.
module _ (w h : ℕ) (f g : List ℕ) where
  -- Where the run begins in the frame, and how many places it has.
  abbrev start : Run → ℕ
  start run = run.row * w + run.first

  abbrev count : Run → ℕ
  count run = suc (run.last - run.first)

  -- A place of the frame is one of the run's.
  abbrev Inside : ℕ → Run → Type 0
  Inside place run = (start run ≤ place) × (place ≤ run.row * w + run.last)

  -- one run put: a place that held what the second frame holds, or is one of the run's, holds it
  put_one : (run : Run) → Differing w h f g run → (frame : List ℕ) (place : ℕ) → place < length frame → (get_or frame place 0 ≡ get_or g place 0) ⊎ Inside place run → get_or (put_run w frame run) place 0 ≡ get_or g place 0
  unfolding put_run place_of
  put_one run d frame place l was = by (dec_le (start run) place) (dec_le place (run.row * w + run.last)) was
    where
      by : Dec (start run ≤ place) → Dec (place ≤ run.row * w + run.last) → (get_or frame place 0 ≡ get_or g place 0) ⊎ Inside place run → get_or (put_run w frame run) place 0 ≡ get_or g place 0
      by (yes p) (yes q) was =
          let x = place - run.row * w in
          let e : run.row * w + x ≡ place = omega (arith, p) in
          let second = d.second x (omega (arith, p)) (omega (arith, q)) in
          stored_inside frame (start run) (count run) run.in_second place p (omega (arith, q, d.not_empty)) l ∙ sym (rw e at second)
      by (yes p) (no q) (inl e) = stored_outside frame (start run) (count run) run.in_second place (inr (omega (arith, q, d.not_empty))) ∙ e
      by (yes p) (no q) (inr i) = absurd (q i.1)
      by (no p) q (inl e) = stored_outside frame (start run) (count run) run.in_second place (inl (omega (arith, p))) ∙ e
      by (no p) q (inr i) = absurd (p i.0)

  length_one : (frame : List ℕ) (run : Run) → length (put_run w frame run) ≡ length frame
  unfolding put_run
  length_one frame run = length-sets frame (start run) (replicate (count run) run.in_second)

  -- all put, in the same way
  put_all : (list : List Run) → All (Differing w h f g) list → (frame : List ℕ) (place : ℕ) → place < length frame → (get_or frame place 0 ≡ get_or g place 0) ⊎ Some (Inside place) list → get_or (put_runs w frame list) place 0 ≡ get_or g place 0
  unfolding put_runs
  put_all [] all frame place l (inl e) = e
  put_all [] all frame place l (inr s) = absurd s
  put_all (run ∷ rest) all frame place l (inl e) =
      put_all rest all.1 (put_run w frame run) place (rw (length_one frame run) l) (inl (put_one run all.0 frame place l (inl e)))
  put_all (run ∷ rest) all frame place l (inr (inl i)) =
      put_all rest all.1 (put_run w frame run) place (rw (length_one frame run) l) (inl (put_one run all.0 frame place l (inr i)))
  put_all (run ∷ rest) all frame place l (inr (inr s)) =
      put_all rest all.1 (put_run w frame run) place (rw (length_one frame run) l) (inr s)

  -- the length stays
  length_all : (list : List Run) (frame : List ℕ) → length (put_runs w frame list) ≡ length frame
  unfolding put_runs
  length_all [] frame = refl
  length_all (run ∷ rest) frame = length_all rest (put_run w frame run) ∙ length_one frame run

  -- a run's places lie in the frame
  in_frame : (run : Run) → Differing w h f g run → run.row * w + run.last < h * w
  in_frame run d = omega (arith, rw suc-mul at (mul-le-mul_right w d.row_in), d.last_in)

  -- nothing past the frame changes
  put_past : (list : List Run) → All (Differing w h f g) list → (frame : List ℕ) → drop (h * w) (put_runs w frame list) ≡ drop (h * w) frame
  unfolding put_runs put_run
  put_past [] all frame = refl
  put_past (run ∷ rest) all frame =
      put_past rest all.1 (put_run w frame run)
      ∙ stored_before (h * w) (replicate (count run) run.in_second) frame (start run)
      (omega (arith, in_frame run all.0, all.0.not_empty, length-replicate (count run) run.in_second))

-- Two frames of this chip, and any list of runs that meets the order's rule.
module _ (f g : List ℕ) (list : List Run) (rule : FrameRule width frame_rows f g list) where
  put_same : frame_size ≤ length f → (place : ℕ) → place < frame_size → get_or (put_runs width f list) place 0 ≡ get_or g place 0
  unfolding place_of
  put_same l place h = put_all width frame_rows f g list rule.differing f place (omega (arith, l, h)) (by (eqb (get_or f place 0) (get_or g place 0)) refl)
    where
      at : place / width * width + place % width ≡ place
      at = omega arith

      inside : (run : Run) → Within (place / width) (place % width) run → Inside width frame_rows f g place run
      inside run i = (omega (arith, i.0, i.1), omega (arith, i.0, i.2))

      by : (t : Bool) → eqb (get_or f place 0) (get_or g place 0) ≡ t → (get_or f place 0 ≡ get_or g place 0) ⊎ Some (Inside width frame_rows f g place) list
      by true e = inl (eqb-true (get_or f place 0) (get_or g place 0) e)
      by false e =
          let differs : place_of width (place / width) (place % width) f ≢ place_of width (place / width) (place % width) g = rw at (eqb-false (get_or f place 0) (get_or g place 0) e) in
          inr (some_map (Within (place / width) (place % width)) (Inside width frame_rows f g place) inside list (rule.every (place / width) (place % width) (omega (arith, h)) (omega arith) differs))

  long : frame_size ≤ length f → frame_size ≤ length (put_runs width f list)
  long l = rw (length_all width frame_rows f g list f) l

  -- the first places are those of the second frame, and what follows them is as it was
  pub runs_back : frame_size ≤ length f → frame_size ≤ length g → put_runs width f list ≡ take frame_size g ++ drop frame_size f
  runs_back l k =
      let put = put_runs width f list in
      sym (take-append-drop frame_size put)
      ∙ ap₂ ◌++◌ (begin_alike frame_size put g (long l) k (put_same l)) (put_past width frame_rows f g list rule.differing f)

  pub runs_whole : length f ≡ frame_size → length g ≡ frame_size → put_runs width f list ≡ g
  runs_whole l k =
      runs_back (omega (arith, l)) (omega (arith, k))
      ∙ rw (take_all frame_size g (omega (arith, k)), drop_of_length-le f {i = frame_size} (omega (arith, l))) (append-nil g)

  -- frames that begin alike have no differing run
  none_differing : take frame_size f ≡ take frame_size g → (runs : List Run) → All (Differing width frame_rows f g) runs → runs ≡ []
  unfolding place_of
  none_differing e [] all = refl
  none_differing e (run ∷ rest) all =
      let d = all.0 in
      let place = run.row * width + run.first in
      let within : place < frame_size = omega (arith, in_frame width frame_rows f g run d, d.not_empty) in
      let first = d.first run.first (omega arith) d.not_empty in
      let second = d.second run.first (omega arith) d.not_empty in
      absurd (d.differs (sym first ∙ alike_at frame_size f g place e within ∙ second))

  pub no_runs : frame_size ≤ length f → frame_size ≤ length g → (list ≡ []) ↔ (take frame_size f ≡ take frame_size g)
  unfolding put_runs
  no_runs l k =
      (λ none. begin_alike frame_size f g l k (rw none at (put_same l)), λ e. none_differing e list rule.differing)
