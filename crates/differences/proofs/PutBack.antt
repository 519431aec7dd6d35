-- Putting what is listed into the first gives the second, and the list is empty exactly where the two are equal.
-- Assumes nothing.
use Prim.Native.Nat.{ℕ, ◌≤◌}
use mathlib.Core.Path.{◌≡◌, refl}
use mathlib.Core.Bool.{Bool, true, false}
use mathlib.Core.List.{List}
use native.Mathlib.Omega.{arith}
use borrow.Author.Tests.{le-ltb}
use lib.ListN.{length, take}
use Rattle.constants.specs.Sizes.{width, frame_rows, frame_size, memory_size}
use Rattle.picture.specs.Ignored.{SameBits}
use Rattle.differences.specs.Runs.{runs_of}
use Rattle.differences.specs.Entries.{entries}
use Rattle.differences.specs.Compare.{outcome, listed, any_above, compare_frames, compare_memories}
use Rattle.differences.specs.Compared.{Compared}
use Rattle.differences.specs.Given.{Above}
use Rattle.differences.specs.PutBack.{PutBack}
use Rattle.differences.proofs.FrameRule.{the_only_runs}
use Rattle.differences.proofs.Given.{above_found}
use Rattle.differences.proofs.PutRuns.{runs_back, runs_whole, no_runs}
use Rattle.differences.proofs.PutBytes.{bytes_back, bytes_past, no_bytes}

-- what is equal has no entry, in any buffer
same_frames : (f g list : List ℕ) → frame_size ≤ length f → frame_size ≤ length g → (Above frame_size f → ⊥) → take frame_size f ≡ take frame_size g → compare_frames f g list ≡ outcome (Compared.Listed 0) list
unfolding compare_frames listed entries
same_frames f g list h k low same =
    let e : any_above (take frame_size f) ≡ false = by (any_above (take frame_size f)) refl in
    let none = (no_runs f g (runs_of f g) (the_only_runs.meets width frame_rows f g) h k).1 same in
    rw (le-ltb (length f) frame_size h, le-ltb (length g) frame_size k, ← same, e, none, le-ltb (length list) 0 (omega arith))
  where
    by : (t : Bool) → any_above (take frame_size f) ≡ t → t ≡ false
    by true e = absurd (low (above_found frame_size f e))
    by false e = refl

same_memories : (f g list : List ℕ) → memory_size ≤ length f → memory_size ≤ length g → SameBits f g → compare_memories f g list ≡ outcome (Compared.Listed 0) list
unfolding compare_memories listed entries
same_memories f g list h k same = rw (le-ltb (length f) memory_size h, le-ltb (length g) memory_size k, (no_bytes f g h).1 same, le-ltb (length list) 0 (omega arith))

pub put_back : PutBack
put_back = record {
  frames = λ f g. runs_back f g (runs_of f g) (the_only_runs.meets width frame_rows f g);
  whole = λ f g. runs_whole f g (runs_of f g) (the_only_runs.meets width frame_rows f g);
  no_runs = λ f g. no_runs f g (runs_of f g) (the_only_runs.meets width frame_rows f g);
  same_frames = same_frames;
  memories = bytes_back;
  past = bytes_past;
  no_bytes = no_bytes;
  same_memories = same_memories;
}
