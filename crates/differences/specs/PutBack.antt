-- Order 1: putting what is listed into the first gives the second; and the list is empty exactly where the two are equal.
use Rattle.std.specs.Prelude.{ℕ, suc, ◌+◌, ◌-◌, ◌*◌, ◌≤◌, ◌≡◌, ◌↔◌, List, [], ◌∷◌, ◌++◌, length, take, drop, set, replicate}
use Rattle.std.proofs.lemmas.List.Edits.{sets}
use Rattle.constants.specs.Sizes.{width, frame_size, memory_size}
use Rattle.picture.specs.Ignored.{SameBits}
use Rattle.differences.specs.Runs.{Run, runs_of}
use Rattle.differences.specs.Bytes.{DifferingByte, bytes_of}
use Rattle.differences.specs.Compare.{outcome, compare_frames, compare_memories}
use Rattle.differences.specs.Given.{Above}
use Rattle.differences.specs.Compared.{Compared}

-- A frame of rows w wide with each place of a run as it is in the second frame.
unfoldable pub put_run : ℕ → List ℕ → Run → List ℕ
put_run w frame run = sets frame (run.row * w + run.first) (replicate (suc (run.last - run.first)) run.in_second)

-- One run after the other.
unfoldable pub put_runs : ℕ → List ℕ → List Run → List ℕ
put_runs w frame [] = frame
put_runs w frame (run ∷ rest) = put_runs w (put_run w frame run) rest

-- A memory with each listed byte as it is in the second.
unfoldable pub put_bytes : List ℕ → List DifferingByte → List ℕ
put_bytes memory [] = memory
put_bytes memory (byte ∷ rest) = put_bytes (set memory byte.place byte.in_second) rest

pub record PutBack : Type 0 where
  -- Two frames: the 8,580 bytes are then those of the second, and what follows them is as it was,
  pub frames : (f g : List ℕ) → frame_size ≤ length f → frame_size ≤ length g → put_runs width f (runs_of f g) ≡ take frame_size g ++ drop frame_size f
  -- so that a first frame of just that length becomes the second.
  pub whole : (f g : List ℕ) → length f ≡ frame_size → length g ≡ frame_size → put_runs width f (runs_of f g) ≡ g
  -- The list is empty exactly where the two are equal,
  pub no_runs : (f g : List ℕ) → frame_size ≤ length f → frame_size ≤ length g → (runs_of f g ≡ []) ↔ (take frame_size f ≡ take frame_size g)
  -- and then a buffer of any length, of no bytes too, is enough and stays as it was.
  pub same_frames : (f g list : List ℕ) → frame_size ≤ length f → frame_size ≤ length g → (Above frame_size f → ⊥) → take frame_size f ≡ take frame_size g → compare_frames f g list ≡ outcome (Compared.Listed 0) list
  -- Two memories: all 8,580 bits are then those of the second,
  pub memories : (f g : List ℕ) → memory_size ≤ length f → SameBits (put_bytes f (bytes_of f g)) g
  -- and what follows the 1,188 bytes is as it was.
  pub past : (f g : List ℕ) → drop memory_size (put_bytes f (bytes_of f g)) ≡ drop memory_size f
  -- The list is empty exactly where the two have the same bits,
  pub no_bytes : (f g : List ℕ) → memory_size ≤ length f → (bytes_of f g ≡ []) ↔ SameBits f g
  -- and then any buffer is enough and stays as it was.
  pub same_memories : (f g list : List ℕ) → memory_size ≤ length f → memory_size ≤ length g → SameBits f g → compare_memories f g list ≡ outcome (Compared.Listed 0) list
