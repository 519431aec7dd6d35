-- Order 1: what a reader finds in the list buffer of a taken call, entry by entry from its bytes, is the list that the rule allows, and gives the second.
use Rattle.std.specs.Prelude.{ℕ, zero, suc, ◌+◌, ◌*◌, ◌≡◌, List, [], ◌∷◌, ◌++◌, get_or, take, drop}
use Rattle.constants.specs.Sizes.{width, frame_rows, frame_size}
use Rattle.constants.specs.Numbers.{taken}
use Rattle.picture.specs.Ignored.{SameBits}
use Rattle.differences.specs.Runs.{Run}
use Rattle.differences.specs.Bytes.{DifferingByte}
use Rattle.differences.specs.FrameRule.{FrameRule}
use Rattle.differences.specs.MemoryRule.{MemoryRule}
use Rattle.differences.specs.PutBack.{put_runs, put_bytes}
use Rattle.differences.specs.Compare.{number_of, count_of, compare_frames, compare_memories}

-- The first n entries of five bytes: row, first column, last column, whether lit in the first frame, whether lit in the second.
unfoldable pub read_runs : ℕ → List ℕ → List Run
read_runs zero list = []
read_runs (suc n) list = record { row = get_or list 0 0; first = get_or list 1 0; last = get_or list 2 0; in_first = get_or list 3 0; in_second = get_or list 4 0 } ∷ read_runs n (drop 5 list)

-- The first n entries of four bytes: the place, little-endian, and the contents in the first memory and in the second.
unfoldable pub read_bytes : ℕ → List ℕ → List DifferingByte
read_bytes zero list = []
read_bytes (suc n) list = record { place = get_or list 0 0 + 256 * get_or list 1 0; in_first = get_or list 2 0; in_second = get_or list 3 0 } ∷ read_bytes n (drop 4 list)

pub record ReadBack : Type 0 where
  -- Two frames: the runs read meet the rule,
  pub frames : (f g list : List ℕ) → number_of (compare_frames f g list).answer ≡ taken
      → FrameRule width frame_rows f g (read_runs (count_of (compare_frames f g list).answer) (compare_frames f g list).list)
  -- and put into the first they give the second.
  pub frames_back : (f g list : List ℕ) → number_of (compare_frames f g list).answer ≡ taken
      → put_runs width f (read_runs (count_of (compare_frames f g list).answer) (compare_frames f g list).list) ≡ take frame_size g ++ drop frame_size f
  -- Two memories: the bytes read meet the rule,
  pub memories : (f g list : List ℕ) → number_of (compare_memories f g list).answer ≡ taken
      → MemoryRule f g (read_bytes (count_of (compare_memories f g list).answer) (compare_memories f g list).list)
  -- and put into the first they give all bits of the second.
  pub memories_back : (f g list : List ℕ) → number_of (compare_memories f g list).answer ≡ taken
      → SameBits (put_bytes f (read_bytes (count_of (compare_memories f g list).answer) (compare_memories f g list).list)) g
