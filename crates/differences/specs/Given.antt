-- Order 1: each number given exactly when, what is left of the list buffer, and how large it must be.
use Rattle.std.specs.Prelude.{ℕ, zero, suc, ◌+◌, ◌*◌, ◌≤◌, ◌<◌, ◌≡◌, ◌≢◌, ◌↔◌, ◌⊎◌, List, [], ◌∷◌, ◌++◌, length, get_or, drop, replicate}
use Rattle.std.proofs.Math.Seq.{slice}
use Rattle.constants.specs.Sizes.{frame_rows, frame_size, memory_size, frame_entry_size, memory_entry_size, longest_frame_list, longest_memory_list}
use Rattle.constants.specs.Numbers.{taken, too_short, list_too_small, frame_byte_above}
use Rattle.differences.specs.Runs.{Run, runs_of}
use Rattle.differences.specs.Bytes.{DifferingByte, bytes_of}
use Rattle.differences.specs.Entries.{run_entry, byte_entry}
use Rattle.differences.specs.Compare.{Outcome, number_of, count_of, compare_frames, compare_memories}

-- Both are as long as needed.
abbrev pub Long : ℕ → List ℕ → List ℕ → Type 0
Long size f g = (size ≤ length f) × (size ≤ length g)

-- One of the first so many bytes is above 1.
pub record Above (size : ℕ) (frame : List ℕ) : Type 0 where
  pub place : ℕ
  pub place_in : place < size
  pub above : 1 < get_or frame place 0

-- What a call leaves, where it would list so many things as entries of a size; `none` is what get_or gives past their end.
module _ {A : Type 0} (size : ℕ) (entry : A → List ℕ) (none : A) where
  pub record Left (found : List A) (list : List ℕ) (left : Outcome) : Type 0 where
    -- refused, nothing is written and the count is 0
    pub refused : number_of left.answer ≢ taken → (count_of left.answer ≡ 0) × (left.list ≡ list)
    -- taken, the count is that of the entries,
    pub count : number_of left.answer ≡ taken → count_of left.answer ≡ length found
    -- entry i lies in bytes size i to size i + size - 1,
    pub each : number_of left.answer ≡ taken → (i : ℕ) → i < length found → slice (i * size) (i * size + size) left.list ≡ entry (get_or found i none)
    -- and, taken or refused, the rest of the buffer is as it was
    pub rest : drop (length found * size) left.list ≡ drop (length found * size) list

abbrev pub no_run : Run
no_run = record { row = 0; first = 0; last = 0; in_first = 0; in_second = 0 }

abbrev pub no_byte : DifferingByte
no_byte = record { place = 0; in_first = 0; in_second = 0 }

pub record FramesCompared (f g list : List ℕ) : Type 0 where
  -- 1 exactly when a frame is shorter than 8,580 bytes
  pub one : (number_of (compare_frames f g list).answer ≡ too_short) ↔ ((length f < frame_size) ⊎ (length g < frame_size))
  -- 12 exactly when neither is, and a byte among the first 8,580 of either is above 1
  pub twelve : (number_of (compare_frames f g list).answer ≡ frame_byte_above) ↔ (Long frame_size f g × (Above frame_size f ⊎ Above frame_size g))
  -- 11 exactly when none of that is so, and the buffer is too small for all entries
  pub eleven : (number_of (compare_frames f g list).answer ≡ list_too_small) ↔ (Long frame_size f g × (Above frame_size f → ⊥) × (Above frame_size g → ⊥) × (length list < length (runs_of f g) * frame_entry_size))
  -- 0 exactly when nothing of that is so
  pub zero : (number_of (compare_frames f g list).answer ≡ taken) ↔ (Long frame_size f g × (Above frame_size f → ⊥) × (Above frame_size g → ⊥) × (length (runs_of f g) * frame_entry_size ≤ length list))
  pub left : Left frame_entry_size run_entry no_run (runs_of f g) list (compare_frames f g list)

pub record MemoriesCompared (f g list : List ℕ) : Type 0 where
  -- 1 exactly when a memory is shorter than 1,188 bytes
  pub one : (number_of (compare_memories f g list).answer ≡ too_short) ↔ ((length f < memory_size) ⊎ (length g < memory_size))
  -- 11 exactly when neither is, and the buffer is too small for all entries
  pub eleven : (number_of (compare_memories f g list).answer ≡ list_too_small) ↔ (Long memory_size f g × (length list < length (bytes_of f g) * memory_entry_size))
  -- 0 exactly when nothing of that is so
  pub zero : (number_of (compare_memories f g list).answer ≡ taken) ↔ (Long memory_size f g × (length (bytes_of f g) * memory_entry_size ≤ length list))
  pub left : Left memory_entry_size byte_entry no_byte (bytes_of f g) list (compare_memories f g list)

-- So many times a and then b.
abbrev pub turns : ℕ → ℕ → ℕ → List ℕ
turns a b zero = []
turns a b (suc n) = a ∷ b ∷ turns a b n

-- So many rows of 132 places, a and b by turns.
abbrev pub striped : ℕ → ℕ → ℕ → List ℕ
striped a b zero = []
striped a b (suc n) = turns a b 66 ++ striped a b n

pub record Given : Type 0 where
  pub frames : (f g list : List ℕ) → FramesCompared f g list
  pub memories : (f g list : List ℕ) → MemoriesCompared f g list
  -- 42,900 bytes are enough for any two frames: 11 is never given,
  pub frames_enough : (f g list : List ℕ) → longest_frame_list ≤ length list → number_of (compare_frames f g list).answer ≢ list_too_small
  -- and no fewer are: where the first has every second place lit and the second the others, 11 is given with any shorter buffer.
  pub frames_reached : (list : List ℕ) → length list < longest_frame_list → number_of (compare_frames (striped 0 1 frame_rows) (striped 1 0 frame_rows) list).answer ≡ list_too_small
  -- 4,752 bytes are enough for any two memories,
  pub memories_enough : (f g list : List ℕ) → longest_memory_list ≤ length list → number_of (compare_memories f g list).answer ≢ list_too_small
  -- and no fewer are, where all bytes differ.
  pub memories_reached : (list : List ℕ) → length list < longest_memory_list → number_of (compare_memories (replicate memory_size 0) (replicate memory_size 1) list).answer ≡ list_too_small
