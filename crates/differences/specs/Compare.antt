-- Order 1: the two calls that compare, each outcome as one function of what is lent.
use Rattle.std.specs.Prelude.{ℕ, Bool, false, cond, ◌||◌, List, [], ◌∷◌, ◌++◌, ltb, length, take, drop}
use Rattle.constants.specs.Sizes.{memory_size, frame_size}
use Rattle.constants.specs.Numbers.{taken, too_short, list_too_small, frame_byte_above}
use Rattle.differences.specs.Runs.{runs_of}
use Rattle.differences.specs.Bytes.{bytes_of}
use Rattle.differences.specs.Entries.{run_entry, byte_entry, entries}
use Rattle.differences.specs.Compared.{Compared}

-- What a call answers, the count of entries or a number, and what the list buffer holds then.
pub record Outcome : Type 0 where
  pub answer : Compared
  pub list : List ℕ

abbrev pub outcome : Compared → List ℕ → Outcome
outcome answer list = record { answer = answer; list = list }

-- The number and the count that an answer stands for: a list was taken, and a refusal has count 0.
unfoldable pub number_of : Compared → ℕ
number_of (Compared.Listed count) = taken
number_of (Compared.Refused number) = number

unfoldable pub count_of : Compared → ℕ
count_of (Compared.Listed count) = count
count_of (Compared.Refused number) = 0

-- All entries at the start of the list buffer and the rest of it as it was; 11 where it is too small for them all.
unfoldable pub listed : {A : Type 0} → (A → List ℕ) → List A → List ℕ → Outcome
listed entry found list =
    cond (ltb (length list) (length (entries entry found)))
    (outcome (Compared.Refused list_too_small) list)
    (outcome (Compared.Listed (length found)) (entries entry found ++ drop (length (entries entry found)) list))

-- A byte above 1 is among these.
unfoldable pub any_above : List ℕ → Bool
any_above [] = false
any_above (b ∷ rest) = ltb 1 b || any_above rest

-- Two frames: 1 where one is shorter than 8,580 bytes, then 12 where one of those of either is above 1, then 11.
unfoldable pub compare_frames : List ℕ → List ℕ → List ℕ → Outcome
compare_frames f g list =
    cond (ltb (length f) frame_size || ltb (length g) frame_size) (outcome (Compared.Refused too_short) list)
    (cond (any_above (take frame_size f) || any_above (take frame_size g)) (outcome (Compared.Refused frame_byte_above) list)
    (listed run_entry (runs_of f g) list))

-- Two memories: 1 where one is shorter than 1,188 bytes, then 11.
unfoldable pub compare_memories : List ℕ → List ℕ → List ℕ → Outcome
compare_memories f g list =
    cond (ltb (length f) memory_size || ltb (length g) memory_size) (outcome (Compared.Refused too_short) list)
    (listed byte_entry (bytes_of f g) list)
