-- Comparisons that are worked out by hand from the order's sentences.
use Rattle.std.specs.Prelude.{ℕ, ◌≡◌, List, [], ◌∷◌, ◌++◌, replicate, set}
use Rattle.constants.specs.Sizes.{memory_size, frame_size}
use Rattle.differences.specs.Runs.{Run, runs_in}
use Rattle.differences.specs.Compare.{outcome, compare_frames, compare_memories}
use Rattle.differences.specs.Compared.{Compared}

-- A run by its five numbers.
abbrev pub run : ℕ → ℕ → ℕ → ℕ → ℕ → Run
run p a b was is = record { row = p; first = a; last = b; in_first = was; in_second = is }

-- A frame with nothing lit, and a memory of zeros.
abbrev pub dark : List ℕ
dark = replicate frame_size 0

abbrev pub clear : List ℕ
clear = replicate memory_size 0

pub record Samples : Type 0 where
  -- two rows of six places: lit-to-dark beside dark-to-lit is two runs, and the end of a row and the beginning of the next are two
  pub two_rows : runs_in 6 2 (1 ∷ 1 ∷ 0 ∷ 0 ∷ 1 ∷ 0 ∷ 0 ∷ 0 ∷ 0 ∷ 0 ∷ 0 ∷ 1 ∷ []) (0 ∷ 0 ∷ 1 ∷ 0 ∷ 1 ∷ 1 ∷ 1 ∷ 0 ∷ 0 ∷ 0 ∷ 1 ∷ 0 ∷ []) ≡ run 0 0 1 1 0 ∷ run 0 2 2 0 1 ∷ run 0 5 5 0 1 ∷ run 1 0 0 0 1 ∷ run 1 4 4 0 1 ∷ run 1 5 5 1 0 ∷ []
  -- the first icon comes on: one entry, and the sixth byte of the buffer as it was
  pub icon : compare_frames dark (set dark 8448 1) (9 ∷ 9 ∷ 9 ∷ 9 ∷ 9 ∷ 9 ∷ []) ≡ outcome (Compared.Listed 1) (64 ∷ 0 ∷ 0 ∷ 0 ∷ 1 ∷ 9 ∷ [])
  -- places 3 and 4 of row 1 go dark beside place 5, which comes on: first column, then last
  pub longer : compare_frames (set (set dark 135 1) 136 1) (set dark 137 1) (replicate 10 7) ≡ outcome (Compared.Listed 2) (1 ∷ 3 ∷ 4 ∷ 1 ∷ 0 ∷ 1 ∷ 5 ∷ 5 ∷ 0 ∷ 1 ∷ [])
  -- the last place of row 0 and the first of row 1 go dark: two entries, for which nine bytes are too few
  pub seam : compare_frames (set (set dark 131 1) 132 1) dark (replicate 10 7) ≡ outcome (Compared.Listed 2) (0 ∷ 131 ∷ 131 ∷ 1 ∷ 0 ∷ 1 ∷ 0 ∷ 0 ∷ 1 ∷ 0 ∷ [])
  pub too_few : compare_frames (set (set dark 131 1) 132 1) dark (replicate 9 7) ≡ outcome (Compared.Refused 11) (replicate 9 7)
  -- a 2 in the last place goes before 11, and past the last place it is not asked
  pub above : compare_frames dark (set dark 8579 2) [] ≡ outcome (Compared.Refused 12) []
  pub past_above : compare_frames (dark ++ 2 ∷ []) dark [] ≡ outcome (Compared.Listed 0) []
  -- a frame that is too short goes before 12
  pub short : compare_frames (replicate 8579 2) (replicate frame_size 2) [] ≡ outcome (Compared.Refused 1) []
  -- place 258, low byte first; of page 8 bit 0 alone, so that 254 beside 252 is the same
  pub bytes : compare_memories (set (set clear 1056 254) 1057 254) (set (set (set clear 258 255) 1056 255) 1057 252) (replicate 9 7) ≡ outcome (Compared.Listed 2) (2 ∷ 1 ∷ 0 ∷ 255 ∷ 32 ∷ 4 ∷ 0 ∷ 1 ∷ 7 ∷ [])
  -- seven bytes are too few for two entries, and a memory of 1,187 bytes is too short
  pub bytes_too_few : compare_memories clear (set (set clear 0 1) 1187 1) (replicate 7 7) ≡ outcome (Compared.Refused 11) (replicate 7 7)
  pub bytes_short : compare_memories clear (replicate 1187 0) [] ≡ outcome (Compared.Refused 1) []
