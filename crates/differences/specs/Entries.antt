-- Order 1: an entry as bytes, and the list that holds them one after the other.
use Rattle.std.specs.Prelude.{ℕ, ◌/◌, ◌%◌, List, [], ◌∷◌, ◌++◌}
use Rattle.differences.specs.Runs.{Run}
use Rattle.differences.specs.Bytes.{DifferingByte}

-- A run is five bytes: row, first column, last column, and whether it is lit in the first frame and in the second.
unfoldable pub run_entry : Run → List ℕ
run_entry run = run.row ∷ run.first ∷ run.last ∷ run.in_first ∷ run.in_second ∷ []

-- A differing byte is four: its place, low byte first, and its two contents.
unfoldable pub byte_entry : DifferingByte → List ℕ
byte_entry byte = byte.place % 256 ∷ byte.place / 256 ∷ byte.in_first ∷ byte.in_second ∷ []

-- Entries one after the other.
unfoldable pub entries : {A : Type 0} → (A → List ℕ) → List A → List ℕ
entries entry [] = []
entries entry (a ∷ rest) = entry a ++ entries entry rest
