-- For the code: what differs in a row, as the code's own entries, and these as bytes.
use Rattle.std.specs.Prelude.{ℕ, ◌/◌, ◌%◌, List, [], ◌∷◌, map}
use Rattle.constants.specs.Sizes.{width}
use Rattle.differences.specs.Runs as runs
use Rattle.differences.specs.Bytes as bytes
use Rattle.differences.specs.declared.run.Run.{Run}
use Rattle.differences.specs.declared.byte.DifferingByte.{DifferingByte}

-- A run, and the runs of a row.
abbrev pub code_run : runs.Run → Run
code_run run = record { row = run.row; first = run.first; last = run.last; in_first = run.in_first; in_second = run.in_second }

abbrev pub runs_found : ℕ → List ℕ → List ℕ → List Run
runs_found row a b = map code_run (runs.row_runs width row a b)

abbrev pub run_bytes : Run → List ℕ
run_bytes run = run.row ∷ run.first ∷ run.last ∷ run.in_first ∷ run.in_second ∷ []

-- A differing byte, and those of a page.
abbrev pub code_byte : bytes.DifferingByte → DifferingByte
code_byte byte = record { place = byte.place; in_first = byte.in_first; in_second = byte.in_second }

abbrev pub bytes_found : ℕ → List ℕ → List ℕ → List DifferingByte
bytes_found page a b = map code_byte (bytes.page_bytes page a b)

abbrev pub byte_bytes : DifferingByte → List ℕ
byte_bytes byte = byte.place % 256 ∷ byte.place / 256 ∷ byte.in_first ∷ byte.in_second ∷ []
