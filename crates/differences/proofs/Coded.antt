-- For the code: what it finds and lists, in its own entries, is what is stated.
-- Assumes nothing.
use Prim.Native.Nat.{ℕ, zero, suc}
use mathlib.Core.Path.{◌≡◌, refl, sym, ap}
use mathlib.Core.Bool.{false≢true}
use mathlib.Core.List.{List, [], ◌∷◌, map, map-append}
use native.Mathlib.Omega.{arith}
use lib.ListN.{length-map, take}
use Rattle.std.specs.Prelude.{Result, Ok, Err}
use Rattle.std.specs.Result.{IsErr, IsErrAnd}
use Rattle.constants.specs.Sizes.{width, pages, memory_size, frame_rows, frame_size}
use Rattle.picture.specs.Frame.{row_of}
use Rattle.differences.specs.ByRows.{by_rows}
use Rattle.differences.specs.Runs as runs
use Rattle.differences.specs.Bytes as bytes
use Rattle.differences.specs.Entries.{run_entry, byte_entry, entries}
use Rattle.differences.specs.Found.{code_run, runs_found, run_bytes, code_byte, bytes_found, byte_bytes}
use Rattle.differences.specs.Compare.{listed}
use Rattle.differences.proofs.Along.{rows_first}

-- What is found, in the code's own words, is what is stated.
module _ {A B : Type 0} (entry : A → List ℕ) (code : A → B) (bytes : B → List ℕ) (same : (a : A) → bytes (code a) ≡ entry a) where
  entries_coded : (found : List A) → entries bytes (map code found) ≡ entries entry found
  unfolding entries
  entries_coded [] = refl
  entries_coded (a ∷ found) = rw (same a, entries_coded found)

  pub listed_coded : (found : List A) (list : List ℕ) → listed bytes (map code found) list ≡ listed entry found list
  unfolding listed
  listed_coded found list = rw (entries_coded found, length-map)

pub rows_coded : {A B : Type 0} (w : ℕ) (each : ℕ → List ℕ → List ℕ → List A) (code : A → B) (f g : List ℕ) (n p : ℕ) → by_rows w (λ p a b. map code (each p a b)) f g n p ≡ map code (by_rows w each f g n p)
unfolding by_rows
rows_coded w each code f g zero p = refl
rows_coded w each code f g (suc n) p = rw (rows_coded w each code f g n (suc p)) (sym (map-append code (each p (row_of w p f) (row_of w p g)) (by_rows w each f g n (suc p))))

-- So with runs,
frames_listed_whole : (f g list : List ℕ) → listed run_bytes (by_rows width runs_found f g frame_rows 0) list ≡ listed run_entry (runs.runs_of f g) list
unfolding runs.runs_in run_entry
frames_listed_whole f g list = rw (rows_coded width (runs.row_runs width) code_run f g frame_rows 0) (listed_coded run_entry code_run run_bytes (λ run. refl) (by_rows width (runs.row_runs width) f g frame_rows 0) list)

pub frames_listed : (f g f' g' list : List ℕ) → f' ≡ take frame_size f → g' ≡ take frame_size g → listed run_bytes (by_rows width runs_found f' g' frame_rows 0) list ≡ listed run_entry (runs.runs_of f g) list
frames_listed f g f' g' list d e = rw (d, e, rows_first width runs_found frame_size frame_rows f g (omega arith)) (frames_listed_whole f g list)

-- and with bytes.
memories_listed_whole : (f g list : List ℕ) → listed byte_bytes (by_rows width bytes_found f g pages 0) list ≡ listed byte_entry (bytes.bytes_of f g) list
unfolding bytes.bytes_of byte_entry
memories_listed_whole f g list = rw (rows_coded width bytes.page_bytes code_byte f g pages 0) (listed_coded byte_entry code_byte byte_bytes (λ byte. refl) (by_rows width bytes.page_bytes f g pages 0) list)

pub memories_listed : (f g f' g' list : List ℕ) → f' ≡ take memory_size f → g' ≡ take memory_size g → listed byte_bytes (by_rows width bytes_found f' g' pages 0) list ≡ listed byte_entry (bytes.bytes_of f g) list
memories_listed f g f' g' list d e = rw (d, e, rows_first width bytes_found memory_size pages f g (omega arith)) (memories_listed_whole f g list)

-- An error that is handed on as it is.
pub handed_on : {T E : Type 0} (r : Result T E) (e : E) → IsErr r × IsErrAnd r (λ f. f ≡ e) → r ≡ Err e
handed_on (Ok t) e h = absurd (false≢true h.0)
handed_on (Err f) e h = ap (λ (e : _). Err e) h.1
