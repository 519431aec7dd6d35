-- Laws on entries: how long they are together, where each of them lies, and how many there can be.
-- Assumes nothing.
use Prim.Native.Nat.{ℕ, zero, suc, ◌+◌, ◌*◌, ◌≤◌, ◌<◌}
use mathlib.Core.Path.{◌≡◌, refl, sym, ◌∙◌}
use mathlib.Core.List.{List, [], ◌∷◌, ◌++◌, append_assoc}
use native.Mathlib.Nat.{not-suc-le-zero, zero-mul, zero-add}
use native.Mathlib.Omega.{arith}
use lib.ListN.{length, get_or, take, length-append}
use lib.Seq.{slice, take_at, take-append-add, drop-append-add}
use Rattle.constants.specs.Sizes.{width, pages, memory_size, frame_entry_size, memory_entry_size}
use Rattle.picture.specs.Frame.{row_of}
use Rattle.differences.specs.ByRows.{by_rows}
use Rattle.differences.specs.Laws.{runs_few, bytes_few}
use Rattle.differences.specs.Runs.{Run, runs_from, runs_in}
use Rattle.differences.specs.Bytes.{DifferingByte, page_bytes, bytes_of}
use Rattle.differences.specs.Entries.{run_entry, byte_entry, entries}

-- a part that lies past the first bytes
slice_past : (first rest : List ℕ) (size from to : ℕ) → length first ≡ size → slice (size + from) (size + to) (first ++ rest) ≡ slice from to rest
slice_past first rest size from to e = rw (← e, take-append-add first rest to, drop-append-add first (take to rest) from)

-- Entries that are all of one size.
module _ {A : Type 0} (size : ℕ) (entry : A → List ℕ) (sized : (a : A) → length (entry a) ≡ size) where
  pub entries_length : (found : List A) → length (entries entry found) ≡ length found * size
  unfolding entries
  entries_length [] = sym (zero-mul size)
  entries_length (a ∷ rest) = length-append (entry a) (entries entry rest) ∙ rw (sized a, entries_length rest) (omega arith)

  -- entry i lies in bytes size i to size i + size - 1, whatever follows them
  pub entry_at : (found : List A) (rest : List ℕ) (none : A) (i : ℕ) → i < length found → slice (i * size) (i * size + size) (entries entry found ++ rest) ≡ entry (get_or found i none)
  unfolding entries
  entry_at [] rest none i h = absurd (not-suc-le-zero h)
  entry_at (a ∷ found) rest none zero h = rw (zero-mul, zero-add, append_assoc) (take_at (entry a) (entries entry found ++ rest) size (sized a))
  entry_at (a ∷ found) rest none (suc i) h =
      let from : suc i * size ≡ size + i * size = omega arith in
      let to : suc i * size + size ≡ size + (i * size + size) = omega arith in
      rw (to, from, append_assoc, slice_past (entry a) (entries entry found ++ rest) size (i * size) (i * size + size) (sized a)) (entry_at found rest none i (omega (arith, h)))

-- a run's entry is five bytes, a byte's four
pub run_sized : (run : Run) → length (run_entry run) ≡ frame_entry_size
unfolding run_entry
run_sized run = refl

pub byte_sized : (byte : DifferingByte) → length (byte_entry byte) ≡ memory_entry_size
unfolding byte_entry
byte_sized byte = refl

-- where no row gives more than k things, n rows give no more than n k
pub rows_few : {A : Type 0} (w k : ℕ) (each : ℕ → List ℕ → List ℕ → List A) → ((p : ℕ) (a b : List ℕ) → length (each p a b) ≤ k) → (f g : List ℕ) (n p : ℕ) → length (by_rows w each f g n p) ≤ n * k
unfolding by_rows
rows_few w k each few f g zero p = omega arith
rows_few w k each few f g (suc n) p =
    let here = each p (row_of w p f) (row_of w p g) in
    let rest = by_rows w each f g n (suc p) in
    omega (arith, length-append here rest, few p (row_of w p f) (row_of w p g), rows_few w k each few f g n (suc p))

-- no more runs than places
pub runs_at_most : (w h : ℕ) (f g : List ℕ) → length (runs_in w h f g) ≤ h * w
unfolding runs_in
runs_at_most w h f g = rows_few w w (λ p a b. runs_from p a b w 0) (λ p a b. runs_few p a b w 0) f g h 0

-- no more bytes than the memory has
pub bytes_at_most : (f g : List ℕ) → length (bytes_of f g) ≤ memory_size
unfolding bytes_of
bytes_at_most f g = rows_few width width page_bytes (λ page a b. bytes_few page a b width 0) f g pages 0

-- so long are the entries of a list of runs, and of a list of bytes
pub run_entries : (found : List Run) → length (entries run_entry found) ≡ length found * frame_entry_size
run_entries = entries_length frame_entry_size run_entry run_sized

pub byte_entries : (found : List DifferingByte) → length (entries byte_entry found) ≡ length found * memory_entry_size
byte_entries = entries_length memory_entry_size byte_entry byte_sized
