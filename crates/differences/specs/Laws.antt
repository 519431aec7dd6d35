-- For the code: the laws of its own entries, how long they are, how many a row has, and that there is none where a row is the same in both.
use Prim.Native.Nat.{ℕ, zero, suc, ◌≤◌}
use mathlib.Core.Path.{◌≡◌, refl}
use mathlib.Core.Bool.{Bool, true, false, cond}
use mathlib.Core.List.{List, [], ◌∷◌}
use native.Mathlib.Omega.{arith}
use borrow.Author.Tests.{eq-eqb}
use lib.Dec.{eqb}
use lib.ListN.{length, length-map, get_or}
use Rattle.constants.specs.Sizes.{width, frame_entry_size, memory_entry_size}
use Rattle.differences.specs.Runs.{begins, run_at, runs_from}
use Rattle.differences.specs.Bytes.{held, byte_at, bytes_from}
use Rattle.differences.specs.declared.run.Run.{Run}
use Rattle.differences.specs.declared.byte.DifferingByte.{DifferingByte}
use Rattle.differences.specs.Found.{run_bytes, runs_found, byte_bytes, bytes_found}

-- no more runs begin at n places than n
pub runs_few : (p : ℕ) (a b : List ℕ) (n x : ℕ) → length (runs_from p a b n x) ≤ n
unfolding runs_from
runs_few p a b zero x = omega arith
runs_few p a b (suc n) x = by (begins a b x) (runs_few p a b n (suc x))
  where
    by : (t : Bool) → length (runs_from p a b n (suc x)) ≤ n → length (cond t (run_at p a b n x ∷ runs_from p a b n (suc x)) (runs_from p a b n (suc x))) ≤ suc n
    by true h = omega (arith, h)
    by false h = omega (arith, h)

-- nor do more bytes differ in n columns
pub bytes_few : (page : ℕ) (a b : List ℕ) (n x : ℕ) → length (bytes_from page a b n x) ≤ n
unfolding bytes_from
bytes_few page a b zero x = omega arith
bytes_few page a b (suc n) x = by (eqb (held page a x) (held page b x)) (bytes_few page a b n (suc x))
  where
    by : (t : Bool) → length (bytes_from page a b n (suc x)) ≤ n → length (cond t (bytes_from page a b n (suc x)) (byte_at page a b x ∷ bytes_from page a b n (suc x))) ≤ suc n
    by true h = omega (arith, h)
    by false h = omega (arith, h)

-- rows that are the same have no run
pub runs_same : (p : ℕ) (a : List ℕ) (n x : ℕ) → runs_from p a a n x ≡ []
unfolding runs_from begins
runs_same p a zero x = refl
runs_same p a (suc n) x = rw (eq-eqb (get_or a x 0) (get_or a x 0) refl) (runs_same p a n (suc x))

-- nor have pages a differing byte
pub bytes_same : (page : ℕ) (a : List ℕ) (n x : ℕ) → bytes_from page a a n x ≡ []
unfolding bytes_from
bytes_same page a zero x = refl
bytes_same page a (suc n) x = rw (eq-eqb (held page a x) (held page a x) refl) (bytes_same page a n (suc x))

-- The laws.
pub run_bytes_sized : (run : Run) → length (run_bytes run) ≡ frame_entry_size
run_bytes_sized run = refl

pub runs_found_few : (row : ℕ) (a b : List ℕ) → length (runs_found row a b) ≤ width
runs_found_few row a b = rw length-map (runs_few row a b width 0)

pub runs_found_none : (row : ℕ) (a : List ℕ) → runs_found row a a ≡ []
runs_found_none row a = rw (runs_same row a width 0)

pub byte_bytes_sized : (byte : DifferingByte) → length (byte_bytes byte) ≡ memory_entry_size
byte_bytes_sized byte = refl

pub bytes_found_few : (page : ℕ) (a b : List ℕ) → length (bytes_found page a b) ≤ width
bytes_found_few page a b = rw length-map (bytes_few page a b width 0)

pub bytes_found_none : (page : ℕ) (a : List ℕ) → bytes_found page a a ≡ []
bytes_found_none page a = rw (bytes_same page a width 0)
