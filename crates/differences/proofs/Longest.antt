-- The longest lists: two frames that differ by turns at every place, and two memories that differ at every byte.
-- Assumes nothing.
use Prim.Native.Nat.{ℕ, zero, suc, ◌+◌, ◌*◌, ◌%◌, ◌≤◌, ◌<◌}
use mathlib.Core.Path.{◌≡◌, refl}
use mathlib.Core.Bool.{Bool, true, false, ◌&&◌}
use mathlib.Core.Logic.{⊎_elim}
use mathlib.Core.List.{List}
use native.Mathlib.Nat.{not-suc-le-zero, eq-or-lt_of_le}
use native.Mathlib.Omega.{arith}
use lib.Dec.{eqb, lit≤}
use lib.ListN.{length, length-append, replicate, get_or-replicate}
use lib.Seq.{drop-append-add}
use Rattle.constants.specs.Sizes.{width, frame_rows, frame_size, pages, icon_page, memory_size}
use Rattle.codes.proofs.Tests.{both, chosen}
use Rattle.bus.specs.Memory.{kept}
use Rattle.picture.specs.Frame.{row_of, place_of}
use Rattle.differences.specs.ByRows.{by_rows}
use Rattle.differences.specs.Runs.{alike, goes_on, begins, runs_from, row_runs, runs_in, runs_of}
use Rattle.differences.specs.Bytes.{held, bytes_from, page_bytes, bytes_of}
use Rattle.differences.specs.Given.{turns, striped}
use Rattle.differences.proofs.Found.{place_of_row}

-- where a run begins at each place, there are as many as places
runs_full : (p : ℕ) (a b : List ℕ) (n x : ℕ) → ((y : ℕ) → y < x + n → begins a b y ≡ true) → length (runs_from p a b n x) ≡ n
unfolding runs_from
runs_full p a b zero x each = refl
runs_full p a b (suc n) x each = rw (each x (omega arith), runs_full p a b n (suc x) (λ y h. each y (omega (arith, h))))

-- where each column differs, there are as many bytes as columns
bytes_full : (page : ℕ) (a b : List ℕ) (n x : ℕ) → ((y : ℕ) → y < x + n → eqb (held page a y) (held page b y) ≡ false) → length (bytes_from page a b n x) ≡ n
unfolding bytes_from
bytes_full page a b zero x each = refl
bytes_full page a b (suc n) x each = rw (each x (omega arith), bytes_full page a b n (suc x) (λ y h. each y (omega (arith, h))))

-- where each of h rows gives k things, n of them give n k
rows_full : {A : Type 0} (w k h : ℕ) (each : ℕ → List ℕ → List ℕ → List A) (f g : List ℕ) → ((p : ℕ) → p < h → length (each p (row_of w p f) (row_of w p g)) ≡ k) → (n p : ℕ) → p + n ≤ h → length (by_rows w each f g n p) ≡ n * k
unfolding by_rows
rows_full w k h each f g full zero p l = omega arith
rows_full w k h each f g full (suc n) p l =
    let here = each p (row_of w p f) (row_of w p g) in
    let rest = by_rows w each f g n (suc p) in
    omega (arith, length-append here rest, full p (omega (arith, l)), rows_full w k h each f g full n (suc p) (omega (arith, l)))

-- a test that holds at each number below n
every : (ℕ → Bool) → ℕ → Bool
every test zero = true
every test (suc n) = test n && every test n

every_at : (test : ℕ → Bool) (n x : ℕ) → every test n ≡ true → x < n → test x ≡ true
unfolding every
every_at test zero x e h = absurd (not-suc-le-zero h)
every_at test (suc n) x e h =
    let halves = both (test n) (every test n) e in
    let within : x ≤ n = omega (arith, h) in
    ⊎_elim (λ q. rw q halves.0) (every_at test n x halves.1) (eq-or-lt_of_le within)

-- each row of a striped frame is the same
stripe : (a b n p : ℕ) → p < n → row_of width p (striped a b n) ≡ turns a b 66
unfolding row_of
stripe a b zero p h = absurd (not-suc-le-zero h)
stripe a b (suc n) zero h = refl
stripe a b (suc n) (suc p) h =
    let e : suc p * width ≡ 132 + p * width = omega arith in
    rw (e, drop-append-add (turns a b 66) (striped a b n) (p * width)) (stripe a b n p (omega (arith, h)))

-- in two rows that are opposite by turns a run begins at each place
all_begin : every (begins (turns 0 1 66) (turns 1 0 66)) width ≡ true
unfolding every begins goes_on alike
all_begin = refl

pub most_runs : length (runs_of (striped 0 1 frame_rows) (striped 1 0 frame_rows)) ≡ frame_size
unfolding runs_in
most_runs = rows_full width width frame_rows (row_runs width) (striped 0 1 frame_rows) (striped 1 0 frame_rows) row frame_rows 0 (lit≤ tt)
  where
    row : (p : ℕ) → p < frame_rows → length (row_runs width p (row_of width p (striped 0 1 frame_rows)) (row_of width p (striped 1 0 frame_rows))) ≡ width
    row p h =
        rw (stripe 0 1 frame_rows p h, stripe 1 0 frame_rows p h)
        (runs_full p (turns 0 1 66) (turns 1 0 66) width 0 (λ y l. every_at (begins (turns 0 1 66) (turns 1 0 66)) width y all_begin (omega (arith, l))))

-- page 8 keeps a byte that has bit 0 only
kept_bit : (page bit : ℕ) → bit < 2 → kept page bit ≡ bit
unfolding kept
kept_bit page bit h = chosen (λ byte. byte ≡ bit) (eqb page icon_page) (bit % 2) bit (λ e. omega (arith, h)) (λ e. refl)

-- and each byte of a memory of one such byte is that
one_byte : (bit page x : ℕ) → bit < 2 → page < pages → x < width → held page (row_of width page (replicate memory_size bit)) x ≡ bit
unfolding place_of
one_byte bit page x b p h =
    rw (place_of_row width page x (replicate memory_size bit) h, get_or-replicate memory_size (page * width + x) bit 0 (omega (arith, p, h)))
    (kept_bit page bit b)

pub most_bytes : length (bytes_of (replicate memory_size 0) (replicate memory_size 1)) ≡ memory_size
unfolding bytes_of
most_bytes = rows_full width width pages page_bytes (replicate memory_size 0) (replicate memory_size 1) row pages 0 (lit≤ tt)
  where
    row : (page : ℕ) → page < pages → length (page_bytes page (row_of width page (replicate memory_size 0)) (row_of width page (replicate memory_size 1))) ≡ width
    row page p =
        bytes_full page (row_of width page (replicate memory_size 0)) (row_of width page (replicate memory_size 1)) width 0
        (λ x h. rw (one_byte 0 page x (omega arith) p (omega (arith, h)), one_byte 1 page x (omega arith) p (omega (arith, h))))
