-- Pieces of data: what a stretch of writes or reads comes to that ends at column 131 or before it, and a stretch in parts.
-- Assumes nothing.
use Prim.Native.Nat.{ℕ, suc, ◌+◌, ◌-◌, ◌≤◌, ◌<◌}
use mathlib.Core.Path.{◌≡◌, refl, sym, ◌∙◌, ap}
use mathlib.Core.Logic.{◌≢◌}
use mathlib.Core.Bool.{Bool, true, false, cond}
use mathlib.Core.List.{List, [], ◌∷◌, ◌++◌, map, map-append, append_assoc}
use native.Mathlib.Nat.{add-zero, not-suc-le-zero, suc-ne-zero}
use native.Mathlib.Omega.{arith}
use borrow.Author.Tests.{eq-eqb, ne_eqb, le-leb, lt-ltb, le-ltb, eqb-true, eqb-false}
use lib.Dec.{eqb}
use lib.ListN.{length, get_or, set, take, drop, length-set, length-map, length-drop, take-append-drop}
use borrow.Rule.Slice.PartMut.{put_mid}
use lib.Seq.{sets, sets-eq, drop-drop, length-take-le, take_all}
use Rattle.constants.specs.Sizes.{width, last_column}
use Rattle.constants.specs.Numbers.{taken}
use Rattle.bus.specs.Places.{column, fresh}
use Rattle.bus.specs.Registers.{◌with◌≔◌}
use Rattle.bus.specs.Memory.{address, kept, onward}
use Rattle.bus.specs.Events.{access, moved, write, written, read}
use Rattle.bus.specs.Chip.{Chip, step}
use Rattle.bus.specs.Result.{Result, gives}
use Rattle.bus.specs.Recorded.{recorded_write, read_as, chip_of, replay, happened, compared}
use Rattle.bus.specs.Stretch.{stretch, stretched, counted_on}
use Rattle.bus.specs.declared.registers.Registers.{Registers}
use Rattle.bus.proofs.Access.{Open, opened}
use Rattle.bus.proofs.StretchLaws.{stretch_from, stretches, turn_given, all_left}
use Rattle.bus.specs.Reads.{reads_from, dummy_reads, after_dummy, column_at}

-- what the four tests ask
pub closed : (r : Registers) (size : ℕ) → Open r size → access r size ≡ taken
unfolding access
closed r size o = rw (le-ltb _ _ o.enough, lt-ltb _ _ o.page, o.awaited, le-leb _ _ o.column)

-- the column after one place, as the column at the next
onward_at : (c : ℕ) → onward c ≡ column_at (c + 1)
unfolding onward column_at
onward_at c = by (eqb c last_column) refl
  where
    by : (t : Bool) → eqb c last_column ≡ t → cond (eqb c last_column) 0 (c + 1) ≡ cond (eqb (c + 1) width) 0 (c + 1)
    by true e = rw (eqb-true c last_column e)
    by false e = rw (e, ne_eqb (c + 1) width (λ w. eqb-false c last_column e (omega arith)))

-- a column below the page's end is its own
pub column_inside : (c : ℕ) → c < width → column_at c ≡ c
unfolding column_at
column_inside c h = rw (ne_eqb c width (λ e. omega arith))

-- no column is above 131
pub column_below : (c : ℕ) → c ≤ width → column_at c ≤ last_column
unfolding column_at
column_below c h = by (eqb c width) refl
  where
    by : (t : Bool) → eqb c width ≡ t → cond t 0 c ≤ last_column
    by true e = omega arith
    by false e = let n = eqb-false c width e in omega (arith, h, n)

module _ (r : Registers) (memory : List ℕ) (allowed : access r (length memory) ≡ taken) where
  -- a write that is allowed
  write_step : (b : ℕ) → replay (recorded_write b) (chip_of r memory) ≡ gives (chip_of (moved r with fresh ≔ 1) (set memory (address r.page r.column) (kept r.page b)))
  unfolding replay happened step write written
  write_step b = rw allowed

  -- a read that is allowed: the dummy read, one in read-modify-write, and any other
  dummy_step : (b : ℕ) → r.fresh ≡ 1 → replay (read_as b) (chip_of r memory) ≡ gives (chip_of (r with fresh ≔ 0) memory)
  unfolding replay compared step read
  dummy_step b f = rw (allowed, f)

  module _ (b : ℕ) (not_fresh : r.fresh ≢ 1) (as-kept : kept r.page (get_or memory (address r.page r.column) 0) ≡ b) where
    again_step : r.modify ≡ 1 → replay (read_as b) (chip_of r memory) ≡ gives (chip_of r memory)
    unfolding replay compared step read
    again_step m = rw (allowed, ne_eqb _ _ not_fresh, m, eq-eqb _ _ as-kept)

    read_step : r.modify ≢ 1 → replay (read_as b) (chip_of r memory) ≡ gives (chip_of (moved r) memory)
    unfolding replay compared step read
    read_step m = rw (allowed, ne_eqb _ _ not_fresh, ne_eqb _ _ m, eq-eqb _ _ as-kept)

-- where the next place lies
next_place : (page column : ℕ) → address page (column + 1) ≡ suc (address page column)
next_place page column = omega arith

-- a first event that is taken, and the others from what it gives
first_given : {S E : Type 0} (step : E → S → Result S) (first : E) (rest : List E) (s t : S) → step first s ≡ gives t → stretch step (first ∷ rest) s ≡ counted_on 1 (stretch step rest t)
unfolding stretch
first_given step first rest s t e = rw e

-- A piece written: each byte stored in its place, and the column where the piece ends.
pub piece_written : (b : ℕ) (bytes : List ℕ) (r : Registers) (memory : List ℕ) → access r (length memory) ≡ taken → r.column + suc (length bytes) ≤ width → stretch replay (map recorded_write (b ∷ bytes)) (chip_of r memory) ≡ stretched (chip_of (r with column ≔ column_at (r.column + suc (length bytes)) with fresh ≔ 1) (sets memory (address r.page r.column) (map (kept r.page) (b ∷ bytes)))) (suc (length bytes)) taken
unfolding stretch
piece_written b [] r memory allowed fits = rw (write_step r memory allowed b, onward_at r.column) refl
piece_written b (b' ∷ bytes) r memory allowed fits =
    let o = opened r (length memory) allowed in
    let here = onward_at r.column ∙ column_inside (r.column + 1) (omega arith) in
    let later = set memory (address r.page r.column) (kept r.page b) in
    let next : Registers = r with column ≔ r.column + 1 with fresh ≔ 1 in
    let still : access next (length later) ≡ taken = closed next (length later) (record { enough = rw (length-set memory (address r.page r.column) (kept r.page b)) o.enough; page = o.page; awaited = o.awaited; column = omega arith }) in
    let end : r.column + 1 + suc (length bytes) ≡ r.column + suc (suc (length bytes)) = omega arith in
    let rest = map (kept r.page) (b' ∷ bytes) in
    let one : 1 + suc (length bytes) ≡ suc (suc (length bytes)) = omega arith in
    first_given replay (recorded_write b) (map recorded_write (b' ∷ bytes)) (chip_of r memory) (chip_of next later) (write_step r memory allowed b ∙ ap (λ c. gives (chip_of (r with column ≔ c with fresh ≔ 1) later)) here) ∙
    ap (λ s. counted_on 1 s) (piece_written b' bytes next later still (omega arith)) ∙
    ap (λ k. stretched (chip_of (r with column ≔ column_at k with fresh ≔ 1) (sets later (address r.page (r.column + 1)) rest)) (1 + suc (length bytes)) taken) end ∙
    ap (λ k. stretched (chip_of (r with column ≔ column_at (r.column + suc (suc (length bytes))) with fresh ≔ 1) (sets later k rest)) (1 + suc (length bytes)) taken) (next_place r.page r.column) ∙
    ap (λ n. stretched (chip_of (r with column ≔ column_at (r.column + suc (suc (length bytes))) with fresh ≔ 1) (sets memory (address r.page r.column) (kept r.page b ∷ rest))) n taken) one

-- the first of a piece read, and the rest from the next column
first_read : (r : Registers) (memory : List ℕ) → access r (length memory) ≡ taken → (b : ℕ) → r.fresh ≢ 1 → r.modify ≢ 1 → kept r.page (get_or memory (address r.page r.column + 0) 0) ≡ b → (rest : List ℕ) → stretch replay (map read_as (b ∷ rest)) (chip_of r memory) ≡ counted_on 1 (stretch replay (map read_as rest) (chip_of (r with column ≔ column_at (r.column + 1)) memory))
first_read r memory allowed b f m agree rest =
    let here : kept r.page (get_or memory (address r.page r.column) 0) ≡ b = ap (λ k. kept r.page (get_or memory k 0)) (sym (add-zero (address r.page r.column))) ∙ agree in
    first_given replay (read_as b) (map read_as rest) (chip_of r memory) (chip_of (r with column ≔ column_at (r.column + 1)) memory) (read_step r memory allowed b f here m ∙ ap (λ c. gives (chip_of (r with column ≔ c) memory)) (onward_at r.column))

-- A piece read that is as the memory keeps it: nothing changes but the column.
pub piece_read : (b : ℕ) (bytes : List ℕ) (r : Registers) (memory : List ℕ) → access r (length memory) ≡ taken → r.fresh ≢ 1 → r.modify ≢ 1 → r.column + suc (length bytes) ≤ width → ((i : ℕ) → i < suc (length bytes) → kept r.page (get_or memory (address r.page r.column + i) 0) ≡ get_or (b ∷ bytes) i 0) → stretch replay (map read_as (b ∷ bytes)) (chip_of r memory) ≡ stretched (chip_of (r with column ≔ column_at (r.column + suc (length bytes))) memory) (suc (length bytes)) taken
unfolding stretch
piece_read b [] r memory allowed f m fits agree = first_read r memory allowed b f m (agree 0 (omega arith)) []
piece_read b (b' ∷ bytes) r memory allowed f m fits agree =
    let o = opened r (length memory) allowed in
    let here = column_inside (r.column + 1) (omega arith) in
    let next : Registers = r with column ≔ r.column + 1 in
    let still : access next (length memory) ≡ taken = closed next (length memory) (record { enough = o.enough; page = o.page; awaited = o.awaited; column = omega arith }) in
    let end : r.column + 1 + suc (length bytes) ≡ r.column + suc (suc (length bytes)) = omega arith in
    let one : 1 + suc (length bytes) ≡ suc (suc (length bytes)) = omega arith in
    let place : (i : ℕ) → address r.page (r.column + 1) + i ≡ address r.page r.column + suc i = λ i. omega arith in
    first_read r memory allowed b f m (agree 0 (omega arith)) (b' ∷ bytes) ∙
    ap (λ c. counted_on 1 (stretch replay (map read_as (b' ∷ bytes)) (chip_of (r with column ≔ c) memory))) here ∙
    ap (λ s. counted_on 1 s) (piece_read b' bytes next memory still f m (omega arith) (λ i h. ap (λ k. kept r.page (get_or memory k 0)) (place i) ∙ agree (suc i) (omega arith))) ∙
    ap (λ k. stretched (chip_of (r with column ≔ column_at k) memory) (1 + suc (length bytes)) taken) end ∙
    ap (λ n. stretched (chip_of (r with column ≔ column_at (r.column + suc (suc (length bytes)))) memory) n taken) one

-- In read-modify-write nothing changes.
pub again_read : (bytes : List ℕ) (r : Registers) (memory : List ℕ) → access r (length memory) ≡ taken → r.fresh ≢ 1 → r.modify ≡ 1 → ((i : ℕ) → i < length bytes → kept r.page (get_or memory (address r.page r.column) 0) ≡ get_or bytes i 0) → stretch replay (map read_as bytes) (chip_of r memory) ≡ stretched (chip_of r memory) (length bytes) taken
unfolding stretch
again_read [] r memory allowed f m repeats = refl
again_read (b ∷ bytes) r memory allowed f m repeats =
    let one : 1 + length bytes ≡ suc (length bytes) = omega arith in
    first_given replay (read_as b) (map read_as bytes) (chip_of r memory) (chip_of r memory) (again_step r memory allowed b f (repeats 0 (omega arith)) m) ∙
    ap (λ s. counted_on 1 s) (again_read bytes r memory allowed f m (λ i h. repeats (suc i) (omega arith))) ∙
    ap (λ n. stretched (chip_of r memory) n taken) one

-- A part of a stretch that is taken whole, and the rest from what it leaves.
module _ {S E : Type 0} (step : E → S → Result S) (means : ℕ → E) (bytes : List ℕ) (at n : ℕ) (inside : at + n ≤ length bytes) (s t : S) where
  pub part_given : stretch step (map means (take n (drop at bytes))) s ≡ stretched t n taken → stretch_from step means bytes at s ≡ stretch_from step means bytes (at + n) t
  part_given e =
      let part = take n (drop at bytes) in
      let long : length (map means part) ≡ n = length-map part means ∙ length-take-le n (drop at bytes) (omega (arith, length-drop at bytes)) in
      let all : map means (drop at bytes) ≡ map means part ++ map means (drop n (drop at bytes)) = ap (λ l. map means l) (sym (take-append-drop n (drop at bytes))) ∙ map-append means part (drop n (drop at bytes)) in
      let later = stretch step (map means (drop (at + n) bytes)) t in
      let sum : at + (length (map means part) + later.count) ≡ at + n + later.count = omega (arith, long) in
      ap (λ l. counted_on at (stretch step l s)) all ∙
      ap (λ x. counted_on at x) ((stretches step).goes_on (map means part) (map means (drop n (drop at bytes))) s (ap (λ x. x.count) e ∙ sym long)) ∙
      ap (λ x. counted_on at (counted_on (length (map means part)) (stretch step (map means (drop n (drop at bytes))) x.state))) e ∙
      ap (λ l. counted_on at (counted_on (length (map means part)) (stretch step (map means l) t))) (drop-drop n at bytes) ∙
      ap (λ k. stretched later.state k later.number) sum

-- Reads from an offset on, and of those some that are passed over.
pub further : (bytes : List ℕ) (at n : ℕ) (c d : Chip) → stretch replay (map read_as (drop at bytes)) c ≡ reads_from n (drop at bytes) d → reads_from at bytes c ≡ reads_from (at + n) bytes d
further bytes at n c d e =
    let later = stretch replay (map read_as (drop (at + n) bytes)) d in
    let sum : at + (n + later.count) ≡ at + n + later.count = omega arith in
    ap (λ s. counted_on at s) e ∙ ap (λ l. counted_on at (counted_on n (stretch replay (map read_as l) d))) (drop-drop n at bytes) ∙ ap (λ k. stretched later.state k later.number) sum

-- The dummy read comes first, where fresh is 1.
pub dummy_first : (bytes : List ℕ) (r : Registers) (memory : List ℕ) → access r (length memory) ≡ taken → 0 < length bytes → stretch replay (map read_as bytes) (chip_of r memory) ≡ stretch_from replay read_as bytes (dummy_reads r.fresh) (chip_of (r with fresh ≔ after_dummy r.fresh) memory)
unfolding dummy_reads after_dummy
dummy_first bytes r memory allowed some = all_left replay read_as bytes (chip_of r memory) ∙ by (eqb r.fresh 1) refl
  where
    by : (t : Bool) → eqb r.fresh 1 ≡ t → stretch_from replay read_as bytes 0 (chip_of r memory) ≡ stretch_from replay read_as bytes (cond t 1 0) (chip_of (r with fresh ≔ cond t 0 r.fresh) memory)
    by true e = turn_given replay read_as bytes 0 some (chip_of r memory) (chip_of (r with fresh ≔ 0) memory) (dummy_step r memory allowed (get_or bytes 0 0) (eqb-true r.fresh 1 e))
    by false e = refl

-- A list put in the place of as many is its bytes stored one by one.
pub put_in_place : (memory values : List ℕ) (from n : ℕ) → n ≡ length values → from + n ≤ length memory → put_mid from n memory values ≡ sets memory from values
put_in_place memory values from n e h =
    ap (λ rest. take from memory ++ (values ++ rest)) (drop-drop n from memory ∙ ap (λ k. drop (from + k) memory) e) ∙
    sym (append_assoc (take from memory) values (drop (from + length values) memory)) ∙
    sym (sets-eq values memory from (omega arith))

-- The same of bytes that are some.
pub written_piece : (bytes : List ℕ) (r : Registers) (memory : List ℕ) → 0 < length bytes → access r (length memory) ≡ taken → r.column + length bytes ≤ width → stretch replay (map recorded_write bytes) (chip_of r memory) ≡ stretched (chip_of (r with column ≔ column_at (r.column + length bytes) with fresh ≔ 1) (sets memory (address r.page r.column) (map (kept r.page) bytes))) (length bytes) taken
written_piece [] r memory some allowed fits = absurd (not-suc-le-zero some)
written_piece (b ∷ bytes) r memory some allowed fits = piece_written b bytes r memory allowed fits

pub read_piece : (bytes : List ℕ) (r : Registers) (memory : List ℕ) → 0 < length bytes → access r (length memory) ≡ taken → r.fresh ≢ 1 → r.modify ≢ 1 → r.column + length bytes ≤ width → ((i : ℕ) → i < length bytes → kept r.page (get_or memory (address r.page r.column + i) 0) ≡ get_or bytes i 0) → stretch replay (map read_as bytes) (chip_of r memory) ≡ stretched (chip_of (r with column ≔ column_at (r.column + length bytes)) memory) (length bytes) taken
read_piece [] r memory some allowed f m fits agree = absurd (not-suc-le-zero some)
read_piece (b ∷ bytes) r memory some allowed f m fits agree = piece_read b bytes r memory allowed f m fits agree

-- Data is allowed at another column of the page as it was.
pub still_allowed : (r : Registers) (size end : ℕ) → access r size ≡ taken → end ≤ width → access (r with column ≔ column_at end) size ≡ taken
still_allowed r size end allowed fits =
    let o = opened r size allowed in
    closed (r with column ≔ column_at end) size (record { enough = o.enough; page = o.page; awaited = o.awaited; column = column_below end fits })

-- and after a piece that is written there.
pub still_written : (r : Registers) (size end : ℕ) → access r size ≡ taken → end ≤ width → access (r with column ≔ column_at end with fresh ≔ 1) size ≡ taken
still_written r size end allowed fits =
    let o = opened r size allowed in
    closed (r with column ≔ column_at end with fresh ≔ 1) size (record { enough = o.enough; page = o.page; awaited = o.awaited; column = column_below end fits })

-- After the dummy read, if there is one, data is allowed as before, and no read is a dummy read.
pub still_ready : (r : Registers) (size value : ℕ) → access r size ≡ taken → access (r with fresh ≔ value) size ≡ taken
still_ready r size value allowed =
    let o = opened r size allowed in
    closed (r with fresh ≔ value) size (record { enough = o.enough; page = o.page; awaited = o.awaited; column = o.column })

pub dummy_once : (value : ℕ) → dummy_reads value ≤ 1
unfolding dummy_reads
dummy_once value = by (eqb value 1)
  where
    by : (t : Bool) → cond t 1 0 ≤ 1
    by true = omega arith
    by false = omega arith

pub not_fresh : (value : ℕ) → after_dummy value ≢ 1
unfolding after_dummy
not_fresh value = by (eqb value 1) refl
  where
    by : (t : Bool) → eqb value 1 ≡ t → cond t 0 value ≢ 1
    by true e f = omega (arith, f)
    by false e f = eqb-false value 1 e f

-- Where data is not allowed, the first byte written is refused; where there is none, nothing is asked.
pub refused_first : (bytes : List ℕ) (r : Registers) (memory : List ℕ) → length bytes ≢ 0 → access r (length memory) ≢ taken → stretch replay (map recorded_write bytes) (chip_of r memory) ≡ stretched (chip_of r memory) 0 (access r (length memory))
unfolding stretch replay happened step write written
refused_first [] r memory some refused = absurd (some refl)
refused_first (b ∷ bytes) r memory some refused = rw (ne_eqb _ _ refused)

pub none_written : (bytes : List ℕ) (r : Registers) (memory : List ℕ) → length bytes ≡ 0 → stretch replay (map recorded_write bytes) (chip_of r memory) ≡ stretched (chip_of r memory) 0 taken
unfolding stretch
none_written [] r memory none = refl
none_written (b ∷ bytes) r memory none = absurd (suc-ne-zero (length bytes) none)

-- A part up to the end is all that is left.
pub part_to_the_end : (bytes : List ℕ) (from : ℕ) → from ≤ length bytes → take (length bytes - from) (drop from bytes) ≡ drop from bytes
part_to_the_end bytes from h = take_all (length bytes - from) (drop from bytes) (omega (arith, length-drop from bytes))
