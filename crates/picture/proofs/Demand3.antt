-- Demand 3 holds.
-- Assumes nothing.
use mathlib.Core.Path.{◌≡◌, refl, sym, ◌∙◌, ap, subst₂}
use mathlib.Core.Bool.{Bool, true, false, cond, false≢true}
use mathlib.Core.List.{List}
use Prim.Native.Nat.{ℕ, zero, suc, ◌+◌, ◌-◌, ◌/◌, ◌%◌, ◌^◌, ◌≤◌, ◌<◌}
use native.Mathlib.Omega.{arith}
use native.Mathlib.Nat.{mod-lt, le_of_eq, zero-div}
use native.Mathlib.Decide.{ℕ_discrete, dec_lt}
use lib.Dec.{eqb, eqb-suc-zero}
use borrow.Author.Tests.{lt-ltb, eq-eqb, ne_eqb}
use lib.Bits.{bit_xor, xor_zero_l}
use lib.Pow.{pow-lt}
use lib.ListN.{length, get_or, set, replicate, length-set, length-replicate, get_or-replicate, get_or-eq_default}
use lib.Seq.{get_or-set_same, get_or-set_other}
use Rattle.constants.specs.Sizes.{width, memory_size, height, frame_rows}
use Rattle.bus.specs.Places.{on}
use Rattle.bus.specs.Registers.{ranges, largest_values, power_on, ◌with◌≔◌}
use Rattle.bus.specs.Memory.{address}
use Rattle.bus.specs.Image.{within, awaited_codes, legal}
use Rattle.bus.specs.declared.registers.Registers.{Registers}
use Rattle.picture.specs.Scan.{ram_row, column_of}
use Rattle.picture.specs.Frame.{bit, turned, shown_bit, line, frame, row_of, place_of}
use Rattle.picture.specs.Demand3.{Full, flipped, ShowsAt, LitBy, OnePlace, SomeBit, raised, Scrolls, Content, scroll, Agree, Demand3}
use Rattle.picture.specs.declared.rows.RamRow.{RamRow}
use Rattle.picture.proofs.Lines.{line_same, grid_same}
use Rattle.picture.proofs.Flipped.{flip_hit, flip_miss}
use Rattle.picture.proofs.Places.{frame_row, bits_show}
use Rattle.picture.proofs.Turns.{turn_of, up, down, decided}
use Rattle.picture.proofs.Bijection.{Bijection, changed, unchanged}
use Rattle.picture.proofs.AllRows.{leaving_icons, columns_bijection}
use Rattle.picture.proofs.FullSettings.{Bounds, bounds, scroll_below, ram_of, row_showing, rows_both_ways, row_shows_lem, place_shows}

-- a memory of zeros
blank : List ℕ
blank = replicate memory_size 0

blank_long : memory_size ≤ length blank
unfolding blank
blank_long = le_of_eq (sym (length-replicate {A = ℕ} memory_size 0))

bit_below : (memory : List ℕ) (row : RamRow) (column : ℕ) → bit address memory row column < 2
unfolding bit
bit_below memory row column = mod-lt _ (omega arith)

inside : (memory : List ℕ) (row column : ℕ) → row < frame_rows → column < width → memory_size ≤ length memory → address (row / 8) column < length memory
inside memory row column l k long = omega arith

-- what a place shows is a bijection of the bit, for either value of reverse
bits_bijection : (reverse : ℕ) → Bijection 2 (turned reverse) (turned reverse)
unfolding turned
bits_bijection reverse = record { there_in = λ v l. mod-lt _ (omega arith); back_in = λ v l. mod-lt _ (omega arith); there_back = λ v l. omega arith; back_there = λ v l. omega arith }

-- a bit that shows at a place shows at no other
no_second : (r : Registers) (row column y x y' x' : ℕ) → y' < frame_rows → x' < width → ShowsAt r row column y x → ShowsAt r row column y' x' → (y' ≡ y) × (x' ≡ x)
no_second r row column y x y' x' l' k' here there = either (ℕ_discrete y' y) (ℕ_discrete x' x)
  where
    refused : ((y' ≡ y) × (x' ≡ x) → ⊥) → ⊥
    refused n = there.changes blank blank_long (here.no_other blank blank_long y' x' l' k' n)

    either : Dec (y' ≡ y) → Dec (x' ≡ x) → (y' ≡ y) × (x' ≡ x)
    either (yes p) (yes q) = (p, q)
    either (yes p) (no n) = absurd (refused (λ e. n e.1))
    either (no n) q = absurd (refused (λ e. n e.0))

module _ (r : Registers) (b : Bounds r) where
  abbrev column : ℕ → ℕ
  column = column_of width r.column_direction

  rows : Bijection frame_rows (ram_of r) (row_showing r)
  rows = rows_both_ways r

  columns : Bijection width column column
  columns = columns_bijection width r.column_direction

  abbrev bit_at : List ℕ → ℕ → ℕ → ℕ
  bit_at memory row c = bit address memory (ram_row row) c

  abbrev shown_at : ℕ → ℕ → List ℕ → ℕ
  shown_at y x memory = place_of width y x (frame r memory)

  -- each place shows the bit that the row rule and the column direction name
  shows_at : (y x : ℕ) → y < frame_rows → x < width → ShowsAt r (ram_of r y) (column x) y x
  shows_at y x l k = record {
    changes = λ memory long.
        changed frame_rows width 2 (ram_of r) (row_showing r) column column (turned r.reverse) (turned r.reverse) rows columns (bits_bijection r.reverse) bit_at bit_small shown_at (place_shows r b) memory (flip memory) y x l k
        (λ e.
        let v = bit_at memory (ram_of r y) (column x) in
        let small : v < 2 = bit_small memory _ _ in
        let turns : 1 - v ≡ v = sym (flip_hit memory (ram_of r y) (column x) (room memory long)) ∙ e in
        omega arith);
    no_other = λ memory long.
        unchanged frame_rows width 2 (ram_of r) (row_showing r) column column (turned r.reverse) (turned r.reverse) rows columns (bits_bijection r.reverse) bit_at bit_small shown_at (place_shows r b) memory (flip memory) y x l k
        (λ row c k' n. flip_miss memory (ram_of r y) (column x) (room memory long) row c (columns.there_in x k) k' n);
  }
    where
      flip : List ℕ → List ℕ
      flip memory = flipped (ram_row (ram_of r y)) (column x) memory

      bit_small : (memory : List ℕ) (row c : ℕ) → bit_at memory row c < 2
      bit_small memory row c = bit_below memory (ram_row row) c

      room : (memory : List ℕ) → memory_size ≤ length memory → address (ram_of r y / 8) (column x) < length memory
      room memory long = inside memory (ram_of r y) (column x) (rows.there_in y l) (columns.there_in x k) long

  -- and is lit by it
  lit_by : (y x : ℕ) → y < frame_rows → x < width → LitBy r (ram_of r y) (column x) y x
  lit_by y x l k memory = (λ e. sym (place_shows r b memory y x l k) ∙ e, λ e. place_shows r b memory y x l k ∙ e)

  some_bit : (y x : ℕ) → y < frame_rows → x < width → SomeBit r y x
  some_bit y x l k = record {
    row = ram_of r y;
    column = column x;
    row_in = rows.there_in y l;
    column_in = columns.there_in x k;
    shows = shows_at y x l k;
    lit = lit_by y x l k;
  }

  one_place : (row c : ℕ) → row < frame_rows → c < width → OnePlace r row c
  one_place row c l k =
      let y = row_showing r row in
      let x = column c in
      let y_in = rows.back_in row l in
      let x_in = columns.back_in c k in
      let here = subst₂ (λ a d. ShowsAt r a d y x) (rows.there_back row l) (columns.there_back c k) (shows_at y x y_in x_in) in
      record {
        y = y;
        x = x;
        y_in = y_in;
        x_in = x_in;
        shows = here;
        lit = subst₂ (λ a d. LitBy r a d y x) (rows.there_back row l) (columns.there_back c k) (lit_by y x y_in x_in);
        only = λ y' x' l' k' there. no_second r row c y x y' x' l' k' here there;
      }

-- a row of the frame is the bits of its RAM row
row_bits : (r : Registers) → Bounds r → (memory : List ℕ) (y : ℕ) → y < frame_rows → row_of width y (frame r memory) ≡ line width (shown_bit r memory (ram_row (ram_of r y)))
row_bits r b memory y l = frame_row r memory y l ∙ rw (row_shows_lem r b y) (line_same width _ _ (λ x k. bits_show r memory (ram_row (ram_of r y)) x b.on b.entire))

raised_bounds : (n : ℕ) (r : Registers) → Bounds r → Bounds (raised n r)
unfolding raised
raised_bounds n r b = record {
  start = mod-lt _ (omega arith);
  offset = b.offset;
  columns = b.columns;
  rows = b.rows;
  reverse = b.reverse;
  all_rows = b.all_rows;
  on = b.on;
  entire = b.entire;
}

-- rows that show the same RAM row before and after
moved : (n : ℕ) (r : Registers) → Bounds r → (memory : List ℕ) (y y' : ℕ) → y < frame_rows → y' < frame_rows → ram_of (raised n r) y ≡ ram_of r y' → row_of width y (frame (raised n r) memory) ≡ row_of width y' (frame r memory)
unfolding shown_bit column_of raised
moved n r b memory y y' l l' e = row_bits (raised n r) (raised_bounds n r b) memory y l ∙ ap (λ row. line width (shown_bit r memory (ram_row row))) e ∙ sym (row_bits r b memory y' l')

scrolled : (r : Registers) → Bounds r → (n : ℕ) (memory : List ℕ) → Scrolls r n memory
unfolding raised scroll
scrolled r b n memory = record {
  up = λ rows p l. moved n r b memory p ((p + n) % height) (omega arith) (omega arith) (rw (lt-ltb p height l, lt-ltb ((p + n) % height) height (mod-lt _ (omega arith)), eq-eqb r.row_direction 0 rows) (up height r.start r.offset n p));
  down = λ rows p l. moved n r b memory ((p + n) % height) p (omega arith) (omega arith) (rw (lt-ltb p height l, lt-ltb ((p + n) % height) height (mod-lt _ (omega arith)), ne_eqb r.row_direction 0 (omega arith)) (down height r.start r.offset n p b.start b.offset l));
  icons = moved n r b memory height height (omega arith) (omega arith) refl;
}

-- settings that agree draw the same, from any memory
agreeing : (r s : Registers) → Bounds r → Bounds s → Agree r s → (memory : List ℕ) → frame r memory ≡ frame s memory
unfolding frame shown_bit column_of
agreeing r s b d agree memory =
    grid_same width frame_rows _ _ (λ y x l k.
    rw (row_shows_lem r b y, row_shows_lem s d y)
    (bits_show r memory (ram_row (ram_of r y)) x b.on b.entire ∙
    (λ i. turned (agree.reverse i) (bit address memory (ram_row (leaving_icons height (turn_of height (eqb (agree.rows i) 0) (agree.line i)) y)) (cond (eqb (agree.columns i) 0) x (width - 1 - x)))) ∙
    sym (bits_show s memory (ram_row (ram_of s y)) x d.on d.entire)))

-- memories with no bit, and with one
blank_at : (i : ℕ) → get_or blank i 0 ≡ 0
unfolding blank
blank_at i = either (dec_lt i memory_size)
  where
    either : Dec (i < memory_size) → get_or blank i 0 ≡ 0
    either (yes l) = get_or-replicate {A = ℕ} memory_size i 0 0 l
    either (no n) = get_or-eq_default blank 0 {n = i} (rw (length-replicate {A = ℕ} memory_size 0) (omega arith))

blank_content : Content blank
unfolding blank
blank_content = record { size = length-replicate {A = ℕ} memory_size 0; bytes = λ i. omega (arith, blank_at i) }

blank_bit : (row : RamRow) (column : ℕ) → bit address blank row column ≡ 0
unfolding bit
blank_bit row column = rw (blank_at (address (row.0 / 8) column), zero-div)

lit_content : (row column : ℕ) → row < frame_rows → column < width → Content (flipped (ram_row row) column blank)
unfolding flipped
lit_content row column l k = record {
  size = length-set blank (address (row / 8) column) _ ∙ blank_content.size;
  bytes = λ i. either i (ℕ_discrete i (address (row / 8) column));
}
  where
    byte : ℕ
    byte = bit_xor (get_or blank (address (row / 8) column) 0) (2 ^ (row % 8))

    either : (i : ℕ) → Dec (i ≡ address (row / 8) column) → get_or (set blank (address (row / 8) column) byte) i 0 < 256
    either i (yes e) = rw (e, get_or-set_same blank (address (row / 8) column) byte 0 (inside blank row column l k blank_long), blank_at (address (row / 8) column), xor_zero_l) (pow-lt {j = 8} (mod-lt row (omega arith)))
    either i (no n) = rw (get_or-set_other blank (address (row / 8) column) i byte 0 n) (omega (arith, blank_at i))

-- a direction, 0 or 1, is decided by whether it is 0
direction : (a c : ℕ) → a < 2 → c < 2 → eqb a 0 ≡ eqb c 0 → a ≡ c
direction zero zero l k e = refl
direction zero (suc c) l k e = absurd (false≢true (sym (rw eqb-suc-zero at e)))
direction (suc a) zero l k e = absurd (false≢true (rw eqb-suc-zero at e))
direction (suc a) (suc c) l k e = omega arith

-- segment 0 decides the column direction
column_decided : (normal normal' : Bool) → cond normal 0 (width - 1 - 0) ≡ cond normal' 0 (width - 1 - 0) → normal ≡ normal'
column_decided true true e = refl
column_decided false false e = refl
column_decided true false e = absurd (omega arith)
column_decided false true e = absurd (omega arith)

-- settings that draw the same, from every memory
module _ (r s : Registers) (b : Bounds r) (d : Bounds s) (same : (memory : List ℕ) → Content memory → frame r memory ≡ frame s memory) where
  places_agree : (memory : List ℕ) → Content memory → (y x : ℕ) → y < frame_rows → x < width → turned r.reverse (bit address memory (ram_row (ram_of r y)) (column_of width r.column_direction x)) ≡ turned s.reverse (bit address memory (ram_row (ram_of s y)) (column_of width s.column_direction x))
  places_agree memory content y x l k = sym (place_shows r b memory y x l k) ∙ ap (place_of width y x) (same memory content) ∙ place_shows s d memory y x l k

  reverse_agrees : r.reverse ≡ s.reverse
  unfolding turned
  reverse_agrees =
      let e : (0 + r.reverse) % 2 ≡ (0 + s.reverse) % 2 = rw (blank_bit _ _, blank_bit _ _) at (places_agree blank blank_content 0 0 (omega arith) (omega arith)) in
      omega (arith, b.reverse, d.reverse)

  -- they show the same bit at each place
  bit_agrees : (y x : ℕ) → y < frame_rows → x < width → (ram_of s y ≡ ram_of r y) × (column_of width s.column_direction x ≡ column_of width r.column_direction x)
  unfolding turned
  bit_agrees y x l k = either (ℕ_discrete (ram_of s y) (ram_of r y)) (ℕ_discrete (column_of width s.column_direction x) (column_of width r.column_direction x))
    where
      row : ℕ
      row = ram_of r y

      column : ℕ
      column = column_of width r.column_direction x

      room : address (row / 8) column < length blank
      room = inside blank row column ((rows_both_ways r).there_in y l) ((columns_bijection width r.column_direction).there_in x k) blank_long

      refused : ((ram_of s y ≡ row) × (column_of width s.column_direction x ≡ column) → ⊥) → ⊥
      refused n =
          let lit : bit address (flipped (ram_row row) column blank) (ram_row row) column ≡ 1 = flip_hit blank row column room ∙ rw (blank_bit (ram_row row) column) in
          let dark : bit address (flipped (ram_row row) column blank) (ram_row (ram_of s y)) (column_of width s.column_direction x) ≡ 0 = flip_miss blank row column room (ram_of s y) (column_of width s.column_direction x) ((columns_bijection width r.column_direction).there_in x k) ((columns_bijection width s.column_direction).there_in x k) n ∙ blank_bit (ram_row (ram_of s y)) (column_of width s.column_direction x) in
          let e : (1 + r.reverse) % 2 ≡ (0 + s.reverse) % 2 = rw (lit, dark) at (places_agree (flipped (ram_row row) column blank) (lit_content row column ((rows_both_ways r).there_in y l) ((columns_bijection width r.column_direction).there_in x k)) y x l k) in
          omega (arith, reverse_agrees)

      either : Dec (ram_of s y ≡ row) → Dec (column_of width s.column_direction x ≡ column) → (ram_of s y ≡ row) × (column_of width s.column_direction x ≡ column)
      either (yes p) (yes q) = (p, q)
      either (yes p) (no n) = absurd (refused (λ e. n e.1))
      either (no n) q = absurd (refused (λ e. n e.0))

  agreed : Agree r s
  unfolding column_of
  agreed =
      let first = bit_agrees 0 0 (omega arith) (omega arith) in
      let second = bit_agrees 1 0 (omega arith) (omega arith) in
      let turns = decided height (eqb r.row_direction 0) (eqb s.row_direction 0) (scroll r) (scroll s) (omega arith) (scroll_below r) (scroll_below s) (sym first.0) (sym second.0) in
      record {
        columns = direction r.column_direction s.column_direction b.columns d.columns (column_decided (eqb r.column_direction 0) (eqb s.column_direction 0) (sym first.1));
        rows = direction r.row_direction s.row_direction b.rows d.rows turns.0;
        reverse = reverse_agrees;
        line = turns.1;
      }

full_once_on : Full (power_on with on ≔ 1)
unfolding ranges largest_values power_on within awaited_codes legal
full_once_on = record { in_range = refl; all_rows = refl; on = refl; not_lit = refl }

pub demand3 : Demand3
demand3 = record {
  once_on = full_once_on;
  each_bit = λ r full row column l k. one_place r (bounds r full) row column l k;
  each_place = λ r full y x l k. some_bit r (bounds r full) y x l k;
  scrolls = λ r full n memory. scrolled r (bounds r full) n memory;
  same = λ r s full held. (λ frames. agreed r s (bounds r full) (bounds s held) frames, λ agree memory content. agreeing r s (bounds r full) (bounds s held) agree memory);
}
