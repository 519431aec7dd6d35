-- Demand 3 holds for each half of the wide frame.
-- Assumes nothing.
use mathlib.Core.Path.{◌≡◌, refl, sym, ◌∙◌, ap}
use mathlib.Core.Logic.{◌↔◌}
use mathlib.Core.List.{List}
use Prim.Native.Nat.{ℕ, ◌+◌, ◌-◌, ◌%◌, ◌≤◌, ◌<◌}
use native.Mathlib.Omega.{arith}
use native.Mathlib.Nat.{le_of_eq}
use native.Mathlib.Decide.{ℕ_discrete}
use lib.ListN.{length, replicate, length-replicate}
use Rattle.constants.specs.Sizes.{width, memory_size, height, frame_rows, wide_width}
use Rattle.bus.specs.Chip.{Chip}
use Rattle.bus.specs.Recorded.{chip_of}
use Rattle.bus.specs.declared.registers.Registers.{Registers}
use Rattle.picture.specs.Scan.{ram_row}
use Rattle.picture.specs.Frame.{frame, row_of, place_of}
use Rattle.picture.specs.Demand3.{Full, flipped, ShowsAt, LitBy, raised, Content, Agree}
use Rattle.picture.proofs.Demand3.{demand3}
use Rattle.widebus.specs.Pair.{at, opposite, chips_of}
use Rattle.widebus.specs.declared.both.Both.{Both}
use Rattle.widebus.specs.declared.selection.Side.{Side}
use Rattle.widepicture.specs.WideFrame.{frame_of, wide_frame, first_column, half_row, half_of}
use Rattle.widepicture.specs.WideDemand3.{on_side, wide_with, InHalf, WideShowsAt, WideLitBy, WideOnePlace, WideSomeBit, WideScrolls, WideDemand3}
use Rattle.widepicture.proofs.Halves.{Where, own, beyond, where_is, half_row_lem, half_frame, wide_place}

-- the chip on a side, and the other
this_side : (side : Side) (chip other : Chip) → at side (on_side side chip other) ≡ chip
this_side Side.Left chip other = refl
this_side Side.Right chip other = refl

other_side : (side : Side) (chip other : Chip) → at (opposite side) (on_side side chip other) ≡ other
other_side Side.Left chip other = refl
other_side Side.Right chip other = refl

module _ (side : Side) (other : Chip) where
  -- a place of a half shows what the chip's own frame shows
  own_place : (r : Registers) (memory : List ℕ) (y x : ℕ) → y < frame_rows → x < width → place_of wide_width y (first_column side + x) (wide_with side other r memory) ≡ place_of width y x (frame r memory)
  own_place r memory y x l k =
      wide_place (on_side side (chip_of r memory) other) side y x l k ∙
      ap (λ (chip : Chip). place_of width y x (frame_of chip)) (this_side side (chip_of r memory) other)

  -- and a place of the other half what the other chip's shows
  beyond_place : (r : Registers) (memory : List ℕ) (y x : ℕ) → y < frame_rows → x < width → place_of wide_width y (first_column (opposite side) + x) (wide_with side other r memory) ≡ place_of width y x (frame_of other)
  beyond_place r memory y x l k =
      wide_place (on_side side (chip_of r memory) other) (opposite side) y x l k ∙
      ap (λ (chip : Chip). place_of width y x (frame_of chip)) (other_side side (chip_of r memory) other)

  own_row : (r : Registers) (memory : List ℕ) (y : ℕ) → y < frame_rows → half_row side y (wide_with side other r memory) ≡ row_of width y (frame r memory)
  own_row r memory y l =
      half_row_lem (on_side side (chip_of r memory) other) side y l ∙
      ap (λ (chip : Chip). row_of width y (frame_of chip)) (this_side side (chip_of r memory) other)

  beyond_half : (r : Registers) (memory : List ℕ) → half_of (opposite side) (wide_with side other r memory) ≡ frame_of other
  beyond_half r memory =
      half_frame (on_side side (chip_of r memory) other) (opposite side) ∙
      ap frame_of (other_side side (chip_of r memory) other)

-- what a chip's own frame shows at a place, the wide frame shows at that place of its half
module _ (side : Side) (r : Registers) (row column y x : ℕ) (l : y < frame_rows) (k : x < width) where
  wide_shows : ShowsAt r row column y x → WideShowsAt side r row column y (first_column side + x)
  wide_shows here = record {
    changes = λ other memory long e. here.changes memory long (sym (own_place side other r (flip memory) y x l k) ∙ e ∙ own_place side other r memory y x l k);
    no_other = λ other memory long y' x' l' k' n. elsewhere other memory long y' x' l' n (where_is side x' k');
  }
    where
      flip : List ℕ → List ℕ
      flip memory = flipped (ram_row row) column memory

      elsewhere : (other : Chip) (memory : List ℕ) → memory_size ≤ length memory → (y' x' : ℕ) → y' < frame_rows → ((y' ≡ y) × (x' ≡ first_column side + x) → ⊥) → Where side x'
          → place_of wide_width y' x' (wide_with side other r (flip memory)) ≡ place_of wide_width y' x' (wide_with side other r memory)
      elsewhere other memory long y' x' l' n (own c m e) =
          rw e
          (own_place side other r (flip memory) y' c l' m ∙
          here.no_other memory long y' c l' m (λ p. n (p.0, e ∙ ap (λ (d : ℕ). first_column side + d) p.1)) ∙
          sym (own_place side other r memory y' c l' m))
      elsewhere other memory long y' x' l' n (beyond c m e) =
          rw e (beyond_place side other r (flip memory) y' c l' m ∙ sym (beyond_place side other r memory y' c l' m))

  wide_lit : LitBy r row column y x → WideLitBy side r row column y (first_column side + x)
  wide_lit lit other memory =
      let same = own_place side other r memory y x l k in
      (λ e. (lit memory).0 (sym same ∙ e), λ e. same ∙ (lit memory).1 e)

-- a memory of zeros
blank : List ℕ
blank = replicate memory_size 0

blank_long : memory_size ≤ length blank
unfolding blank
blank_long = le_of_eq (sym (length-replicate {A = ℕ} memory_size 0))

-- a bit that shows at a place shows at no other
no_second : (side : Side) (r : Registers) (row column y x y' x' : ℕ) → y' < frame_rows → x' < wide_width → WideShowsAt side r row column y x → WideShowsAt side r row column y' x' → (y' ≡ y) × (x' ≡ x)
no_second side r row column y x y' x' l' k' here there = either (ℕ_discrete y' y) (ℕ_discrete x' x)
  where
    refused : ((y' ≡ y) × (x' ≡ x) → ⊥) → ⊥
    refused n = there.changes (chip_of r blank) blank blank_long (here.no_other (chip_of r blank) blank blank_long y' x' l' k' n)

    either : Dec (y' ≡ y) → Dec (x' ≡ x) → (y' ≡ y) × (x' ≡ x)
    either (yes p) (yes q) = (p, q)
    either (yes p) (no n) = absurd (refused (λ e. n e.1))
    either (no n) q = absurd (refused (λ e. n e.0))

each_bit : (side : Side) (r : Registers) → Full r → (row column : ℕ) → row < frame_rows → column < width → WideOnePlace side r row column
each_bit side r full row column l k =
    let place = demand3.each_bit r full row column l k in
    let here = wide_shows side r row column place.y place.x place.y_in place.x_in place.shows in
    record {
      y = place.y;
      x = first_column side + place.x;
      y_in = place.y_in;
      x_in = (omega arith, omega (arith, place.x_in));
      shows = here;
      lit = wide_lit side r row column place.y place.x place.y_in place.x_in place.lit;
      only = λ y' x' l' k' there. no_second side r row column place.y (first_column side + place.x) y' x' l' k' here there;
    }

each_place : (side : Side) (r : Registers) → Full r → (y x : ℕ) → y < frame_rows → InHalf side x → WideSomeBit side r y x
each_place side r full y x l within =
    let e : first_column side + (x - first_column side) ≡ x = omega (arith, within.0) in
    let k : x - first_column side < width = omega (arith, within.0, within.1) in
    let some = demand3.each_place r full y (x - first_column side) l k in
    let here : WideSomeBit side r y (first_column side + (x - first_column side)) = record {
      row = some.row;
      column = some.column;
      row_in = some.row_in;
      column_in = some.column_in;
      shows = wide_shows side r some.row some.column y (x - first_column side) l k some.shows;
      lit = wide_lit side r some.row some.column y (x - first_column side) l k some.lit;
    } in
    rw e at here

wide_scrolls : (side : Side) (other : Chip) (r : Registers) → Full r → (n : ℕ) (memory : List ℕ) → WideScrolls side other r n memory
wide_scrolls side other r full n memory =
    let moves = demand3.scrolls r full n memory in
    record {
      up = λ rows p l. own_row side other (raised n r) memory p (omega arith) ∙ moves.up rows p l ∙ sym (own_row side other r memory ((p + n) % height) (omega arith));
      down = λ rows p l. own_row side other (raised n r) memory ((p + n) % height) (omega arith) ∙ moves.down rows p l ∙ sym (own_row side other r memory p (omega arith));
      icons = own_row side other (raised n r) memory height (omega arith) ∙ moves.icons ∙ sym (own_row side other r memory height (omega arith));
      other_half = beyond_half side other (raised n r) memory ∙ sym (beyond_half side other r memory);
    }

module _ (first second : Both) where
  abbrev Alike : Type 0
  Alike = (left_memory right_memory : List ℕ) → Content left_memory → Content right_memory → wide_frame (chips_of first left_memory right_memory) ≡ wide_frame (chips_of second left_memory right_memory)

  -- the same wide frames have the same halves
  left_alike : Alike → (memory : List ℕ) → Content memory → frame first.left memory ≡ frame second.left memory
  left_alike alike memory content = sym (half_frame (chips_of first memory memory) Side.Left) ∙ ap (half_of Side.Left) (alike memory memory content content) ∙ half_frame (chips_of second memory memory) Side.Left

  right_alike : Alike → (memory : List ℕ) → Content memory → frame first.right memory ≡ frame second.right memory
  right_alike alike memory content = sym (half_frame (chips_of first memory memory) Side.Right) ∙ ap (half_of Side.Right) (alike memory memory content content) ∙ half_frame (chips_of second memory memory) Side.Right

  wide_same : Full first.left → Full first.right → Full second.left → Full second.right → Alike ↔ Agree first.left second.left × Agree first.right second.right
  unfolding wide_frame
  wide_same fl fr sl sr =
      let left = demand3.same first.left second.left fl sl in
      let right = demand3.same first.right second.right fr sr in (
        λ alike. (left.0 (left_alike alike), right.0 (right_alike alike)),
        λ agree left_memory right_memory l r. rw (left.1 agree.0 left_memory l, right.1 agree.1 right_memory r),
      )

module _ (side : Side) (other : Chip) (first second : Registers) (f : Full first) (s : Full second) where
  own_half : (r : Registers) (memory : List ℕ) → half_of side (wide_with side other r memory) ≡ frame r memory
  own_half r memory = half_frame (on_side side (chip_of r memory) other) side ∙ ap frame_of (this_side side (chip_of r memory) other)

  drawn_alike : (memory : List ℕ) → frame first memory ≡ frame second memory → wide_with side other first memory ≡ wide_with side other second memory
  unfolding wide_frame
  drawn_alike memory e = by side
    where
      by : (side : Side) → wide_with side other first memory ≡ wide_with side other second memory
      by Side.Left = rw e
      by Side.Right = rw e

  same_half : ((memory : List ℕ) → Content memory → wide_with side other first memory ≡ wide_with side other second memory) ↔ Agree first second
  same_half =
      let one = demand3.same first second f s in (
        λ alike. one.0 (λ memory content. sym (own_half first memory) ∙ ap (half_of side) (alike memory content) ∙ own_half second memory),
        λ agree memory content. drawn_alike memory (one.1 agree memory content),
      )

pub wide_demand3 : WideDemand3
wide_demand3 = record { each_bit = each_bit; each_place = each_place; scrolls = wide_scrolls; same = wide_same; same_half = same_half }
