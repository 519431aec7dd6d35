-- A frame of one shade: what registers tell, the fill place by place, and two such frames side by side.
-- Assumes nothing.
use mathlib.Core.Path.{◌≡◌, sym, ◌∙◌, ap}
use mathlib.Core.Logic.{◌≢◌}
use mathlib.Core.List.{List, ◌++◌}
use Prim.Native.Nat.{ℕ, zero, suc, ◌+◌, ◌*◌, ◌-◌, ◌≤◌, ◌<◌}
use native.Mathlib.Omega.{arith}
use native.Mathlib.Nat.{suc-mul, zero-mul, mul-le-mul_right}
use borrow.Author.Tests.{ne_eqb}
use lib.ListN.{length, replicate, length-replicate, replicate-append-replicate}
use lib.Seq.{take_at, drop_at}
use Rattle.std.specs.Prelude.{Option, Some}
use Rattle.constants.specs.Sizes.{width, frame_rows, frame_size, wide_frame_size}
use Rattle.bus.specs.declared.registers.Registers.{Registers}
use Rattle.picture.specs.Scan.{panel_row}
use Rattle.picture.specs.Frame.{segment, frame, row_of}
use Rattle.picture.proofs.Lines.{grid_same, grid_alike}
use Rattle.picture.proofs.Places.{off_dark}
use Rattle.picture.proofs.AllLit.{all_lit}
use Rattle.widebus.specs.Pair.{chips_of}
use Rattle.widebus.specs.declared.both.Both.{Both}
use Rattle.widepicture.specs.WideFrame.{row_by_row, side_by_side, wide_frame}
use Rattle.widepicture.specs.OneShade.{Shade, told_of, Tells}

-- what registers tell: a shade of all places, or nothing
all_tell : (r : Registers) (all : ℕ) → ((memory : List ℕ) → frame r memory ≡ replicate frame_size all) → Tells r (Shade.All all)
all_tell r all e shade same memory =
    let one : all ≡ shade = cc in
    e memory ∙ ap (λ (n : ℕ). replicate frame_size n) one

pub untold : (r : Registers) → Tells r Shade.Untold
untold r shade same = let z : ◌≡◌ {A = ℕ} 0 1 = cc in absurd (omega arith)

pub tells_dark : (r : Registers) → r.on ≡ 0 → Tells r (Shade.All 0)
tells_dark r off = all_tell r 0 (λ memory. off_dark r memory off)

pub tells_lit : (r : Registers) → r.on ≢ 0 → r.entire ≡ 1 → r.multiplex ≡ 63 → Tells r (Shade.All 1)
unfolding frame segment
tells_lit r on entire all = all_tell r 1 (λ memory.
    grid_same width frame_rows _ _ (λ y x l k. rw (ne_eqb r.on 0 on, all_lit r memory (panel_row y) x (omega arith) entire)) ∙
    grid_alike width frame_rows 1)

-- rows of one shade: one of them, all of them, and two frames side by side
row_alike : (w y rest value : ℕ) → row_of w y (replicate (y * w + (w + rest)) value) ≡ replicate w value
unfolding row_of
row_alike w y rest value =
    rw (← (replicate-append-replicate (y * w) (w + rest) value), drop_at (replicate (y * w) value) (replicate (w + rest) value) (y * w) (length-replicate (y * w) value), ← (replicate-append-replicate w rest value))
    (take_at (replicate w value) (replicate rest value) w (length-replicate w value))

rows_alike : (w h value : ℕ) (row : ℕ → List ℕ) → ((y : ℕ) → y < h → row y ≡ replicate w value) → row_by_row h row ≡ replicate (h * w) value
unfolding row_by_row
rows_alike w zero value row e = rw zero-mul
rows_alike w (suc h) value row e = rw (rows_alike w h value row (λ y l. e y (omega arith)), e h (omega arith), suc-mul) (replicate-append-replicate (h * w) w value)

side_alike : (w h value : ℕ) (left right : List ℕ) → left ≡ replicate (h * w) value → right ≡ replicate (h * w) value → side_by_side w h left right ≡ replicate (h * (w + w)) value
side_alike w h value left right e d = rows_alike (w + w) h value (λ y. row_of w y left ++ row_of w y right) (λ y l. rw (row left e y l, row right d y l) (replicate-append-replicate w w value))
  where
    row : (own : List ℕ) → own ≡ replicate (h * w) value → (y : ℕ) → y < h → row_of w y own ≡ replicate w value
    row own e y l =
        let room : y * w + w ≤ h * w = rw suc-mul at (mul-le-mul_right w l) in
        let all : h * w ≡ y * w + (w + (h * w - (y * w + w))) = omega arith in
        ap (row_of w y) (e ∙ ap (λ (n : ℕ). replicate n value) all) ∙ row_alike w y (h * w - (y * w + w)) value

-- registers of both chips that tell one shade: the fill is the wide frame
pub both_told : (registers : Both) (left_memory right_memory was : List ℕ) {left right : Option ℕ} {shade other : ℕ} {later : List ℕ} → length was ≡ wide_frame_size → Tells registers.left (told_of left) → Tells registers.right (told_of right)
    → left ≡ Some shade → right ≡ Some other → shade ≡ other → (((n : ℕ) → n ≡ shade → n ≡ shade) → later ≡ replicate (length was) shade) → later ≡ wide_frame (chips_of registers left_memory right_memory)
unfolding wide_frame
both_told registers left_memory right_memory was {shade = shade} k l r p q same filled =
    let left_told = l shade (ap (λ (told : Option ℕ). told_of told) p) left_memory in
    let right_told = r shade (ap (λ (told : Option ℕ). told_of told) (q ∙ ap (λ (n : ℕ). Some n) (sym same))) right_memory in
    filled (λ n e. e) ∙ ap (λ (n : ℕ). replicate n shade) k ∙ sym (side_alike width frame_rows shade _ _ left_told right_told)
