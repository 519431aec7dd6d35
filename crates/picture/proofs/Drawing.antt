-- What the call that draws and the frame that it leaves come to.
-- Assumes nothing.
use mathlib.Core.Path.{◌≡◌, refl}
use mathlib.Core.Logic.{◌≢◌, ◌↔◌}
use mathlib.Core.Bool.{Bool, true, false, cond, ◌||◌, true≢false, false≢true}
use mathlib.Core.List.{List, ◌++◌}
use Prim.Native.Nat.{ℕ, ◌<◌}
use native.Mathlib.Omega.{arith}
use native.Mathlib.Nat.{mod-lt}
use lib.Dec.{ltb, eqb}
use lib.ListN.{length, drop}
use lib.Seq.{drop_at}
use Rattle.constants.specs.Sizes.{frame_rows, frame_size, width}
use Rattle.constants.specs.Numbers.{taken, too_short, out_of_range}
use Rattle.bus.specs.Registers.{registers_of}
use Rattle.bus.specs.Image.{short, legal, asked}
use Rattle.bus.specs.Answer.{Asked}
use Rattle.bus.specs.declared.registers.Registers.{Registers}
use Rattle.bus.proofs.Tests.{chosen}
use Rattle.picture.specs.Scan.{panel_row, row_shows}
use Rattle.picture.specs.Rows.{scan_of}
use Rattle.picture.specs.Frame.{turned, shown_bit, while_on, segment, frame, place_of}
use Rattle.picture.specs.Draw.{Drawn, drawn, draw_on, draw}
use Rattle.picture.specs.Drawing.{DrawCall, Drawing}
use Rattle.picture.specs.Shown.{Shown}
use Rattle.picture.proofs.Places.{frame_length, frame_row, frame_place, off_dark}

-- the outcome by what the frame's length, the other two lengths and the ranges test to
module _ (state memory was : List ℕ) where
  abbrev outcome : (f s l : Bool) → Drawn
  outcome f s l = cond f (drawn too_short was) (draw_on (cond s (Asked.Refused too_short) (cond l (Asked.Found (registers_of state)) (Asked.Refused out_of_range))) memory was)

  one : (f s l : Bool) → ((outcome f s l).number ≡ too_short) ↔ (f || s ≡ true)
  unfolding draw_on
  one true s l = (λ e. refl, λ e. refl)
  one false true l = (λ e. refl, λ e. refl)
  one false false true = (λ e. absurd (omega arith), λ e. absurd (false≢true e))
  one false false false = (λ e. absurd (omega arith), λ e. absurd (false≢true e))

  two : (f s l : Bool) → ((outcome f s l).number ≡ out_of_range) ↔ (f || s ≡ false) × (l ≡ false)
  unfolding draw_on
  two true s l = (λ e. absurd (omega arith), λ e. absurd (true≢false e.0))
  two false true l = (λ e. absurd (omega arith), λ e. absurd (true≢false e.0))
  two false false true = (λ e. absurd (omega arith), λ e. absurd (true≢false e.1))
  two false false false = (λ e. (refl, refl), λ e. refl)

  zero : (f s l : Bool) → ((outcome f s l).number ≡ taken) ↔ (f || s ≡ false) × (l ≡ true)
  unfolding draw_on
  zero true s l = (λ e. absurd (omega arith), λ e. absurd (true≢false e.0))
  zero false true l = (λ e. absurd (omega arith), λ e. absurd (true≢false e.0))
  zero false false true = (λ e. (refl, refl), λ e. refl)
  zero false false false = (λ e. absurd (omega arith), λ e. absurd (false≢true e.1))

  refused : (f s l : Bool) → (outcome f s l).number ≢ taken → (outcome f s l).frame ≡ was
  unfolding draw_on
  refused true s l n = refl
  refused false true l n = refl
  refused false false true n = absurd (n refl)
  refused false false false n = refl

  done : (f s l : Bool) → (outcome f s l).number ≡ taken → (outcome f s l).frame ≡ frame (registers_of state) memory ++ drop frame_size was
  unfolding draw_on
  done true s l e = absurd (omega arith)
  done false true l e = absurd (omega arith)
  done false false true e = refl
  done false false false e = absurd (omega arith)

  past : (f s l : Bool) → drop frame_size (outcome f s l).frame ≡ drop frame_size was
  unfolding draw_on
  past true s l = refl
  past false true l = refl
  past false false true = drop_at (frame (registers_of state) memory) (drop frame_size was) frame_size (frame_length (registers_of state) memory)
  past false false false = refl

  draw_call : DrawCall state memory was
  unfolding draw asked
  draw_call =
      let f = ltb (length was) frame_size in
      let s = short state memory in
      let l = legal state in
      record { one = one f s l; two = two f s l; zero = zero f s l; refused = refused f s l; drawn = done f s l; past = past f s l }

-- each place is dark, 0, or lit, 1
dark_or_lit : (r : Registers) (memory : List ℕ) (y x : ℕ) → y < frame_rows → x < width → place_of width y x (frame r memory) < 2
unfolding segment while_on shown_bit turned
dark_or_lit r memory y x l k = rw (frame_place r memory y x l k) (chosen (λ v. v < 2) (eqb r.on 0) _ _ (λ e. omega arith) (λ e. shade (row_shows (scan_of r) (panel_row y))))
  where
    shade : (shown : Shown) → while_on r memory shown x < 2
    shade Shown.Dark = omega arith
    shade (Shown.Ram row) = chosen (λ v. v < 2) (eqb r.entire 1) _ _ (λ e. omega arith) (λ e. mod-lt _ (omega arith))

pub drawing : Drawing
drawing = record {
  call = draw_call;
  picture = λ r memory. record { size = frame_length r memory; dark_or_lit = dark_or_lit r memory; own_row = frame_row r memory; off = off_dark r memory };
}
