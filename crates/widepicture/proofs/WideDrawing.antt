-- What the call that draws the wide frame comes to.
-- Assumes nothing.
use mathlib.Core.Path.{◌≡◌, refl, sym, ◌∙◌, ap}
use mathlib.Core.Logic.{◌≢◌, ◌↔◌, inl, inr, ⊎_elim}
use mathlib.Core.Bool.{Bool, true, false, cond, ◌&&◌, ◌||◌, true≢false, false≢true}
use mathlib.Core.List.{List, ◌++◌}
use Prim.Native.Nat.{ℕ, ◌≤◌}
use native.Mathlib.Omega.{arith}
use borrow.Author.Tests.{lt-ltb, le-ltb, ltb-true, ltb-false}
use lib.Dec.{ltb}
use lib.ListN.{length, drop}
use lib.Seq.{drop_at}
use Rattle.codes.proofs.Tests.{both, either}
use Rattle.constants.specs.Sizes.{frame_size, wide_frame_size}
use Rattle.constants.specs.Numbers.{taken, too_short, out_of_range}
use Rattle.bus.specs.Registers.{registers_of}
use Rattle.bus.specs.Image.{short, legal, asked_state, asked}
use Rattle.bus.specs.Answer.{Asked}
use Rattle.picture.specs.Frame.{frame}
use Rattle.picture.specs.Draw.{Drawn, drawn, draw_on, draw}
use Rattle.widebus.specs.Pair.{Pair, Lent, at}
use Rattle.widebus.specs.Asked.{any_short, both_found, asked_both}
use Rattle.widebus.specs.OneAndTwo.{EitherOutside, BothLegal}
use Rattle.widebus.specs.Asked.{BothAsked}
use Rattle.widebus.specs.declared.selection.Side.{Side}
use Rattle.widebus.proofs.OneAndTwo.{short_one, one_short, none_short, long_both, outside_one, one_outside}
use Rattle.widepicture.specs.WideFrame.{wide_frame, half_of}
use Rattle.widepicture.specs.WideDraw.{draw_on_both, draw_wide}
use Rattle.widepicture.specs.WideDrawing.{TooShortToDraw, LongToDraw, chips_in, WideDrawCall, WideDrawing}
use Rattle.widebus.proofs.Asking.{neither}
use Rattle.widepicture.proofs.Asked.{ranges_asked}
use Rattle.widepicture.proofs.Halves.{half_frame, half_front, wide_length}

-- what is answered and left, by whether something is too short and whether both images are in their ranges
module _ (was later : List ℕ) where
  abbrev outcome : (s l : Bool) → Drawn
  outcome s l = cond s (drawn too_short was) (cond l (drawn taken later) (drawn out_of_range was))

  one : (s l : Bool) → ((outcome s l).number ≡ too_short) ↔ (s ≡ true)
  one true l = (λ e. refl, λ e. refl)
  one false true = (λ e. absurd (omega arith), λ e. absurd (false≢true e))
  one false false = (λ e. absurd (omega arith), λ e. absurd (false≢true e))

  two : (s l : Bool) → ((outcome s l).number ≡ out_of_range) ↔ (s ≡ false) × (l ≡ false)
  two true l = (λ e. absurd (omega arith), λ e. absurd (true≢false e.0))
  two false true = (λ e. absurd (omega arith), λ e. absurd (true≢false e.1))
  two false false = (λ e. (refl, refl), λ e. refl)

  zero : (s l : Bool) → ((outcome s l).number ≡ taken) ↔ (s ≡ false) × (l ≡ true)
  zero true l = (λ e. absurd (omega arith), λ e. absurd (true≢false e.0))
  zero false true = (λ e. (refl, refl), λ e. refl)
  zero false false = (λ e. absurd (omega arith), λ e. absurd (false≢true e.1))

  refused : (s l : Bool) → (outcome s l).number ≢ taken → (outcome s l).frame ≡ was
  refused true l n = refl
  refused false true n = absurd (n refl)
  refused false false n = refl

  done : (s l : Bool) → (outcome s l).number ≡ taken → (outcome s l).frame ≡ later
  done true l e = absurd (omega arith)
  done false true e = refl
  done false false e = absurd (omega arith)

  past : (k : ℕ) → drop k later ≡ drop k was → (s l : Bool) → drop k (outcome s l).frame ≡ drop k was
  past k e true l = refl
  past k e false true = e
  past k e false false = refl

module _ (all : Pair Lent) (was : List ℕ) where
  -- the tests of the call, and what they say
  abbrev too_short_to_draw : Bool
  too_short_to_draw = ltb (length was) wide_frame_size || any_short all

  abbrev both_legal : Bool
  both_legal = legal all.left.state && legal all.right.state

  too_short_lem : too_short_to_draw ≡ true ↔ TooShortToDraw all was
  too_short_lem = (
    λ e. ⊎_elim (λ f. inl (ltb-true (length was) wide_frame_size f)) (λ s. inr (short_one all s)) (either (ltb (length was) wide_frame_size) (any_short all) e),
    λ h. ⊎_elim (λ f. rw (lt-ltb (length was) wide_frame_size f)) (λ s. rw (one_short all s) (or_true (ltb (length was) wide_frame_size))) h,
  )
    where
      or_true : (t : Bool) → (t || true) ≡ true
      or_true true = refl
      or_true false = refl

  long_enough : too_short_to_draw ≡ false ↔ LongToDraw all was
  long_enough = (
    (λ e. let none = neither (ltb (length was) wide_frame_size) (any_short all) e in (ltb-false (length was) wide_frame_size none.0, none_short all none.1)),
    λ h. rw (le-ltb (length was) wide_frame_size h.0, long_both all h.1),
  )

  out_of_ranges : both_legal ≡ false ↔ EitherOutside all
  out_of_ranges = (outside_one all, one_outside all)

  in_ranges : both_legal ≡ true ↔ BothLegal all
  in_ranges = (both (legal all.left.state) (legal all.right.state), λ h. rw (h.0, h.1))

  abbrev left : List ℕ
  left = wide_frame (chips_in all) ++ drop wide_frame_size was

  -- the call is that outcome
  whole_call : draw_wide all was ≡ outcome was left too_short_to_draw both_legal
  unfolding draw_wide draw_on_both asked_both both_found
  whole_call = by (ltb (length was) wide_frame_size) (short all.left.state all.left.memory) refl (short all.right.state all.right.memory) refl
    where
      ranges : (l r : Bool) → draw_on_both (both_found (cond l (Asked.Found (registers_of all.left.state)) (Asked.Refused out_of_range)) (cond r (Asked.Found (registers_of all.right.state)) (Asked.Refused out_of_range))) all was ≡ cond (l && r) (drawn taken left) (drawn out_of_range was)
      ranges true true = refl
      ranges true false = refl
      ranges false true = refl
      ranges false false = refl

      by : (f s : Bool) → short all.left.state all.left.memory ≡ s → (t : Bool) → short all.right.state all.right.memory ≡ t
          → cond f (drawn too_short was) (draw_on_both (cond (s || t) (BothAsked.Refused too_short) (both_found (asked_state all.left.state) (asked_state all.right.state))) all was) ≡ outcome was left (f || (s || t)) both_legal
      by true s e t d = refl
      by false true e t d = refl
      by false false e true d = refl
      by false false e false d =
          rw (ranges_asked all.left.state all.left.memory e, ranges_asked all.right.state all.right.memory d)
          (ranges (legal all.left.state) (legal all.right.state))

  past_left : drop wide_frame_size left ≡ drop wide_frame_size was
  past_left = drop_at (wide_frame (chips_in all)) (drop wide_frame_size was) wide_frame_size (wide_length (chips_in all))

  -- what one chip's own call leaves
  own_call : (state memory own : List ℕ) → short state memory ≡ false → legal state ≡ true → frame_size ≤ length own → draw state memory own ≡ drawn taken (frame (registers_of state) memory ++ drop frame_size own)
  unfolding draw draw_on asked
  own_call state memory own e l k = rw (le-ltb (length own) frame_size k, e, l)

  own_tests : (side : Side) → too_short_to_draw ≡ false → both_legal ≡ true → (short (at side all).state (at side all).memory ≡ false) × (legal (at side all).state ≡ true)
  own_tests side e l =
      let chips = (long_enough.0 e).1 in
      let legals = in_ranges.0 l in
      pick side (chips.0, legals.0) (chips.1, legals.1)
    where
      pick : (s : Side) → (short all.left.state all.left.memory ≡ false) × (legal all.left.state ≡ true) → (short all.right.state all.right.memory ≡ false) × (legal all.right.state ≡ true)
          → (short (at s all).state (at s all).memory ≡ false) × (legal (at s all).state ≡ true)
      pick Side.Left a b = a
      pick Side.Right a b = b

  chip_at : (side : Side) → half_of side left ≡ frame (registers_of (at side all).state) (at side all).memory
  chip_at side = half_front side (wide_frame (chips_in all)) (drop wide_frame_size was) (wide_length (chips_in all)) ∙ half_frame (chips_in all) side ∙ own side
    where
      own : (s : Side) → frame (at s (chips_in all)).registers (at s (chips_in all)).memory ≡ frame (registers_of (at s all).state) (at s all).memory
      own Side.Left = refl
      own Side.Right = refl

  by_half : (draw_wide all was).number ≡ taken → (side : Side) (own : List ℕ) → frame_size ≤ length own → draw (at side all).state (at side all).memory own ≡ drawn taken (half_of side (draw_wide all was).frame ++ drop frame_size own)
  by_half e side own k =
      let s = too_short_to_draw in
      let l = both_legal in
      let number : (outcome was left s l).number ≡ taken = ap (λ (o : Drawn). o.number) (sym whole_call) ∙ e in
      let tests = (zero was left s l).0 number in
      let chip = own_tests side tests.0 tests.1 in
      own_call (at side all).state (at side all).memory own chip.0 chip.1 k ∙
      rw (whole_call, done was left s l number, chip_at side)

  wide_draw_call : WideDrawCall all was
  wide_draw_call =
      let s = too_short_to_draw in
      let l = both_legal in
      record {
        one = rw whole_call (let it = one was left s l in (λ e. too_short_lem.0 (it.0 e), λ h. it.1 (too_short_lem.1 h)));
        two = rw whole_call (let it = two was left s l in ((λ e. let both = it.0 e in (long_enough.0 both.0, out_of_ranges.0 both.1)), λ h. it.1 (long_enough.1 h.0, out_of_ranges.1 h.1)));
        zero = rw whole_call (let it = zero was left s l in ((λ e. let both = it.0 e in (long_enough.0 both.0, in_ranges.0 both.1)), λ h. it.1 (long_enough.1 h.0, in_ranges.1 h.1)));
        refused = rw whole_call (refused was left s l);
        whole = rw whole_call (done was left s l);
        past = rw whole_call (past was left wide_frame_size past_left s l);
        by_half = by_half;
      }

pub wide_drawing : WideDrawing
wide_drawing = wide_draw_call
