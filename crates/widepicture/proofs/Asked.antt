-- What the states and memories of both chips are asked before drawing: what it says that they were found, and the call by the tests of the code.
-- Assumes nothing.
use mathlib.Core.Path.{◌≡◌, sym, ◌∙◌}
use mathlib.Core.Bool.{false, cond}
use mathlib.Core.List.{List, ◌++◌}
use Prim.Native.Nat.{ℕ, ◌≤◌, ◌<◌}
use borrow.Author.Tests.{lt-ltb, le-ltb}
use lib.ListN.{length, drop}
use Rattle.constants.specs.Numbers.{taken, too_short, out_of_range}
use Rattle.constants.specs.Sizes.{image_size, memory_size, wide_frame_size}
use Rattle.bus.specs.Registers.{registers_of}
use Rattle.bus.specs.Image.{short, legal, asked_state}
use Rattle.bus.specs.Answer.{Asked}
use Rattle.bus.proofs.Legal.{long}
use Rattle.picture.specs.Draw.{drawn}
use Rattle.widebus.specs.Pair.{Pair, Lent, chips_of}
use Rattle.widebus.specs.Asked.{asked_both}
use Rattle.widebus.proofs.Asking.{memories_long}
use Rattle.widebus.specs.declared.both.Both.{Both}
use Rattle.widebus.specs.Asked.{BothAsked}
use Rattle.widepicture.specs.WideFrame.{wide_frame}
use Rattle.widepicture.specs.WideDraw.{draw_on_both, draw_wide}

-- a state that is long enough is asked for its ranges alone
pub ranges_asked : (state memory : List ℕ) → short state memory ≡ false → asked_state state ≡ cond (legal state) (Asked.Found (registers_of state)) (Asked.Refused out_of_range)
unfolding asked_state
ranges_asked state memory e = rw (le-ltb (length state) image_size (long state memory e).0)

module _ (all : Pair Lent) (was : List ℕ) where
  pub frame_short : length was < wide_frame_size → drawn too_short was ≡ draw_wide all was
  unfolding draw_wide
  frame_short l = rw (lt-ltb (length was) wide_frame_size l)

  module _ (k : wide_frame_size ≤ length was) {a : BothAsked} (e : a ≡ asked_both all) where
    pub both_refused : {number : ℕ} {later : List ℕ} → a ≡ BothAsked.Refused number → later ≡ was → drawn number later ≡ draw_wide all was
    unfolding draw_wide draw_on_both
    both_refused n p = rw (p, le-ltb (length was) wide_frame_size k, sym e ∙ n)

    module _ {registers : Both} (found : a ≡ BothAsked.Found registers) where
      pub both_long : (memory_size ≤ length all.left.memory) × (memory_size ≤ length all.right.memory)
      both_long = memories_long all (sym e ∙ found)

      pub both_drawn : {later : List ℕ} → later ≡ wide_frame (chips_of registers all.left.memory all.right.memory) ++ drop wide_frame_size was → drawn taken later ≡ draw_wide all was
      unfolding draw_wide draw_on_both
      both_drawn p = rw (p, le-ltb (length was) wide_frame_size k, sym e ∙ found)
