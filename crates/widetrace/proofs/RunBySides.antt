-- The code's play of a trace by the two sides of the terminal is the terminal's.
-- Assumes nothing.
use mathlib.Core.Path.{◌≡◌, refl, sym, ◌∙◌, ap, subst}
use mathlib.Core.Logic.{◌≢◌}
use mathlib.Core.Bool.{true, false, false≢true}
use mathlib.Core.List.{List, ◌++◌}
use Prim.Native.Nat.{ℕ, ◌≤◌}
use native.Mathlib.Omega.{arith}
use native.Mathlib.Nat.{zero-add}
use borrow.Author.Tests.{eqb-false}
use lib.ListN.{length, take, drop}
use Rattle.std.specs.Prelude.{Ok, Err}
use Rattle.std.specs.Result.{is_ok}
use Rattle.constants.specs.Sizes.{memory_size}
use Rattle.constants.specs.Numbers.{taken}
use Rattle.constants.specs.Refusals.{Met, number_met}
use Rattle.constants.proofs.Refusals.{refusal_not_taken}
use Rattle.trace.specs.Records.{split_from, split}
use Rattle.trace.specs.Play.{Played, played, play}
use Rattle.trace.specs.Kinds.{chip_of}
use Rattle.trace.proofs.ChipKeeps.{Aside}
use Rattle.widebus.specs.Pair.{◌beside◌, chips_of}
use Rattle.widebus.specs.declared.both.Both.{Both}
use Rattle.widebus.specs.declared.selection.Selection.{Selection}
use Rattle.widebus.specs.declared.selection.Side.{Side}
use Rattle.widetrace.specs.Terminal.{Terminal, terminal, the_terminal}
use Rattle.widetrace.specs.Sides.{OneSide, one_side, the_side, up_to, side_played_of}
use Rattle.widetrace.specs.Code.{wide_played, wide_played_of}
use Rattle.widetrace.specs.declared.side.SidePlayed.{SidePlayed}
use Rattle.widetrace.proofs.SidesOfTrace.{WellPlaced, split_placed, TakenSo, StoppedSo, sides}
use Rattle.widetrace.proofs.SideKeeps.{left_aside, put_back, up_to_end}

-- a side of the terminal with both chips selected, as a run starts
abbrev starting : Both → Side → List ℕ → OneSide
starting both Side.Left memory = one_side (chip_of both.left memory) Selection.Both
starting both Side.Right memory = one_side (chip_of both.right memory) Selection.Both

module _ (both : Both) (trace left right : List ℕ) (first : SidePlayed) (lm : List ℕ)
    (p : side_played_of first lm ≡ play (the_side Side.Left) (up_to (length trace) (split trace)) (starting both Side.Left left)) where
  -- the left side's play of the whole trace
  abbrev whole : Played OneSide
  whole = play (the_side Side.Left) (split trace) (starting both Side.Left left)

  p_whole : side_played_of first lm ≡ whole
  p_whole = p ∙ rw (up_to_end trace)

  -- it leaves the length of its memory, and the bytes past the display memory
  aside : Aside left (chip_of first.registers lm)
  unfolding side_played_of
  aside = subst (λ (x : Played OneSide). Aside left x.state.chip) (sym p_whole) (left_aside Side.Left left (split trace) 0 (starting both Side.Left left) (record { size = refl; past = refl }))

  pub still_long : memory_size ≤ length left → memory_size ≤ length lm
  still_long h = omega (arith, aside.size)

  module _ (second : SidePlayed) (rm : List ℕ)
      (q : side_played_of second rm ≡ play (the_side Side.Right) (up_to first.stop.offset (split trace)) (starting both Side.Right right)) where
    -- the right side's play as far as the left one came
    abbrev other : Played OneSide
    other = play (the_side Side.Right) (up_to whole.offset (split trace)) (starting both Side.Right right)

    q_whole : side_played_of second rm ≡ other
    unfolding side_played_of
    q_whole = q ∙ ap (λ (x : Played OneSide). play (the_side Side.Right) (up_to x.offset (split trace)) (starting both Side.Right right)) p_whole

    -- a stop with the chips of the two sides
    abbrev joined : Played OneSide → Played OneSide → Played OneSide → Played Terminal
    joined stop x y = played stop.number stop.offset stop.count (terminal (x.state.chip beside y.state.chip) stop.state.selection)

    by_sides : TakenSo (split trace) 0 (chip_of both.left left) (chip_of both.right right) Selection.Both × StoppedSo (split trace) 0 (chip_of both.left left) (chip_of both.right right) Selection.Both
    unfolding split
    by_sides = sides (split_from 0 0 trace) 0 (subst (λ (n : ℕ). WellPlaced n (split_from 0 0 trace)) (zero-add 0) (split_placed 0 0 trace (omega arith))) 0 (chip_of both.left left) (chip_of both.right right) Selection.Both

    pub taken_by_both : number_met second.stop.outcome ≡ taken → wide_played_of (wide_played first.stop first.registers second.registers first.selection) lm rm ≡ play the_terminal (split trace) (terminal (chips_of both left right) Selection.Both)
    unfolding wide_played_of side_played_of
    taken_by_both number =
        ap (λ (x : Played OneSide). joined x x (side_played_of second rm)) p_whole
        ∙ ap (λ (y : Played OneSide). joined whole whole y) q_whole
        ∙ sym (by_sides.0 (ap (λ (y : Played OneSide). y.number) (sym q_whole) ∙ number))

    -- the right side stops earlier: the left one's memory is put back, and it plays as far as that
    module _ (back : List ℕ) (b : back ≡ take memory_size left ++ drop memory_size lm) (again : SidePlayed) (later : List ℕ)
        (z : side_played_of again later ≡ play (the_side Side.Left) (up_to second.stop.offset (split trace)) (starting both Side.Left back)) where
      z_whole : side_played_of again later ≡ play (the_side Side.Left) (up_to second.stop.offset (split trace)) (starting both Side.Left left)
      z_whole = z ∙ rw (b ∙ put_back left lm aside.past)

      pub stopped_by_right : number_met second.stop.outcome ≢ taken → wide_played_of (wide_played second.stop again.registers second.registers second.selection) later rm ≡ play the_terminal (split trace) (terminal (chips_of both left right) Selection.Both)
      unfolding wide_played_of side_played_of
      stopped_by_right number =
          ap (λ (x : Played OneSide). joined (side_played_of second rm) x (side_played_of second rm)) z_whole
          ∙ ap (λ (y : Played OneSide). joined y (play (the_side Side.Left) (up_to y.offset (split trace)) (starting both Side.Left left)) y) q_whole
          ∙ sym (by_sides.1 (λ zero. number (ap (λ (y : Played OneSide). y.number) q_whole ∙ zero)))

-- where nothing is refused, the number is that of what is taken; and where something is, it is not
pub all_taken : (met : Met) → is_ok met ≡ true → number_met met ≡ taken
all_taken (Ok all) e = refl
all_taken (Err refusal) e = absurd (false≢true e)

pub not_taken : (met : Met) → is_ok met ≡ false → number_met met ≢ taken
not_taken (Ok all) e zero = false≢true (sym e)
not_taken (Err refusal) e zero = eqb-false _ _ (refusal_not_taken refusal) zero
