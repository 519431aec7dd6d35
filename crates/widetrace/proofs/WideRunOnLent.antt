-- A run on the lent states and memories of both chips: refused first, or played from the chips that are lent.
-- Assumes nothing.
use mathlib.Core.Path.{◌≡◌, refl, sym, ◌∙◌, ap, subst}
use mathlib.Core.Bool.{Bool, true, false, ◌&&◌}
use mathlib.Core.List.{List}
use Prim.Native.Nat.{ℕ, ◌≤◌, ◌<◌}
use native.Mathlib.Omega.{arith}
use borrow.Author.Tests.{le-ltb}
use lib.Dec.{lit≤}
use Rattle.constants.specs.Numbers.{taken, too_short, out_of_range}
use Rattle.bus.specs.CallsOnChip.{chip_in}
use Rattle.bus.specs.Image.{short, legal, asked_state, Accepted}
use Rattle.bus.specs.Registers.{registers_of}
use Rattle.bus.proofs.Legal.{long}
use Rattle.trace.specs.Records.{split}
use Rattle.trace.specs.Play.{Played, play}
use Rattle.trace.specs.Run.{stop_of}
use Rattle.widebus.specs.Pair.{Pair, Lent, at}
use Rattle.widebus.specs.Asked.{any_short, both_found, asked_both}
use Rattle.widebus.specs.declared.both.Both.{Both}
use Rattle.widebus.specs.Asked.{BothAsked}
use Rattle.widebus.specs.declared.selection.Selection.{Selection}
use Rattle.widebus.specs.declared.selection.Side.{Side}
use Rattle.widetrace.specs.Terminal.{Terminal, the_terminal}
use Rattle.widetrace.specs.WideRun.{WideRan, wide_ran, lent_after, wide_ran_of, wide_run_on, wide_run}
use Rattle.widetrace.specs.WideRunLaws.{BothAccepted, terminal_in}

module _ (all : Pair Lent) where
  abbrev own : Both
  own = record { left = registers_of all.left.state; right = registers_of all.right.state }

  -- why they are refused
  pub data Refused : ℕ → Type 0 where
    too_few : any_short all ≡ true → Refused too_short
    ranges : any_short all ≡ false → (legal all.left.state && legal all.right.state) ≡ false → Refused out_of_range

  one_or_two : {number : ℕ} → Refused number → (taken < number) × (number ≤ out_of_range)
  one_or_two (too_few s) = (lit≤ tt, lit≤ tt)
  one_or_two (ranges s r) = (lit≤ tt, lit≤ tt)

  -- what was asked of both: they are accepted and their own registers are found, or it is refused with 1 or 2
  abbrev Asks : BothAsked → Type 0
  Asks (BothAsked.Found both) = BothAccepted all × (both ≡ own)
  Asks (BothAsked.Refused number) = Refused number

  asks : Asks (asked_both all)
  unfolding asked_both both_found asked_state
  asks = by (short all.left.state all.left.memory) refl (short all.right.state all.right.memory) refl (legal all.left.state) refl (legal all.right.state) refl
    where
      by : (s : Bool) → short all.left.state all.left.memory ≡ s → (t : Bool) → short all.right.state all.right.memory ≡ t → (p : Bool) → legal all.left.state ≡ p → (q : Bool) → legal all.right.state ≡ q → Asks (asked_both all)
      by true a t b p f q g = rw a (too_few (rw a))
      by false a true b p f q g = rw (a, b) (too_few (rw (a, b)))
      by false a false b true f true g = rw (a, b, le-ltb _ _ (long _ _ a).0, le-ltb _ _ (long _ _ b).0, f, g) ((record { long_enough = a; in_ranges = f }, record { long_enough = b; in_ranges = g }), refl)
      by false a false b true f false g = rw (a, b, le-ltb _ _ (long _ _ a).0, le-ltb _ _ (long _ _ b).0, f, g) (ranges (rw (a, b)) (rw (f, g)))
      by false a false b false f true g = rw (a, b, le-ltb _ _ (long _ _ a).0, le-ltb _ _ (long _ _ b).0, f, g) (ranges (rw (a, b)) (rw f))
      by false a false b false f false g = rw (a, b, le-ltb _ _ (long _ _ a).0, le-ltb _ _ (long _ _ b).0, f, g) (ranges (rw (a, b)) (rw f))

  pub why_refused : {number : ℕ} → asked_both all ≡ BothAsked.Refused number → Refused number
  why_refused e = subst Asks e asks

  -- accepted: both are found
  found : BothAccepted all → asked_both all ≡ BothAsked.Found own
  unfolding asked_both both_found asked_state
  found a =
      let l = a.0 in
      let r = a.1 in
      rw (l.long_enough, r.long_enough, le-ltb _ _ (long _ _ l.long_enough).0, le-ltb _ _ (long _ _ r.long_enough).0, l.in_ranges, r.in_ranges)

  -- the trace played from what is lent
  abbrev pub plays : List ℕ → Played Terminal
  plays trace = play the_terminal (split trace) (terminal_in all Selection.Both)

  pub run_found : BothAccepted all → (trace : List ℕ) → wide_run all trace ≡ wide_ran_of (plays trace) all
  unfolding wide_run wide_run_on
  run_found a trace = rw (found a)

  pub run_refused : (trace : List ℕ) {number : ℕ} → asked_both all ≡ BothAsked.Refused number → wide_run all trace ≡ wide_ran (stop_of number 0 0) all
  unfolding wide_run wide_run_on
  run_refused trace e = rw e

  -- either way
  pub by_asking : (P : Type 0) → (BothAccepted all → P) → ((number : ℕ) → asked_both all ≡ BothAsked.Refused number → (taken < number) × (number ≤ out_of_range) → P) → P
  by_asking P legal refused = by (asked_both all) refl asks
    where
      by : (x : BothAsked) → asked_both all ≡ x → Asks x → P
      by (BothAsked.Found both) e h = legal h.0
      by (BothAsked.Refused number) e h = refused number e (one_or_two h)

  -- a run without a refusal is one on what is accepted
  pub accepted : (trace : List ℕ) → (wide_run all trace).stop.number ≡ taken → BothAccepted all
  accepted trace h = by_asking _ (λ a. a) (λ number e n. absurd (omega (arith, n.0, ap (λ (o : WideRan). o.stop.number) (sym (run_refused trace e)) ∙ h)))

  pub accepted_on : (side : Side) → BothAccepted all → Accepted (at side all).state (at side all).memory
  accepted_on Side.Left a = a.0
  accepted_on Side.Right a = a.1

  -- the chip on a side that is lent, and what is lent once it has come to be another
  pub the_chip_lem : (side : Side) → at side (terminal_in all Selection.Both).chips ≡ chip_in (at side all).state (at side all).memory
  the_chip_lem Side.Left = refl
  the_chip_lem Side.Right = refl

  pub the_lent : (p : Played Terminal) (side : Side) → at side (wide_ran_of p all).lent ≡ lent_after (at side p.state.chips) (at side all)
  unfolding wide_ran_of
  the_lent p Side.Left = refl
  the_lent p Side.Right = refl
