-- One chip alone: what is not selected stays, and the selection is kept.
-- Assumes nothing.
use mathlib.Core.Path.{◌≡◌, refl, ◌∙◌, ap, subst}
use mathlib.Core.Bool.{Bool, true, false, cond}
use mathlib.Core.List.{List, [], ◌∷◌, map}
use Prim.Native.Nat.{ℕ}
use native.Mathlib.Omega.{arith}
use lib.ListN.{length}
use Rattle.bus.specs.Chip.{Chip, reset_pulse, step}
use Rattle.bus.specs.CallsOnChip.{chip_in}
use Rattle.bus.specs.Events.{reset_pin}
use Rattle.bus.specs.Stretch.{stretched, counted_on, stretch}
use Rattle.bus.proofs.Legal.{long}
use Rattle.bus.proofs.Stored.{stored_own}
use Rattle.trace.specs.Records.{split}
use Rattle.trace.specs.Play.{Result, refuses, gives, on_result, Played, play_events}
use Rattle.trace.specs.Kinds.{Recorded, event, happened, replay}
use Rattle.trace.specs.AnyMachine.{Gives}
use Rattle.trace.specs.OneByOne.{script_from}
use Rattle.trace.proofs.AnyMachine.{any_machine}
use Rattle.widebus.specs.Pair.{Pair, ◌beside◌, Lent, lent, at}
use Rattle.widebus.specs.Events.{to_selected, replay_on}
use Rattle.widebus.specs.declared.selection.Selection.{Selection}
use Rattle.widebus.specs.declared.selection.Side.{Side}
use Rattle.widebus.proofs.Selected.{to_left, to_right}
use Rattle.widebus.proofs.Stretches.{left_alone, right_alone}
use Rattle.widetrace.specs.Terminal.{Terminal, terminal, WideEvent, selects, happens, wide_step, the_terminal}
use Rattle.widetrace.specs.WideRun.{WideRan, lent_after, wide_run}
use Rattle.widetrace.specs.WideRunLaws.{BothAccepted, terminal_in}
use Rattle.widetrace.specs.EachChip.{hears, heard_by, unplaced, heard_in}
use Rattle.widetrace.specs.OneChipAlone.{alone, with_on, after_pulse, OneChipAlone}
use Rattle.widetrace.proofs.TerminalStretches.{happening}
use Rattle.widetrace.proofs.TerminalHeard.{Heard, heard}
use Rattle.widetrace.proofs.WideRunOnLent.{plays, run_found, run_refused, by_asking, accepted_on, the_chip_lem, the_lent}
use Rattle.widetrace.proofs.AppliedStretches.{applied_state}

as_alone : (side : Side) (events : List Recorded) (chips : Pair Chip) → let s = stretch replay events (at side chips) in
    stretch wide_step (map happens events) (terminal chips (alone side)) ≡ stretched (terminal (with_on side s.state chips) (alone side)) s.count s.number
as_alone Side.Left events chips = happening Selection.Left events chips ∙ rw (to_left events chips, left_alone replay events chips.left chips.right)
as_alone Side.Right events chips = happening Selection.Right events chips ∙ rw (to_right events chips, right_alone replay events chips.left chips.right)

not_heard : (side : Side) (events : List WideEvent) (t : Terminal) → heard_by side t.selection events ≡ [] → at side (stretch wide_step events t).state.chips ≡ at side t.chips
unfolding stretch wide_step heard_by
not_heard side [] t h = refl
not_heard side (selects selection ∷ rest) t h = not_heard side rest (terminal t.chips selection) h
not_heard side (happens recorded ∷ rest) t h = by (hears side t.selection) (replay_on t.selection recorded t.chips) (heard recorded t.chips side t.selection) h (not_heard side rest)
  where
    by : (b : Bool) (x : Result (Pair Chip)) → Gives (Heard b side recorded t.chips) x → let later = heard_by side t.selection rest in cond b (recorded ∷ later) later ≡ []
        → ((u : Terminal) → heard_by side u.selection rest ≡ [] → at side (stretch wide_step rest u).state.chips ≡ at side u.chips)
        → at side (on_result (on_result x refuses (λ chips. gives (terminal chips t.selection))) (λ number. stretched t 0 number) (λ u. counted_on 1 (stretch wide_step rest u))).state.chips ≡ at side t.chips
    by true x g h later = absurd (omega (arith, ap (λ (list : List Recorded). length list) h))
    by false (refuses number) g h later = refl
    by false (gives next) g h later = later (terminal next t.selection) h ∙ g

module _ (side : Side) (all : Pair Lent) (trace : List ℕ) (h : heard_in side trace ≡ []) where
  not_heard_found : BothAccepted all → at side (wide_run all trace).lent ≡ at side all
  not_heard_found a =
      let start = terminal_in all Selection.Both in
      let script = script_from the_terminal (split trace) 0 in
      let state : (plays all trace).state ≡ (stretch wide_step (unplaced script.events) start).state = ap (λ (p : Played Terminal). p.state) ((any_machine the_terminal).by_events trace start) ∙ applied_state wide_step script.number script.offset script.count script.events start in
      let chip : at side (plays all trace).state.chips ≡ chip_in (at side all).state (at side all).memory = ap (λ (t : Terminal). at side t.chips) state ∙ not_heard side (unplaced script.events) start h ∙ the_chip_lem all side in
      ap (λ (o : WideRan). at side o.lent) (run_found all a trace) ∙ the_lent all (plays all trace) side ∙ ap (λ (c : Chip). lent_after c (at side all)) chip
      ∙ ap (λ (state : List ℕ). lent state (at side all).memory) (stored_own (at side all).state (long _ _ (accepted_on all side a).long_enough).0)

  not_heard_in_run : at side (wide_run all trace).lent ≡ at side all
  not_heard_in_run = by_asking all _ not_heard_found (λ number e n. ap (λ (o : WideRan). at side o.lent) (run_refused all trace e))

pub keeps : (recorded : Recorded) (t later : Terminal) → wide_step (happens recorded) t ≡ gives later → later.selection ≡ t.selection
unfolding wide_step
keeps recorded t later e = subst (Gives (λ (u : Terminal). u.selection ≡ t.selection)) e (by (replay_on t.selection recorded t.chips))
  where
    by : (x : Result (Pair Chip)) → Gives (λ (u : Terminal). u.selection ≡ t.selection) (on_result x refuses (λ chips. gives (terminal chips t.selection)))
    by (refuses number) = tt
    by (gives chips) = refl

reset_pin_lem : (selection : Selection) (chips : Pair Chip) → wide_step (happens (event reset_pulse)) (terminal chips selection) ≡ gives (terminal (after_pulse Side.Left selection chips beside after_pulse Side.Right selection chips) selection)
unfolding wide_step replay_on to_selected replay happened step reset_pin
reset_pin_lem Selection.Left chips = refl
reset_pin_lem Selection.Right chips = refl
reset_pin_lem Selection.Both chips = refl

pub one_chip_alone : OneChipAlone
unfolding play_events
one_chip_alone =
    record {
      as_alone = as_alone;
      not_heard = not_heard;
      not_heard_in_run = not_heard_in_run;
      refused = λ first rest offset number t e. rw e;
      keeps = keeps;
      reset_pin = λ t. reset_pin_lem t.selection t.chips;
    }
