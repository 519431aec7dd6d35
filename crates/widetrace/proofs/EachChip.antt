-- Each chip over the events it was selected for: over events, in a run, and as a run of one chip.
-- Assumes nothing.
use mathlib.Core.Path.{◌≡◌, refl, sym, ◌∙◌, ap}
use mathlib.Core.Bool.{Bool, true, false, cond}
use mathlib.Core.List.{List, [], ◌∷◌}
use Prim.Native.Nat.{ℕ, suc, ◌+◌}
use native.Mathlib.Omega.{arith}
use lib.ListN.{length}
use Rattle.constants.specs.Numbers.{taken}
use Rattle.bus.specs.Chip.{Chip}
use Rattle.bus.specs.CallsOnChip.{chip_in}
use Rattle.bus.specs.Stretch.{Stretched, stretched, counted_on, stretch}
use Rattle.trace.specs.Records.{split_from, split}
use Rattle.trace.specs.Play.{Result, refuses, gives, on_result, Played, played}
use Rattle.trace.specs.Kinds.{Recorded, replay, events_of, the_chip}
use Rattle.trace.specs.AnyMachine.{Gives}
use Rattle.trace.specs.OneByOne.{script_from}
use Rattle.trace.specs.Run.{Ran, ran_of, run}
use Rattle.bus.proofs.StretchLaws.{the_chip_never_zero}
use Rattle.trace.proofs.AnyMachine.{any_machine}
use Rattle.trace.proofs.RunLaws.{run_laws}
use Rattle.widebus.specs.Pair.{Pair, Lent, lent, at}
use Rattle.widebus.specs.Selection.{selection_of}
use Rattle.widebus.specs.Events.{replay_on}
use Rattle.widebus.specs.declared.selection.Selection.{Selection}
use Rattle.widebus.specs.declared.selection.Side.{Side}
use Rattle.widetrace.specs.Terminal.{Terminal, terminal, WideEvent, selects, happens, selected_by, wide_events_of, wide_step, the_terminal}
use Rattle.widetrace.specs.WideRun.{WideRan, lent_after, wide_ran_of, wide_run}
use Rattle.widetrace.specs.WideRunLaws.{terminal_in}
use Rattle.widetrace.specs.EachChip.{hears, heard_by, unplaced, heard_in, EachChip}
use Rattle.widetrace.proofs.TerminalStretches.{terminal_never_zero}
use Rattle.widetrace.proofs.AppliedStretches.{none_refused, all_applied}
use Rattle.widetrace.proofs.TerminalHeard.{Heard, heard}
use Rattle.widetrace.proofs.WideRunOnLent.{plays, run_found, accepted, accepted_on, the_chip_lem, the_lent}

-- one event before others, by whether the chip hears it
before : (b : Bool) (side : Side) (recorded : Recorded) (chips next last : Pair Chip) (later : List Recorded) → Heard b side recorded chips next
    → stretch replay later (at side next) ≡ stretched (at side last) (length later) taken
    → stretch replay (cond b (recorded ∷ later) later) (at side chips) ≡ stretched (at side last) (length (cond b (recorded ∷ later) later)) taken
unfolding stretch
before true side recorded chips next last later h e = let size : 1 + length later ≡ suc (length later) = omega arith in rw (h, e) (ap (λ (n : ℕ). stretched (at side last) n taken) size)
before false side recorded chips next last later h e = rw (← h) e

over_events : (side : Side) (events : List WideEvent) (t : Terminal) → (stretch wide_step events t).number ≡ taken
    → stretch replay (heard_by side t.selection events) (at side t.chips) ≡ stretched (at side (stretch wide_step events t).state.chips) (length (heard_by side t.selection events)) taken
unfolding stretch wide_step heard_by
over_events side [] t h = refl
over_events side (selects selection ∷ rest) t h = over_events side rest (terminal t.chips selection) h
over_events side (happens recorded ∷ rest) t h =
    by (replay_on t.selection recorded t.chips) (heard recorded t.chips side t.selection) (terminal_never_zero (happens recorded) t) h (over_events side rest)
  where
    by : (x : Result (Pair Chip)) → Gives (Heard (hears side t.selection) side recorded t.chips) x
        → ((number : ℕ) → on_result x refuses (λ chips. gives (terminal chips t.selection)) ≡ refuses number → number ≡ taken → ⊥)
        → (on_result (on_result x refuses (λ chips. gives (terminal chips t.selection))) (λ number. stretched t 0 number) (λ u. counted_on 1 (stretch wide_step rest u))).number ≡ taken
        → ((u : Terminal) → (stretch wide_step rest u).number ≡ taken → stretch replay (heard_by side u.selection rest) (at side u.chips) ≡ stretched (at side (stretch wide_step rest u).state.chips) (length (heard_by side u.selection rest)) taken)
        → let later = heard_by side t.selection rest in let whole = cond (hears side t.selection) (recorded ∷ later) later in
        stretch replay whole (at side t.chips) ≡ stretched (at side (on_result (on_result x refuses (λ chips. gives (terminal chips t.selection))) (λ number. stretched t 0 number) (λ u. counted_on 1 (stretch wide_step rest u))).state.chips) (length whole) taken
    by (refuses number) g n h later = absurd (n number refl h)
    by (gives next) g n h later = before (hears side t.selection) side recorded t.chips next (stretch wide_step rest (terminal next t.selection)).state.chips _ g (later (terminal next t.selection) h)

module _ (all : Pair Lent) (trace : List ℕ) (h : (wide_run all trace).stop.number ≡ taken) (side : Side) where
  abbrev alone : Stretched Chip
  alone = stretch replay (heard_in side trace) (chip_in (at side all).state (at side all).memory)

  in_run : alone ≡ stretched (at side (plays all trace).state.chips) (length (heard_in side trace)) taken
  unfolding wide_ran_of
  in_run =
      let start = terminal_in all Selection.Both in
      let script = script_from the_terminal (split trace) 0 in
      let e = (any_machine the_terminal).by_events trace start in
      let n : (plays all trace).number ≡ taken = ap (λ (o : WideRan). o.stop.number) (sym (run_found all (accepted all trace h) trace)) ∙ h in
      let s = none_refused wide_step terminal_never_zero script.number script.offset script.count script.events start (ap (λ (p : Played Terminal). p.number) (sym e) ∙ n) in
      rw (← the_chip_lem all side) (over_events side (unplaced script.events) start s.0
      ∙ ap (λ (t : Terminal). stretched (at side t.chips) (length (heard_in side trace)) taken) (s.1 ∙ ap (λ (p : Played Terminal). p.state) (sym e)))

  left_there : at side (wide_run all trace).lent ≡ lent_after alone.state (at side all)
  left_there =
      ap (λ (o : WideRan). at side o.lent) (run_found all (accepted all trace h) trace) ∙ the_lent all (plays all trace) side
      ∙ ap (λ (c : Chip). lent_after c (at side all)) (sym (ap (λ (s : Stretched Chip). s.state) in_run))

  module _ (narrow : List ℕ) (known : (script_from the_chip (split narrow) 0).number ≡ taken) (same : unplaced (script_from the_chip (split narrow) 0).events ≡ heard_in side trace) where
    one_run : run (at side all).state (at side all).memory narrow ≡ ran_of (played taken (script_from the_chip (split narrow) 0).offset (script_from the_chip (split narrow) 0).count alone.state) (at side all).state
    one_run =
        let script = script_from the_chip (split narrow) 0 in
        let chip = chip_in (at side all).state (at side all).memory in
        let none : (stretch replay (unplaced script.events) chip).number ≡ taken = rw same (ap (λ (s : Stretched Chip). s.number) in_run) in
        (run_laws (at side all).state (at side all).memory).by_steps (accepted_on all side (accepted all trace h)) narrow
        ∙ ap (λ (p : Played Chip). ran_of p (at side all).state) (all_applied replay the_chip_never_zero script.number script.offset script.count script.events chip none ∙ rw (known, same))

    as_one_run : ((run (at side all).state (at side all).memory narrow).stop.number ≡ taken) × (at side (wide_run all trace).lent ≡ lent (run (at side all).state (at side all).memory narrow).state (run (at side all).state (at side all).memory narrow).memory)
    unfolding ran_of
    as_one_run = (ap (λ (o : Ran). o.stop.number) one_run, left_there ∙ sym (ap (λ (o : Ran). lent o.state o.memory) one_run))

pub each_chip : EachChip
unfolding heard_by script_from split split_from wide_events_of selected_by selection_of events_of
each_chip =
    record {
      over_events = λ events t h side. over_events side events t h;
      in_run = λ all trace h side. let e = in_run all trace h side in (ap (λ (s : Stretched Chip). s.number) e, ap (λ (s : Stretched Chip). s.count) e, left_there all trace h side);
      as_one_run = λ all trace h side narrow known same. as_one_run all trace h side narrow known same;
      sample_left = refl;
      sample_right = refl;
    }
