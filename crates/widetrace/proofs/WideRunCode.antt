-- How the code's run ends: with what its trace plays where all that is lent is legal, and with refusal 1 or 2 where it is not.
-- Assumes nothing.
use mathlib.Core.Path.{◌≡◌, sym, ◌∙◌, ap}
use mathlib.Core.List.{List}
use Prim.Native.Nat.{ℕ}
use Rattle.std.specs.Prelude.{Result, Ok, Err}
use Rattle.constants.specs.Refusals.{number_of_refusal}
use Rattle.constants.specs.declared.refusal.Refusal.{Refusal}
use Rattle.bus.specs.Image.{stored}
use Rattle.trace.specs.Records.{split}
use Rattle.trace.specs.Play.{Played, play}
use Rattle.trace.specs.Code.{stop_met}
use Rattle.trace.specs.Run.{stop_of}
use Rattle.widebus.specs.Pair.{Pair, ◌beside◌, Lent, lent, chips_of}
use Rattle.widebus.specs.Asked.{asked_both, both_asked_of}
use Rattle.widebus.specs.declared.both.Both.{Both}
use Rattle.widebus.specs.declared.selection.Selection.{Selection}
use Rattle.widetrace.specs.Terminal.{Terminal, terminal, the_terminal}
use Rattle.widetrace.specs.WideRun.{wide_ran, wide_ran_of, wide_run_on, wide_run}
use Rattle.widetrace.specs.Code.{wide_played_of}
use Rattle.widetrace.specs.declared.run.WidePlayed.{WidePlayed}

module _ (all : Pair Lent) (trace : List ℕ) {asking : Result Both Refusal} (a : both_asked_of asking ≡ asked_both all) where
  as_asked : {found : Result Both Refusal} → asking ≡ found → wide_run_on (both_asked_of found) all trace ≡ wide_run all trace
  unfolding wide_run
  as_asked l = ap (λ found. wide_run_on (both_asked_of found) all trace) (sym l) ∙ ap (λ found. wide_run_on found all trace) a

  pub plays : {both : Both} → asking ≡ Ok both → (p : WidePlayed) (lm rm : List ℕ)
      → wide_played_of p lm rm ≡ play the_terminal (split trace) (terminal (chips_of both all.left.memory all.right.memory) Selection.Both)
      → {ls rs : List ℕ} → ls ≡ stored p.registers.left all.left.state → rs ≡ stored p.registers.right all.right.state
      → wide_ran (stop_met p.stop) (lent ls lm beside lent rs rm) ≡ wide_run all trace
  unfolding wide_run_on wide_ran_of wide_played_of
  plays l p lm rm e q r = rw (q, r) (ap (λ (p : Played Terminal). wide_ran_of p all) e ∙ as_asked l)

  pub refuses : {refusal : Refusal} → asking ≡ Err refusal → wide_ran (stop_of (number_of_refusal refusal) 0 0) all ≡ wide_run all trace
  unfolding wide_run_on
  refuses l = as_asked l
