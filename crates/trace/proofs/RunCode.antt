-- How the code's run ends: with what its trace plays where state and memory are legal, and with refusal 1 or 2 where they are not.
-- Assumes nothing.
use mathlib.Core.Path.{◌≡◌, sym, ◌∙◌, ap}
use mathlib.Core.List.{List}
use Prim.Native.Nat.{ℕ}
use Rattle.std.specs.Prelude.{Result, Ok, Err}
use Rattle.constants.specs.Refusals.{number_of_refusal}
use Rattle.constants.specs.declared.refusal.Refusal.{Refusal}
use Rattle.bus.specs.Answer.{asked_of}
use Rattle.bus.specs.Image.{asked, stored}
use Rattle.bus.specs.declared.registers.Registers.{Registers}
use Rattle.trace.specs.Records.{split}
use Rattle.trace.specs.Play.{play}
use Rattle.trace.specs.Kinds.{chip_of, the_chip}
use Rattle.trace.specs.Code.{stop_met, played_of}
use Rattle.trace.specs.Run.{ran, stop_of, ran_of, run_on, run}
use Rattle.trace.specs.declared.run.Played as code

module _ (state memory trace : List ℕ) {asking : Result Registers Refusal} (a : asked_of asking ≡ asked state memory) where
  as_asked : {found : Result Registers Refusal} → asking ≡ found → run_on (asked_of found) state memory trace ≡ run state memory trace
  unfolding run
  as_asked l = ap (λ found. run_on (asked_of found) state memory trace) (sym l) ∙ ap (λ found. run_on found state memory trace) a

  pub plays : {r : Registers} → asking ≡ Ok r → (p : code.Played) (left : List ℕ) → played_of p left ≡ play the_chip (split trace) (chip_of r memory) → {later : List ℕ} → later ≡ stored p.registers state → ran (stop_met p.stop) later left ≡ run state memory trace
  unfolding run_on ran_of played_of
  plays l p left e q = rw q (ap (λ p. ran_of p state) e ∙ as_asked l)

  pub refuses : {refusal : Refusal} → asking ≡ Err refusal → ran (stop_of (number_of_refusal refusal) 0 0) state memory ≡ run state memory trace
  unfolding run_on
  refuses l = as_asked l
