-- A record's events on the wide terminal are a stretch on its selected chips.
-- Assumes nothing.
use mathlib.Core.Path.{◌≡◌, refl, subst}
use mathlib.Core.Logic.{◌≢◌}
use mathlib.Core.Bool.{◌&&◌}
use mathlib.Core.List.{List, [], ◌∷◌, map}
use native.Mathlib.Omega.{arith}
use Rattle.constants.specs.Numbers.{taken}
use Rattle.bus.specs.Chip.{Chip}
use Rattle.bus.specs.Stretch.{stretched, counted_on, stretch}
use Rattle.bus.specs.StretchLaws.{NeverZero}
use Rattle.bus.proofs.StretchLaws.{the_chip_never_zero}
use Rattle.trace.specs.Play.{Result, refuses, gives, on_result}
use Rattle.trace.specs.Kinds.{Recorded, replay}
use Rattle.trace.proofs.ChipRefusals.{Refusing}
use Rattle.codes.proofs.Tests.{chosen}
use Rattle.widebus.specs.Pair.{Pair}
use Rattle.widebus.specs.Events.{to_selected, are_both, reads_data, replay_on}
use Rattle.widebus.specs.declared.selection.Selection.{Selection}
use Rattle.widetrace.specs.Terminal.{Terminal, terminal, WideEvent, selects, happens, wide_step}

-- a result that is no refusal with 0
abbrev pub NotTaken : {A : Type 0} → Result A → Type 0
NotTaken = Refusing (λ number. number ≢ taken)

pub not_taken : {S E : Type 0} (step : E → S → Result S) → NeverZero step → (e : E) (s : S) → NotTaken (step e s)
not_taken {S} step never e s = by (step e s) refl
  where
    by : (x : Result S) → step e s ≡ x → NotTaken x
    by (refuses number) f = never e s number f
    by (gives t) f = tt

-- what goes on from a result that is none
pub onward : {A B : Type 0} (x : Result A) (go : A → Result B) → NotTaken x → ((a : A) → NotTaken (go a)) → NotTaken (on_result x refuses go)
onward (refuses number) go m later = m
onward (gives a) go m later = later a

pair_not_taken : {S E : Type 0} (step : E → S → Result S) → NeverZero step → (selection : Selection) (e : E) (pair : Pair S) → NotTaken (to_selected step selection e pair)
unfolding to_selected
pair_not_taken step never Selection.Left e pair = onward (step e pair.left) _ (not_taken step never e pair.left) (λ l. tt)
pair_not_taken step never Selection.Right e pair = onward (step e pair.right) _ (not_taken step never e pair.right) (λ r. tt)
pair_not_taken step never Selection.Both e pair = onward (step e pair.left) _ (not_taken step never e pair.left) (λ l. onward (step e pair.right) _ (not_taken step never e pair.right) (λ r. tt))

replay_not_taken : (selection : Selection) (recorded : Recorded) (chips : Pair Chip) → NotTaken (replay_on selection recorded chips)
unfolding replay_on
replay_not_taken selection recorded chips =
    chosen NotTaken (are_both selection && reads_data recorded) _ _ (λ e z. omega arith) (λ e. pair_not_taken replay the_chip_never_zero selection recorded chips)

pub step_not_taken : (event : WideEvent) (t : Terminal) → NotTaken (wide_step event t)
unfolding wide_step
step_not_taken (selects selection) t = tt
step_not_taken (happens recorded) t = onward (replay_on t.selection recorded t.chips) _ (replay_not_taken t.selection recorded t.chips) (λ chips. tt)

-- the terminal refuses with no 0
pub terminal_never_zero : NeverZero wide_step
terminal_never_zero event t number e = subst NotTaken e (step_not_taken event t)

-- events for the selected chips are their stretch, and keep the selection
pub happening : (selection : Selection) (events : List Recorded) (chips : Pair Chip) → let s = stretch (replay_on selection) events chips in
    stretch wide_step (map happens events) (terminal chips selection) ≡ stretched (terminal s.state selection) s.count s.number
unfolding stretch wide_step
happening selection [] chips = refl
happening selection (first ∷ rest) chips = by (replay_on selection first chips) (happening selection rest)
  where
    by : (x : Result (Pair Chip)) → ((later : Pair Chip) → let s = stretch (replay_on selection) rest later in stretch wide_step (map happens rest) (terminal later selection) ≡ stretched (terminal s.state selection) s.count s.number)
        → let s = on_result x (λ number. stretched chips 0 number) (λ t. counted_on 1 (stretch (replay_on selection) rest t)) in
        on_result (on_result x refuses (λ t. gives (terminal t selection))) (λ number. stretched (terminal chips selection) 0 number) (λ t. counted_on 1 (stretch wide_step (map happens rest) t)) ≡ stretched (terminal s.state selection) s.count s.number
    by (refuses number) later = refl
    by (gives t) later = rw (later t)
