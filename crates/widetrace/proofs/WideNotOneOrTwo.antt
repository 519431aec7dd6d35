-- A run on what is accepted meets neither 1 nor 2, whatever numbers the trace holds: the awaited code of either chip stays one of the seven and its page one of the nine.
-- Assumes nothing.
use mathlib.Core.Path.{◌≡◌, refl, ap, subst}
use mathlib.Core.Logic.{◌⊎◌, inl, inr}
use mathlib.Core.List.{List, [], ◌∷◌}
use Prim.Native.Nat.{ℕ, ◌+◌}
use native.Mathlib.Omega.{arith}
use lib.ListN.{take}
use Rattle.constants.specs.Numbers.{kind_unknown, no_selection}
use Rattle.constants.specs.Sizes.{header_size}
use Rattle.bus.specs.Bytes.{All}
use Rattle.bus.proofs.Legal.{long}
use Rattle.bus.proofs.Replies.{Neither}
use Rattle.trace.specs.Play.{Played, play_events, done}
use Rattle.trace.specs.AnyMachine.{Reached, EndsAs, all_taken, header_is_cut, header_refused, event_refused}
use Rattle.trace.proofs.AnyMachine.{any_machine}
use Rattle.trace.proofs.PlayedKeeps.{Leaves, all_any, events_keep}
use Rattle.trace.proofs.ChipKeeps.{Anything, brings_any}
use Rattle.trace.proofs.ChipNotOneOrTwo.{Addressing, legal_addressed, replay_addressed, replay_neither}
use Rattle.trace.proofs.ChipRefusals.{Refusing}
use Rattle.widebus.specs.Pair.{Pair, Lent, at}
use Rattle.widebus.specs.declared.selection.Selection.{Selection}
use Rattle.widebus.specs.declared.selection.Side.{Side}
use Rattle.widetrace.specs.Terminal.{Terminal, WideEvent, selects, happens, wide_step, the_terminal}
use Rattle.widetrace.specs.WideRunLaws.{BothAccepted, terminal_in}
use Rattle.widetrace.proofs.TerminalHeaders.{refused_header}
use Rattle.widetrace.proofs.TerminalRefusals.{refusing}
use Rattle.widetrace.proofs.TerminalHeard.{WideBrings, wide_brings, step_keeps}
use Rattle.widetrace.proofs.WideRunOnLent.{plays, accepted_on}
use Rattle.widetrace.proofs.WideRunLaws.{terminal_as_machine, at_start}

step_neither : (event : WideEvent) (t : Terminal) → ((side : Side) → Addressing (at side t.chips)) → Refusing Neither (wide_step event t)
unfolding wide_step
step_neither (selects selection) t h = tt
step_neither (happens recorded) t h = refusing Neither recorded t (λ side. replay_neither recorded (at side t.chips) (h side)) (λ e. refl)

header_neither : {A B : Type 0} {number : ℕ} → ((number ≡ no_selection) × A) ⊎ ((number ≡ kind_unknown) × B) → Neither number
header_neither (inl h) = rw h.0 refl
header_neither (inr h) = rw h.0 refl

all_anything : (events : List WideEvent) → All (WideBrings Anything) events
all_anything [] = tt
all_anything (selects selection ∷ rest) = (tt, all_anything rest)
all_anything (happens recorded ∷ rest) = (tt, all_anything rest)

module _ (all : Pair Lent) (ok : BothAccepted all) (trace : List ℕ) where
  abbrev On : Side → Terminal → Type 0
  On side t = Addressing (at side t.chips)

  start_addressed : (side : Side) → On side (terminal_in all Selection.Both)
  start_addressed side = let h = at_start all ok side in record { addressed = legal_addressed _ h.registers; long = omega (arith, h.size, (long _ _ (accepted_on all side ok).long_enough).1) }

  -- where a header is reached, and where an event of its record is
  at_header : {place count : ℕ} {t : Terminal} → Reached the_terminal trace (terminal_in all Selection.Both) place count t → (side : Side) → On side t
  at_header {place} r side =
      subst (On side) (ap (λ (p : Played Terminal). p.state) r)
      ((any_machine the_terminal).kept _ (On side) (WideBrings Anything) (wide_brings _ Anything brings_any) (step_keeps Addressing Anything (λ recorded c q h. replay_addressed recorded c h) side) (take place trace) (terminal_in all Selection.Both) (all_any (take place trace)) (start_addressed side))

  at_event : (before : List WideEvent) (offset : ℕ) (t u : Terminal) → play_events the_terminal before offset t ≡ done u → (side : Side) → On side t → On side u
  at_event before offset t u d side h =
      subst (Leaves (On side)) d
      (events_keep the_terminal (λ (b : ℕ). Unit {0}) (On side) (WideBrings Anything) (wide_brings _ Anything brings_any) (step_keeps Addressing Anything (λ recorded c q h. replay_addressed recorded c h) side) before offset t (all_anything before) h)

  ends_neither : {p : Played Terminal} → EndsAs the_terminal trace (terminal_in all Selection.Both) p → Neither p.number
  ends_neither (all_taken count t r) = refl
  ends_neither (header_is_cut place count t r c) = refl
  ends_neither (header_refused place count number t r w f) = header_neither (refused_header _ _ number f)
  ends_neither (event_refused place count number t u before event rest r w f d s) = subst (Refusing Neither) s (step_neither event u (λ side. at_event before (place + header_size) t u d side (at_header r side)))

  pub neither : Neither (plays all trace).number
  neither = ends_neither (((any_machine the_terminal).ends terminal_as_machine.sound trace (terminal_in all Selection.Both) _).0 refl)
