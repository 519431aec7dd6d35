-- A wide trace's events by the wide terminal's own event calls, one after the other, on what is lent; the select records say which selection each call is given. proofs/WideByCalls.antt proves `WideByCalls` and `OneCall`.
use Rattle.std.specs.Prelude.{ℕ, ◌≡◌, cond, List, [], ◌∷◌, eqb}
use Rattle.constants.specs.Numbers.{taken}
use Rattle.bus.specs.Bytes.{Bytes}
use Rattle.bus.specs.Chip.{Chip, Event}
use Rattle.bus.specs.Result.{refuses, gives}
use Rattle.trace.specs.Records.{split}
use Rattle.trace.specs.Kinds.{Recorded, event}
use Rattle.trace.specs.OneByOne.{Placed, script_from}
use Rattle.trace.specs.ByCalls.{called_by, meets}
use Rattle.trace.specs.Run.{stop_of}
use Rattle.trace.specs.Run.{Stop}
use Rattle.widebus.specs.Pair.{Pair, ◌beside◌, Lent}
use Rattle.widebus.specs.Events.{replay_on}
use Rattle.widebus.specs.WideCalls.{refused_wide, wide_call}
use Rattle.widebus.specs.declared.selection.Selection.{Selection}
use Rattle.widetrace.specs.Terminal.{WideEvent, selects, happens, the_terminal}
use Rattle.widetrace.specs.WideRun.{WideRan, wide_ran, lent_after, wide_run}
use Rattle.widetrace.specs.WideRunLaws.{BothAccepted, terminal_in}

-- The number that a call is given for a selection.
abbrev pub selection_number : Selection → ℕ
selection_number Selection.Left = 1
selection_number Selection.Right = 2
selection_number Selection.Both = 3

-- A selection, or an event.
abbrev pub on_event : {B : Type 0} → WideEvent → (Selection → B) → (Recorded → B) → B
on_event (selects selection) select call = select selection
on_event (happens recorded) select call = call recorded

-- The calls in order, from a selection on, up to the first event that meets a refusal, which leaves all that is lent as it was.
unfoldable pub wide_by_calls : List (Placed WideEvent) → Stop → Selection → Pair Lent → WideRan
wide_by_calls [] stop selection all = wide_ran stop all
wide_by_calls (p ∷ rest) stop selection all =
    on_event p.event (λ next. wide_by_calls rest stop next all)
    (λ recorded.
    let called = wide_call (selection_number selection) (called_by recorded) all in
    let number = meets recorded called.reply in
    cond (eqb number taken) (wide_by_calls rest stop selection called.lent) (wide_ran (stop_of number p.offset p.before) all))

-- All the events of a trace by their calls; a run starts with both selected.
unfoldable pub wide_run_by_calls : Pair Lent → List ℕ → WideRan
wide_run_by_calls all trace =
    let script = script_from the_terminal (split trace) 0 in
    wide_by_calls script.events (stop_of script.number script.offset script.count) Selection.Both all

-- A run is what its events' calls give one by one, up to the first refused one.
pub record WideByCalls (all : Pair Lent) : Type 0 where
  pub by_calls : BothAccepted all → (trace : List ℕ) → Bytes trace → wide_run all trace ≡ wide_run_by_calls all trace

-- The two descriptions of an event for the selected chips are one: the call of it on what is lent (widebus/specs/WideCalls), and what it does to the two chips that are lent (widebus/specs/Events). The byte and the dummy mark of a read are the chip's own (widebus/specs/WideGiven).
pub record OneCall (all : Pair Lent) : Type 0 where
  -- Where the chips refuse it, the call answers their number, and nothing changes.
  pub refused : BothAccepted all → (selection : Selection) (e : Event) (number : ℕ) → replay_on selection (event e) (terminal_in all selection).chips ≡ refuses number → wide_call (selection_number selection) e all ≡ refused_wide number all
  -- Where they take it, it answers 0 and leaves the images of their registers, and their memories.
  pub takes : BothAccepted all → (selection : Selection) (e : Event) (later : Pair Chip) → replay_on selection (event e) (terminal_in all selection).chips ≡ gives later
      → ((wide_call (selection_number selection) e all).reply.number ≡ taken) × ((wide_call (selection_number selection) e all).lent ≡ (lent_after later.left all.left beside lent_after later.right all.right))
