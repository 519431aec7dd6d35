-- Documents 01 and 02: when a run of the wide terminal gives 3 to 7 and 15, which are the selected chips' own and pass through the run unchanged, and 10. The other numbers are in WideGivenRun. proofs/WideEventGiven.antt proves `WideEventGiven`.
use Rattle.std.specs.Prelude.{ℕ, ◌≡◌, ◌≢◌, ◌↔◌, true, List, ◌∷◌, ◌++◌}
use Rattle.constants.specs.Numbers.{taken}
use Rattle.codes.specs.OneOf.{one_of}
use Rattle.bus.specs.Bytes.{Bytes}
use Rattle.bus.specs.Answer.{Reply}
use Rattle.trace.specs.Records.{split}
use Rattle.trace.specs.Kinds.{Recorded}
use Rattle.trace.specs.OneByOne.{Placed, script_from}
use Rattle.trace.specs.ByCalls.{called_by, meets}
use Rattle.trace.specs.Run.{stop_of}
use Rattle.trace.specs.Given.{run_event_numbers}
use Rattle.widebus.specs.Pair.{Pair, Lent}
use Rattle.widebus.specs.WideCalls.{wide_call}
use Rattle.widebus.specs.declared.selection.Selection.{Selection}
use Rattle.widetrace.specs.Terminal.{WideEvent, happens, the_terminal}
use Rattle.widetrace.specs.WideRun.{WideRan, wide_ran, wide_run}
use Rattle.widetrace.specs.EachChip.{unplaced}
use Rattle.widetrace.specs.WideRunLaws.{BothAccepted, last_selected}
use Rattle.widetrace.specs.WideGivenRun.{WideGivesAt}
use Rattle.widetrace.specs.WideByCalls.{selection_number, wide_by_calls}

-- What the calls of events leave, from a selection on.
abbrev pub after_calls : Selection → List (Placed WideEvent) → Pair Lent → WideRan
after_calls selection events all = wide_by_calls events (stop_of taken 0 0) selection all

-- What the call of one more event then replies, with the selection that stands.
abbrev pub replied_after : Selection → List (Placed WideEvent) → Recorded → Pair Lent → Reply
replied_after selection before recorded all =
    (wide_call (selection_number (last_selected selection (unplaced before))) (called_by recorded) (after_calls selection before all).lent).reply

-- Among events, one is refused at its byte: those before it are taken, and its own call (widebus/specs/WideGiven) meets the number.
pub record RefusedAmong (events : List (Placed WideEvent)) (selection : Selection) (all : Pair Lent) (number offset : ℕ) : Type 0 where
  pub earlier : List (Placed WideEvent)
  pub refused : Placed WideEvent
  pub rest : List (Placed WideEvent)
  pub in_order : events ≡ earlier ++ refused ∷ rest
  pub all_taken : (after_calls selection earlier all).stop.number ≡ taken
  pub recorded : Recorded
  pub event : refused.event ≡ happens recorded
  pub met : meets recorded (replied_after selection earlier recorded all) ≡ number
  pub there : refused.offset ≡ offset

-- Such an event of a trace; a run starts with both selected.
pub record WideEventRefused (all : Pair Lent) (trace : List ℕ) (number offset : ℕ) : Type 0 where
  pub accepted : BothAccepted all
  pub among : RefusedAmong (script_from the_terminal (split trace) 0).events Selection.Both all number offset
  pub not_taken : number ≢ taken

pub record WideEventGiven (all : Pair Lent) (trace : List ℕ) : Type 0 where
  -- 3 to 7, 10 and 15, at the refused byte.
  pub event : Bytes trace → (number offset : ℕ) → one_of run_event_numbers number ≡ true → WideGivesAt (wide_run all trace) number offset ↔ WideEventRefused all trace number offset
  -- The count is of the records before its own, and what the events before it left stands.
  pub event_leaves : Bytes trace → (number offset : ℕ) (h : WideEventRefused all trace number offset) → wide_run all trace ≡ wide_ran (stop_of number offset h.among.refused.before) (after_calls Selection.Both h.among.earlier all).lent
