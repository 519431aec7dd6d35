-- Document 02, Order 4: what a run of the wide terminal does as a whole. proofs/WideRunLaws.antt proves `WideRunLaws` and `TerminalAsMachine`.
use Rattle.std.specs.Prelude.{ℕ, ◌+◌, ◌≡◌, List, [], ◌∷◌, ◌++◌, length, drop}
use Rattle.constants.specs.Numbers.{taken}
use Rattle.constants.specs.Sizes.{image_size, memory_size}
use Rattle.bus.specs.Bytes.{Bytes}
use Rattle.bus.specs.CallsOnChip.{chip_in}
use Rattle.bus.specs.Image.{Accepted}
use Rattle.bus.specs.Stretch.{stretch}
use Rattle.trace.specs.Records.{split, records_in}
use Rattle.trace.specs.Play.{refuses, played, play}
use Rattle.trace.specs.AnyMachine.{Sound, AnyMachine}
use Rattle.trace.specs.OneByOne.{Placed, script_from, one_by_one}
use Rattle.trace.specs.Run.{stop_of}
use Rattle.trace.specs.Run.{Stop}
use Rattle.widebus.specs.Pair.{Pair, ◌beside◌, Lent, at}
use Rattle.widebus.specs.Asked.{asked_both}
use Rattle.widebus.specs.Asked.{BothAsked}
use Rattle.widebus.specs.declared.selection.Selection.{Selection}
use Rattle.widebus.specs.declared.selection.Side.{Side}
use Rattle.widetrace.specs.Terminal.{Terminal, terminal, WideEvent, selects, happens, wide_step, the_terminal}
use Rattle.widetrace.specs.WideRun.{WideRan, wide_ran, wide_ran_of, wide_run}
use Rattle.widetrace.specs.EachChip.{unplaced}

-- 1 and 2 refuse neither chip's state and memory.
abbrev pub BothAccepted : Pair Lent → Type 0
BothAccepted all = Accepted all.left.state all.left.memory × Accepted all.right.state all.right.memory

-- The terminal that is lent, with a selection.
abbrev pub terminal_in : Pair Lent → Selection → Terminal
terminal_in all chosen = terminal (chip_in all.left.state all.left.memory beside chip_in all.right.state all.right.memory) chosen

-- A trace run on what is lent as if a selection went before it.
abbrev pub wide_run_from : Selection → Pair Lent → List ℕ → WideRan
wide_run_from chosen all trace = wide_ran_of (play the_terminal (split trace) (terminal_in all chosen)) all

-- The selection that a run on what is lent ends with.
abbrev pub selected_after : Pair Lent → List ℕ → Selection
selected_after all trace = (play the_terminal (split trace) (terminal_in all Selection.Both)).state.selection

-- The last selection among events, or the one before them.
unfoldable pub last_selected : Selection → List WideEvent → Selection
last_selected selection [] = selection
last_selected selection (selects next ∷ rest) = last_selected next rest
last_selected selection (happens recorded ∷ rest) = last_selected selection rest

-- A run's outcome with the offset and the count of another before it added.
abbrev pub wide_further : Stop → WideRan → WideRan
wide_further before r = wide_ran (stop_of r.stop.number (before.offset + r.stop.offset) (before.count + r.stop.count)) r.lent

pub record WideRunLaws (all : Pair Lent) : Type 0 where
  -- A run is what the terminal's steps give one by one from the two chips that are lent, with both selected, up to the first refused one; the images of what is left are stored.
  pub by_steps : BothAccepted all → (trace : List ℕ) → wide_run all trace ≡ wide_ran_of (one_by_one the_terminal (script_from the_terminal (split trace) 0) (terminal_in all Selection.Both)) all
  -- Demand 1: a run stops at its first refused event, at its byte and with the count of the records before its own. The event has changed neither chip: what the events before it left stands.
  pub first_refused : BothAccepted all → (trace : List ℕ) (before : List (Placed WideEvent)) (p : Placed WideEvent) (rest : List (Placed WideEvent)) (number : ℕ)
      → (script_from the_terminal (split trace) 0).events ≡ before ++ p ∷ rest → let early = stretch wide_step (unplaced before) (terminal_in all Selection.Both) in early.number ≡ taken
      → wide_step p.event early.state ≡ refuses number → wide_run all trace ≡ wide_ran_of (played number p.offset p.before early.state) all
  -- An empty trace is taken, with offset 0, count 0 and nothing changed.
  pub empty : BothAccepted all → wide_run all [] ≡ wide_ran (stop_of taken 0 0) all
  -- 1 and 2 come with offset 0 and count 0, and nothing changes.
  pub refused : (trace : List ℕ) (number : ℕ) → asked_both all ≡ BothAsked.Refused number → wide_run all trace ≡ wide_ran (stop_of number 0 0) all
  -- Where all is taken, the offset is the trace's length and the count is of all its records.
  pub whole : (trace : List ℕ) → (wide_run all trace).stop.number ≡ taken → ((wide_run all trace).stop.offset ≡ length trace) × ((wide_run all trace).stop.count ≡ records_in (split trace))
  -- Whole records followed by more: where `a` is taken, `a ++ b` is `a`, then `b` from what it left and what it had selected, with offset and count added.
  pub joined : (a b : List ℕ) → Bytes a → (wide_run all a).stop.number ≡ taken → wide_run all (a ++ b) ≡ wide_further (wide_run all a).stop (wide_run_from (selected_after all a) (wide_run all a).lent b)
  -- Where it also ends with both selected, that is a second run: each run starts with both.
  pub two_runs : (a b : List ℕ) → Bytes a → (wide_run all a).stop.number ≡ taken → selected_after all a ≡ Selection.Both → wide_run all (a ++ b) ≡ wide_further (wide_run all a).stop (wide_run (wide_run all a).lent b)
  -- A selection holds until the next one: where all is taken, the last of the trace's selections stands, and both where it has none.
  pub selected : (trace : List ℕ) → (wide_run all trace).stop.number ≡ taken → selected_after all trace ≡ last_selected Selection.Both (unplaced (script_from the_terminal (split trace) 0).events)
  -- Legal images stay legal.
  pub stays_legal : BothAccepted all → (trace : List ℕ) → Bytes trace → BothAccepted (wide_run all trace).lent
  -- Of either chip: bytes past the needed lengths never change, and the lengths stay.
  pub state_past : (trace : List ℕ) (side : Side) → drop image_size (at side (wide_run all trace).lent).state ≡ drop image_size (at side all).state
  pub memory_past : (trace : List ℕ) (side : Side) → drop memory_size (at side (wide_run all trace).lent).memory ≡ drop memory_size (at side all).memory
  pub state_length : (trace : List ℕ) (side : Side) → length (at side (wide_run all trace).lent).state ≡ length (at side all).state
  pub memory_length : (trace : List ℕ) (side : Side) → length (at side (wide_run all trace).lent).memory ≡ length (at side all).memory

-- The terminal is a machine that refuses with no 0, so that all of trace/specs/AnyMachine holds of it.
pub record TerminalAsMachine : Type 1 where
  pub sound : Sound the_terminal
  pub laws : AnyMachine the_terminal
