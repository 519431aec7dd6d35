-- Document 02, Order 4: "Demand 2 reads for each chip over the events it was selected for, in a run with no refusal". proofs/EachChip.antt proves `EachChip`.
use Rattle.std.specs.Prelude.{ℕ, ◌≡◌, Bool, true, false, cond, List, [], ◌∷◌, map, length}
use Rattle.constants.specs.Numbers.{taken}
use Rattle.bus.specs.Chip.{reset_pulse}
use Rattle.bus.specs.CallsOnChip.{chip_in}
use Rattle.bus.specs.Stretch.{stretched, stretch}
use Rattle.trace.specs.Records.{split}
use Rattle.trace.specs.Kinds.{Recorded, event, recorded_command, replay, the_chip}
use Rattle.trace.specs.OneByOne.{Placed, script_from}
use Rattle.trace.specs.Run.{run}
use Rattle.widebus.specs.Pair.{Pair, Lent, lent, at}
use Rattle.widebus.specs.declared.selection.Selection.{Selection}
use Rattle.widebus.specs.declared.selection.Side.{Side}
use Rattle.widetrace.specs.Terminal.{Terminal, WideEvent, selects, happens, wide_step, the_terminal}
use Rattle.widetrace.specs.WideRun.{lent_after, wide_run}

-- The chip on a side is selected.
abbrev pub hears : Side → Selection → Bool
hears Side.Left Selection.Left = true
hears Side.Left Selection.Right = false
hears Side.Left Selection.Both = true
hears Side.Right Selection.Left = false
hears Side.Right Selection.Right = true
hears Side.Right Selection.Both = true

-- The events that the chip on a side was selected for, in order, from a selection on; each selection holds until the next.
unfoldable pub heard_by : Side → Selection → List WideEvent → List Recorded
heard_by side selection [] = []
heard_by side selection (selects next ∷ rest) = heard_by side next rest
heard_by side selection (happens recorded ∷ rest) = let later = heard_by side selection rest in cond (hears side selection) (recorded ∷ later) later

-- The events of a placed list, in order.
abbrev pub unplaced : {E : Type 0} → List (Placed E) → List E
unplaced {E} list = map (λ (p : Placed E). p.event) list

-- Those of a wide trace that the chip on a side was selected for; a run starts with both.
abbrev pub heard_in : Side → List ℕ → List Recorded
heard_in side trace = heard_by side Selection.Both (unplaced (script_from the_terminal (split trace) 0).events)

-- A trace: A5, left selected, AF and AE, right selected, A6, both selected, the reset pin.
abbrev pub sample_trace : List ℕ
sample_trace =
    1 ∷ 0 ∷ 1 ∷ 0 ∷ 0xA5 ∷ 1 ∷ 0 ∷ 5 ∷ 0 ∷ 1 ∷ 2 ∷ 0 ∷ 1 ∷ 0 ∷ 0xAF ∷ 0xAE ∷ 1 ∷ 0 ∷ 5 ∷ 0 ∷ 2 ∷
    1 ∷ 0 ∷ 1 ∷ 0 ∷ 0xA6 ∷ 1 ∷ 0 ∷ 5 ∷ 0 ∷ 3 ∷ 0 ∷ 0 ∷ 4 ∷ 0 ∷ []

pub record EachChip : Type 0 where
  -- Events on any two chips, none of them refused: each chip takes exactly the events it was selected for, and ends as the model of one chip does over them, reads included.
  pub over_events : (events : List WideEvent) (t : Terminal) → (stretch wide_step events t).number ≡ taken → (side : Side) → let heard = heard_by side t.selection events in
      stretch replay heard (at side t.chips) ≡ stretched (at side (stretch wide_step events t).state.chips) (length heard) taken
  -- A run with no refusal: each chip takes exactly the events it was selected for, and the image and the memory that are left are those of the model of one chip over them.
  pub in_run : (all : Pair Lent) (trace : List ℕ) → (wide_run all trace).stop.number ≡ taken → (side : Side) → let model = stretch replay (heard_in side trace) (chip_in (at side all).state (at side all).memory) in
      (model.number ≡ taken) × (model.count ≡ length (heard_in side trace)) × (at side (wide_run all trace).lent ≡ lent_after model.state (at side all))
  -- A trace of one chip with just those events, all its headers being taken, runs on that chip's state and memory without a refusal, and leaves what the wide run left of them.
  pub as_one_run : (all : Pair Lent) (trace : List ℕ) → (wide_run all trace).stop.number ≡ taken → (side : Side) (narrow : List ℕ) → let script = script_from the_chip (split narrow) 0 in
      script.number ≡ taken → unplaced script.events ≡ heard_in side trace → let ran = run (at side all).state (at side all).memory narrow in
      (ran.stop.number ≡ taken) × (at side (wide_run all trace).lent ≡ lent ran.state ran.memory)
  -- What each chip of the sample trace was selected for.
  pub sample_left : heard_in Side.Left sample_trace ≡ recorded_command 0xA5 ∷ recorded_command 0xAF ∷ recorded_command 0xAE ∷ event reset_pulse ∷ []
  pub sample_right : heard_in Side.Right sample_trace ≡ recorded_command 0xA5 ∷ recorded_command 0xA6 ∷ event reset_pulse ∷ []
