-- Document 02, Order 4: "An event for one chip alone changes nothing of the other, its refused events included", in a run too; and "the reset pin keeps the selection". proofs/OneChipAlone.antt proves `OneChipAlone`.
use Rattle.std.specs.Prelude.{ℕ, ◌≡◌, cond, List, [], ◌∷◌, map}
use Rattle.bus.specs.Chip.{Chip, reset_pulse}
use Rattle.bus.specs.Registers.{power_on}
use Rattle.bus.specs.Stretch.{stretched, stretch}
use Rattle.trace.specs.Play.{refuses, gives, stopped, play_events}
use Rattle.trace.specs.Kinds.{Recorded, event, chip_of, replay}
use Rattle.widebus.specs.Pair.{Pair, ◌beside◌, Lent, at}
use Rattle.widebus.specs.declared.selection.Selection.{Selection}
use Rattle.widebus.specs.declared.selection.Side.{Side}
use Rattle.widetrace.specs.Terminal.{Terminal, terminal, WideEvent, happens, wide_step, the_terminal}
use Rattle.widetrace.specs.WideRun.{wide_run}
use Rattle.widetrace.specs.EachChip.{hears, heard_by, heard_in}

-- The selection of the chip on a side alone.
abbrev pub alone : Side → Selection
alone Side.Left = Selection.Left
alone Side.Right = Selection.Right

-- A pair with another one on a side.
abbrev pub with_on : {S : Type 0} → Side → S → Pair S → Pair S
with_on Side.Left one pair = one beside pair.right
with_on Side.Right one pair = pair.left beside one

-- A chip after a pulse on the reset pin, where it is selected.
abbrev pub after_pulse : Side → Selection → Pair Chip → Chip
after_pulse side selection chips = cond (hears side selection) (chip_of power_on (at side chips).memory) (at side chips)

pub record OneChipAlone : Type 0 where
  -- While one chip alone is selected, events are what they are to the model of one chip: its chip, its count and its number, refusals included; the other chip and the selection stay.
  pub as_alone : (side : Side) (events : List Recorded) (chips : Pair Chip) → let s = stretch replay events (at side chips) in
      stretch wide_step (map happens events) (terminal chips (alone side)) ≡ stretched (terminal (with_on side s.state chips) (alone side)) s.count s.number
  -- Any events, selections among them: a chip that was selected for none is as it was, whether all are taken or one is refused.
  pub not_heard : (side : Side) (events : List WideEvent) (t : Terminal) → heard_by side t.selection events ≡ [] → at side (stretch wide_step events t).state.chips ≡ at side t.chips
  -- So in a run, however it ends: a chip that was selected for no event of the trace keeps its state and its memory.
  pub not_heard_in_run : (side : Side) (all : Pair Lent) (trace : List ℕ) → heard_in side trace ≡ [] → at side (wide_run all trace).lent ≡ at side all
  -- A refused event changes neither chip and keeps the selection, and a record stops there.
  pub refused : (first : WideEvent) (rest : List WideEvent) (offset number : ℕ) (t : Terminal) → wide_step first t ≡ refuses number → play_events the_terminal (first ∷ rest) offset t ≡ stopped number offset t
  -- An event that is taken keeps the selection.
  pub keeps : (recorded : Recorded) (t later : Terminal) → wide_step (happens recorded) t ≡ gives later → later.selection ≡ t.selection
  -- So does the reset pin, which is always taken and resets the selected chips alone.
  pub reset_pin : (t : Terminal) → wide_step (happens (event reset_pulse)) t ≡ gives (terminal (after_pulse Side.Left t.selection t.chips beside after_pulse Side.Right t.selection t.chips) t.selection)
