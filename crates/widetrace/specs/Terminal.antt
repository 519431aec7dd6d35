-- Document 02, Order 4: the wide terminal as a machine that plays traces, a second one beside the chip (trace/specs/Kinds). Its state is two chips and a selection.
use Rattle.std.specs.Prelude.{ℕ, cond, List, [], ◌∷◌, map, eqb}
use Rattle.constants.specs.Numbers.{no_selection}
use Rattle.bus.specs.Chip.{Chip}
use Rattle.trace.specs.Play.{Result, refuses, gives, on_result, Machine}
use Rattle.trace.specs.Kinds.{Recorded, events_of}
use Rattle.widebus.specs.Selection.{selection_of}
use Rattle.widebus.specs.Pair.{Pair}
use Rattle.widebus.specs.Events.{replay_on}
use Rattle.widebus.specs.declared.selection.Selection.{Selection}

pub record Terminal : Type 0 where
  pub chips : Pair Chip
  pub selection : Selection

abbrev pub terminal : Pair Chip → Selection → Terminal
terminal both chosen = record { chips = both; selection = chosen }

-- What a wide trace brings: a selection, or an event for the selected chips.
pub data WideEvent : Type 0 where
  selects : Selection → WideEvent
  happens : Recorded → WideEvent

-- Kind 5, payload one byte: 1 selects left, 2 right, 3 both. Any other payload is refused 13.
unfoldable pub selected_by : List ℕ → Result Selection
selected_by [] = refuses no_selection
selected_by (byte ∷ []) = selection_of byte
selected_by (byte ∷ more ∷ rest) = refuses no_selection

-- The other kinds are those of a narrow trace.
unfoldable pub wide_events_of : ℕ → List ℕ → Result (List WideEvent)
wide_events_of kind payload =
    cond (eqb kind 5) (on_result (selected_by payload) refuses (λ selection. gives (selects selection ∷ [])))
    (on_result (events_of kind payload) refuses (λ events. gives (map happens events)))

-- A selection holds until the next one; the reset pin keeps it, as every event does.
unfoldable pub wide_step : WideEvent → Terminal → Result Terminal
wide_step (selects selection) t = gives (terminal t.chips selection)
wide_step (happens recorded) t = on_result (replay_on t.selection recorded t.chips) refuses (λ chips. gives (terminal chips t.selection))

abbrev pub the_terminal : Machine Terminal WideEvent
the_terminal = record { events = wide_events_of; step = wide_step }
