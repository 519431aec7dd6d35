-- One chip of the terminal by itself: what it makes of a wide trace, up to an offset. The chips do not see each other, so that the terminal's run is that of its two sides up to the earlier of their stops (proofs/TwoSides).
use Rattle.std.specs.Prelude.{ℕ, ◌+◌, ◌-◌, cond, ◌&&◌, List, leb, take}
use Rattle.constants.specs.Numbers.{both_selected}
use Rattle.constants.specs.Refusals.{number_met}
use Rattle.constants.specs.Sizes.{header_size}
use Rattle.bus.specs.Chip.{Chip}
use Rattle.trace.specs.Records.{Record, Trace, ended, cut, ◌then◌}
use Rattle.trace.specs.Play.{Result, refuses, gives, on_result, Machine, Played, played}
use Rattle.trace.specs.Kinds.{replay, chip_of}
use Rattle.widebus.specs.Events.{are_both, reads_data}
use Rattle.widebus.specs.declared.selection.Selection.{Selection}
use Rattle.widebus.specs.declared.selection.Side.{Side}
use Rattle.widetrace.specs.Terminal.{WideEvent, selects, happens, wide_events_of}
use Rattle.widetrace.specs.EachChip.{hears}
use Rattle.widetrace.specs.declared.side.SidePlayed.{SidePlayed}

-- A chip, and what is selected.
pub record OneSide : Type 0 where
  pub chip : Chip
  pub selection : Selection

abbrev pub one_side : Chip → Selection → OneSide
one_side one chosen = record { chip = one; selection = chosen }

-- A selection holds for both sides; an event is for the chip that is selected, and a read with both selected is refused 14.
unfoldable pub side_step : Side → WideEvent → OneSide → Result OneSide
side_step side (selects selection) t = gives (one_side t.chip selection)
side_step side (happens recorded) t =
    cond (are_both t.selection && reads_data recorded) (refuses both_selected)
    (cond (hears side t.selection) (on_result (replay recorded t.chip) refuses (λ chip. gives (one_side chip t.selection))) (gives t))

abbrev pub the_side : Side → Machine OneSide WideEvent
the_side side = record { events = wide_events_of; step = side_step side }

-- A record as far as an offset of the trace: the bytes of its payload before it.
abbrev pub shortened : ℕ → Record → Record
shortened limit r = record { kind = r.kind; payload = take (limit - (r.place + header_size)) r.payload; place = r.place }

-- A trace as far as an offset.
unfoldable pub up_to : ℕ → Trace → Trace
up_to limit (ended offset) = ended offset
up_to limit (cut offset) = cond (leb limit offset) (ended offset) (cut offset)
up_to limit (r then rest) = cond (leb limit r.place) (ended r.place) (shortened limit r then up_to limit rest)

-- A played trace, with the memory that is left beside it.
unfoldable pub side_played_of : SidePlayed → List ℕ → Played OneSide
side_played_of p memory = played (number_met p.stop.outcome) p.stop.offset p.stop.count (one_side (chip_of p.registers memory) p.selection)

-- So many bytes of a payload that begins at an offset lie before a limit.
unfoldable pub size_before : ℕ → ℕ → ℕ → ℕ
size_before limit from size = cond (leb size (limit - from)) size (limit - from)
