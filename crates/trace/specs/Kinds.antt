-- The chip as a machine that plays traces: the kinds of records, and the events that their payloads stand for.
use Rattle.std.specs.Prelude.{ℕ, cond, ◌&&◌, List, [], ◌∷◌, map, eqb, length}
use Rattle.constants.specs.Numbers.{kind_unknown}
use Rattle.bus.specs.Chip.{Chip, reset_pulse}
pub use Rattle.bus.specs.Recorded.{Recorded, event, read_as, recorded_command, recorded_write, chip_of}
unfoldable pub use Rattle.bus.specs.Recorded.{happened, compared, replay}
use Rattle.trace.specs.Play.{Result, refuses, gives, Machine}

-- Kind 1: command bytes. Kind 2: data written. Kind 3: bytes read. Kind 4: reset pin, length 0. Any other is refused 9.
unfoldable pub events_of : ℕ → List ℕ → Result (List Recorded)
events_of kind payload =
    cond (eqb kind 1) (gives (map recorded_command payload))
    (cond (eqb kind 2) (gives (map recorded_write payload))
    (cond (eqb kind 3) (gives (map read_as payload))
    (cond (eqb kind 4 && eqb (length payload) 0) (gives (event reset_pulse ∷ []))
    (refuses kind_unknown))))

abbrev pub the_chip : Machine Chip Recorded
the_chip = record { events = events_of; step = replay }
