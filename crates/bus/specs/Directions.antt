-- The two directions are for drawing alone: chips that differ in them and in nothing else meet every event alike. So an event's call after either start does, and a trace (trace/specs/EitherStart).
use Rattle.std.specs.Prelude.{ℕ, ◌≡◌, ◌↔◌, ◌≢◌, false, List, get_or}
use Rattle.codes.specs.Table.{meaning_of}
use Rattle.codes.specs.declared.Command.{Command}
use Rattle.bus.specs.Places.{column_direction, row_direction}
use Rattle.bus.specs.Registers.{image_of, ◌with◌≔◌}
use Rattle.bus.specs.Events.{command}
use Rattle.bus.specs.Chip.{Chip, Event, Leaves, step, registers_after}
use Rattle.bus.specs.Image.{short}
use Rattle.bus.specs.Start.{start_of}
use Rattle.bus.specs.Calls.{reply_of, call}
use Rattle.bus.specs.Recorded.{Recorded, replay}
use Rattle.bus.specs.Result.{Matches}
use Rattle.bus.specs.Bytes.{All, IsByte}
use Rattle.bus.specs.CallsOnChip.{Lent, chip_in, after_calls}
use Rattle.bus.specs.declared.registers.Registers.{Registers}
use Rattle.bus.specs.declared.start.Hung.{Hung}

-- The registers with both directions normal.
abbrev pub undirected : Registers → Registers
undirected r = r with column_direction ≔ 0 with row_direction ≔ 0

-- The same registers but for the directions.
abbrev pub SameButDirections : Registers → Registers → Type 0
SameButDirections r s = undirected r ≡ undirected s

-- Chips with one memory, the same but for the directions.
abbrev pub SameChips : Chip → Chip → Type 0
SameChips c d = (c.memory ≡ d.memory) × SameButDirections c.registers d.registers

-- The registers after an event.
abbrev pub after : Event → Registers → List ℕ → Registers
after event r memory = registers_after (step event r memory).answer r

-- What events leave, call by call, after the start as the module hangs.
abbrev pub from_start : Hung → List Event → List ℕ → List ℕ → Lent
from_start hung events state memory = after_calls events (start_of hung state memory).state (start_of hung state memory).memory

-- Of registers that are the same but for the directions.
pub record SameAnswers (r s : Registers) : Type 0 where
  -- Every event has one reply, number, byte and dummy mark, from both,
  pub replies : (event : Event) (memory : List ℕ) → reply_of (step event r memory).answer ≡ reply_of (step event s memory).answer
  -- leaves one memory,
  pub stores : (event : Event) (memory : List ℕ) → (step event r memory).memory ≡ (step event s memory).memory
  -- and registers that are the same but for the directions.
  pub leaves : (event : Event) (memory : List ℕ) → SameButDirections (after event r memory) (after event s memory)
  -- A direction that is the same in both stays so.
  pub columns_stay : r.column_direction ≡ s.column_direction → (event : Event) (memory : List ℕ) → (after event r memory).column_direction ≡ (after event s memory).column_direction
  pub rows_stay : r.row_direction ≡ s.row_direction → (event : Event) (memory : List ℕ) → (after event r memory).row_direction ≡ (after event s memory).row_direction
  -- With the directions the same they are the same.
  pub the_same : r.column_direction ≡ s.column_direction → r.row_direction ≡ s.row_direction → r ≡ s

pub record Directions : Type 0 where
  -- Registers are so exactly when their images agree at every place but the two.
  pub meaning : (r s : Registers) → SameButDirections r s ↔ ((place : ℕ) → place ≢ column_direction → place ≢ row_direction → get_or (image_of r) place 0 ≡ get_or (image_of s) place 0)
  -- They meet every event alike,
  pub alike : (r s : Registers) → SameButDirections r s → SameAnswers r s
  -- and what was recorded, compared reads too.
  pub recorded : (what : Recorded) (c d : Chip) → SameChips c d → Matches SameChips (replay what c) (replay what d)
  -- A command that names a direction sets it, whatever it was: nothing is left of a difference there. After the reset pin nothing is left of either (TheStart `the_pin`).
  pub columns_set : (r : Registers) (b value : ℕ) → meaning_of r.awaited b ≡ Command.ColumnDirection value → Leaves (λ later. later.column_direction ≡ value) (command b r)
  pub rows_set : (r : Registers) (b value : ℕ) → meaning_of r.awaited b ≡ Command.RowDirection value → Leaves (λ later. later.row_direction ≡ value) (command b r)
  -- Calls after either start leave one memory, and registers that are the same but for the directions,
  pub calls : (events : List Event) (state memory : List ℕ) → All IsByte events → short state memory ≡ false → let new = from_start Hung.UpsideDown events state memory in let old = from_start Hung.Upright events state memory in
      SameChips (chip_in new.state new.memory) (chip_in old.state old.memory)
  -- and the next call has one reply.
  pub next_call : (events : List Event) (event : Event) (state memory : List ℕ) → All IsByte events → short state memory ≡ false → let new = from_start Hung.UpsideDown events state memory in let old = from_start Hung.Upright events state memory in
      (call event new.state new.memory).reply ≡ (call event old.state old.memory).reply
