-- Document 01's sentences on the column, on fresh, on read-modify-write and on E2: the registers that a taken event leaves. CallsOnChip.antt carries them to the calls.
use Rattle.std.specs.Prelude.{ℕ, ◌+◌, ◌<◌, ◌≡◌, List, [], ◌∷◌, length}
use Rattle.bus.specs.Places.{column, modify, saved, fresh}
use Rattle.bus.specs.Registers.{image_of, ◌with◌≔◌}
use Rattle.bus.specs.Memory.{onward}
use Rattle.bus.specs.Events.{silently, command, write, read}
use Rattle.bus.specs.Chip.{Leaves}
use Rattle.bus.specs.declared.registers.Registers.{Registers}

pub record DataMoves (r : Registers) (memory : List ℕ) : Type 0 where
  -- A write sets fresh to 1 and moves the column on.
  pub a_write : Leaves (λ later. later ≡ (r with column ≔ onward r.column with fresh ≔ 1)) (write r (length memory))
  -- The dummy read sets fresh to 0 and moves nothing.
  pub dummy_read : r.fresh ≡ 1 → Leaves (λ later. later ≡ (r with fresh ≔ 0)) (read r memory)
  -- A read with fresh 0 moves the column on,
  pub byte_read : r.fresh ≡ 0 → r.modify ≡ 0 → Leaves (λ later. later ≡ (r with column ≔ onward r.column)) (read r memory)
  -- except in read-modify-write.
  pub modify_read : r.fresh ≡ 0 → r.modify ≡ 1 → Leaves (λ later. later ≡ r) (read r memory)

pub record ReadModifyWrite (r : Registers) : Type 0 where
  -- E0: enter read-modify-write, saving the column;
  pub enters : r.awaited ≡ 0 → r.modify ≡ 0 → command 0xE0 r ≡ silently (r with modify ≔ 1 with saved ≔ r.column with fresh ≔ 1)
  -- no effect if already in it.
  pub in_it_already : r.awaited ≡ 0 → r.modify ≡ 1 → command 0xE0 r ≡ silently (r with fresh ≔ 1)
  -- EE: leave read-modify-write, column := saved, saved := 0; the page stays.
  pub leaves : r.awaited ≡ 0 → r.modify ≡ 1 → command 0xEE r ≡ silently (r with modify ≔ 0 with column ≔ r.saved with saved ≔ 0 with fresh ≔ 1)
  -- no effect outside it.
  pub outside : r.awaited ≡ 0 → r.modify ≡ 0 → command 0xEE r ≡ silently (r with fresh ≔ 1)

pub record Moves : Type 0 where
  pub data_events : (r : Registers) (memory : List ℕ) → DataMoves r memory
  -- After 131 comes 0 of the same page.
  pub further : (c : ℕ) → c < 131 → onward c ≡ c + 1
  pub round : onward 131 ≡ 0
  pub read_modify_write : (r : Registers) → ReadModifyWrite r
  -- E2 sets page, column, start line and row direction to 0, ratio 4, contrast 32, indicator off with mode 0, read-modify-write off with saved column 0; the rest stays.
  pub software_reset : (r : Registers) → r.awaited ≡ 0 → Leaves (λ later. image_of later ≡
      0 ∷ 0 ∷ 0 ∷ r.offset ∷ r.multiplex ∷ 32 ∷ 4 ∷ r.power ∷ r.bias ∷ r.quarter ∷ r.held ∷ r.phases ∷
      r.column_direction ∷ 0 ∷ r.entire ∷ r.reverse ∷ r.on ∷ 0 ∷ 0 ∷ 0 ∷ 0 ∷ 0 ∷ 1 ∷ []) (command 0xE2 r)
