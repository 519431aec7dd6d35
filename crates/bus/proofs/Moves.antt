-- The registers that a taken event leaves: the column, fresh, read-modify-write and E2.
-- Assumes nothing.
use mathlib.Core.Path.{◌≡◌, refl}
use mathlib.Core.Bool.{cond}
use mathlib.Core.List.{List}
use Prim.Native.Nat.{ℕ, ◌+◌, ◌<◌}
use native.Mathlib.Omega.{arith}
use borrow.Author.Tests.{ne_eqb}
use lib.Dec.{eqb}
use lib.ListN.{length}
use Rattle.codes.specs.Table.{table, command_by, command_of, meaning_of}
use Rattle.codes.proofs.Tests.{chosen}
use Rattle.constants.specs.Sizes.{last_column}
use Rattle.constants.specs.Numbers.{taken}
use Rattle.bus.specs.Registers.{◌with◌≔◌}
use Rattle.bus.specs.Memory.{onward}
use Rattle.bus.specs.Places.{column, fresh}
use Rattle.bus.specs.Events.{silently, obeyed, command, access, moved, write, dummy_read, byte_read, read}
use Rattle.bus.specs.Chip.{Leaves}
use Rattle.bus.specs.Moves.{DataMoves, ReadModifyWrite, Moves}
use Rattle.bus.specs.declared.registers.Registers.{Registers}
use Rattle.bus.specs.Answer.{Answer}

module _ (r : Registers) (memory : List ℕ) where
  -- what a taken read or write leaves, where a refused one leaves nothing
  tested : (P : Registers → Type 0) (answer : Answer) → Leaves P answer → Leaves P (cond (eqb (access r (length memory)) taken) answer (Answer.Refused (access r (length memory))))
  tested P answer l = chosen (Leaves P) (eqb (access r (length memory)) taken) answer (Answer.Refused (access r (length memory))) (λ e. l) (λ e. tt)

  abbrev any_read : Answer
  any_read = cond (eqb r.fresh 1) (dummy_read r) (byte_read r memory)

  data_moves : DataMoves r memory
  unfolding write read
  data_moves = record {
    a_write = tested (λ later. later ≡ (r with column ≔ onward r.column with fresh ≔ 1)) (silently (moved r with fresh ≔ 1)) refl;
    dummy_read = λ f. tested (λ later. later ≡ (r with fresh ≔ 0)) any_read (rw f refl);
    byte_read = λ f m. tested (λ later. later ≡ (r with column ≔ onward r.column)) any_read (rw (f, m) refl);
    modify_read = λ f m. tested (λ later. later ≡ r) any_read (rw (f, m) refl);
  }

module _ (r : Registers) where
  read_modify_write : ReadModifyWrite r
  unfolding command meaning_of command_of command_by table obeyed
  read_modify_write = record {
    enters = λ a m. rw (a, m);
    in_it_already = λ a m. rw (a, m);
    leaves = λ a m. rw (a, m);
    outside = λ a m. rw (a, m);
  }

further : (c : ℕ) → c < 131 → onward c ≡ c + 1
unfolding onward
further c l = rw (ne_eqb c last_column (λ e. omega arith))

round : onward 131 ≡ 0
unfolding onward
round = refl

pub moves : Moves
unfolding command meaning_of command_of command_by table obeyed
moves = record {
  data_events = data_moves;
  further = further;
  round = round;
  read_modify_write = read_modify_write;
  software_reset = λ r a. rw a refl;
}
