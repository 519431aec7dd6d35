-- Document 01's two readings of a command byte: a command where no code is awaited, and else n.
use Rattle.std.specs.Prelude.{ℕ, ◌≡◌, true, ◌≢◌}
use Rattle.codes.specs.OneOf.{one_of}
use Rattle.codes.specs.Table.{table, command_of, operand_of}
use Rattle.codes.specs.Values.{codes_of}
use Rattle.bus.specs.Places.{awaited, fresh}
use Rattle.bus.specs.Registers.{◌with◌≔◌}
use Rattle.bus.specs.Events.{silently, obeyed, command}
use Rattle.bus.specs.Chip.{Leaves}
use Rattle.bus.specs.declared.registers.Registers.{Registers}

pub record Awaiting (b : ℕ) (r : Registers) : Type 0 where
  -- Where no code is awaited, the byte is a command.
  pub first_byte : r.awaited ≡ 0 → command b r ≡ obeyed (command_of b) r
  -- One that wants n is held as the awaited code and changes nothing else but fresh.
  pub held : r.awaited ≡ 0 → one_of (codes_of table) b ≡ true → command b r ≡ silently (r with awaited ≔ b with fresh ≔ 1)
  -- The next command byte is n, even if it looks like a command.
  pub second_byte : r.awaited ≢ 0 → command b r ≡ obeyed (operand_of r.awaited b) (r with awaited ≔ 0)
  -- Once n is taken the awaited code is 00 again.
  pub none_again : r.awaited ≢ 0 → Leaves (λ later. later.awaited ≡ 0) (command b r)
  -- Every command byte taken sets fresh to 1.
  pub fresh_again : Leaves (λ later. later.fresh ≡ 1) (command b r)
