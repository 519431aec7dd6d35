-- Document 01's two readings of a command byte: a command where no code is awaited, and else n, after which the awaited code is 00 again.
-- Assumes nothing.
use mathlib.Core.Path.{◌≡◌, refl, sym, ◌∙◌, ap}
use mathlib.Core.Bool.{true}
use mathlib.Core.Logic.{◌≢◌}
use mathlib.Core.List.{List, [], ◌∷◌}
use Prim.Native.Nat.{ℕ}
use lib.Dec.{leb, eqb}
use borrow.Author.Tests.{eq-eqb, ne_eqb}
use Rattle.codes.specs.OneOf.{one_of}
use Rattle.codes.specs.Table.{Row, one, two, table, offset_of, frame_phases_of, command_by, operand_by, meaning_of, command_of, operand_of}
use Rattle.codes.specs.Values.{codes_of}
use Rattle.codes.specs.declared.Command.{Command}
use Rattle.codes.proofs.Tests.{chosen, one_of_each}
use Rattle.bus.specs.Places.{awaited, fresh}
use Rattle.bus.specs.Registers.{◌with◌≔◌}
use Rattle.bus.specs.Events.{silently, obeyed, command}
use Rattle.bus.specs.Chip.{Leaves}
use Rattle.bus.specs.Awaiting.{Awaiting}
use Rattle.bus.specs.declared.registers.Registers.{Registers}
use Rattle.bus.proofs.Answers.{command_fresh}

-- where no code is awaited, the byte is a command
first_byte : (b : ℕ) (r : Registers) → r.awaited ≡ 0 → command b r ≡ obeyed (command_of b) r
unfolding command meaning_of
first_byte b r e = rw (eq-eqb _ _ e) (ap (λ code. obeyed (command_of b) (r with awaited ≔ code)) (sym e))

-- a code that wants n is awaited
awaits : (b : ℕ) → one_of (codes_of table) b ≡ true → command_of b ≡ Command.Await b
unfolding codes_of command_of command_by table
awaits b h = one_of_each (λ b. command_of b ≡ Command.Await b) (codes_of table) b (refl, (refl, (refl, (refl, (refl, (refl, tt)))))) h

held : (b : ℕ) (r : Registers) → r.awaited ≡ 0 → one_of (codes_of table) b ≡ true → command b r ≡ silently (r with awaited ≔ b with fresh ≔ 1)
unfolding obeyed
held b r e h = first_byte b r e ∙ ap (λ named. obeyed named r) (awaits b h)

-- where a code is awaited, the byte is its n
second_byte : (b : ℕ) (r : Registers) → r.awaited ≢ 0 → command b r ≡ obeyed (operand_of r.awaited b) (r with awaited ≔ 0)
unfolding command meaning_of
second_byte b r e = rw (ne_eqb _ _ e)

-- what holds of each n that a row gives, and of none, holds of what the rows give
abbrev EachN : (Command → Type 0) → List Row → ℕ → Type 0
EachN P [] n = P Command.NotAwaited
EachN P (one first last means ∷ rows) n = EachN P rows n
EachN P (two code gives ∷ rows) n = P (gives n) × EachN P rows n

by_rows : (P : Command → Type 0) (rows : List Row) (code n : ℕ) → EachN P rows n → P (operand_by rows code n)
unfolding operand_by
by_rows P [] code n p = p
by_rows P (one first last means ∷ rows) code n p = by_rows P rows code n p
by_rows P (two awaited gives ∷ rows) code n p = chosen P (eqb code awaited) _ _ (λ e. p.0) (λ e. by_rows P rows code n p.1)

none_again : (code n : ℕ) (r : Registers) → Leaves (λ later. later.awaited ≡ 0) (obeyed (operand_of code n) (r with awaited ≔ 0))
unfolding obeyed operand_of table offset_of frame_phases_of
none_again code n r =
    let NoneAwaited : Command → Type 0 = λ named. Leaves (λ later. later.awaited ≡ 0) (obeyed named (r with awaited ≔ 0)) in
    by_rows NoneAwaited table code n (refl, (refl, (refl, (refl, (chosen NoneAwaited (leb n 0x3F) _ _ (λ e. refl) (λ e. tt), (chosen NoneAwaited (one_of (0x00 ∷ 0x10 ∷ 0x20 ∷ 0x30 ∷ []) n) _ _ (λ e. refl) (λ e. tt), tt))))))

pub the_awaiting : (b : ℕ) (r : Registers) → Awaiting b r
the_awaiting b r = record {
  first_byte = first_byte b r;
  held = held b r;
  second_byte = second_byte b r;
  none_again = λ e. rw (second_byte b r e) (none_again r.awaited b r);
  fresh_again = command_fresh b r;
}
