-- What it says of registers and memory that a data write or read is taken.
-- Assumes nothing.
use mathlib.Core.Path.{◌≡◌, refl}
use mathlib.Core.Bool.{Bool, true, false, cond}
use Prim.Native.Nat.{ℕ, ◌≤◌, ◌<◌}
use native.Mathlib.Omega.{arith}
use lib.Dec.{leb, ltb, eqb}
use borrow.Author.Tests.{leb-true, ltb-true, ltb-false, eqb-true, eqb-false}
use Rattle.constants.specs.Sizes.{last_column, pages, memory_size}
use Rattle.constants.specs.Numbers.{taken, too_short, out_of_range, code_awaited, column_above}
use Rattle.constants.specs.Refusals.{number_of_refusal}
use Rattle.constants.specs.declared.refusal.Refusal.{Refusal}
use Rattle.constants.proofs.Refusals.{refusal_not_taken}
use mathlib.Core.List.{List}
use lib.ListN.{length}
use Rattle.bus.specs.Answer.{Answer}
use Rattle.bus.specs.Memory.{address}
use Rattle.bus.specs.Events.{access, write, written, read}
use Rattle.bus.specs.declared.registers.Registers.{Registers}

-- what the four tests have found
pub record Open (r : Registers) (size : ℕ) : Type 0 where
  pub enough : memory_size ≤ size
  pub page : r.page < pages
  pub awaited : r.awaited ≡ 0
  pub column : r.column ≤ last_column

chosen : (s p a k : Bool) → cond s too_short (cond p (cond a (cond k taken column_above) code_awaited) out_of_range) ≡ taken → (s ≡ false) × (p ≡ true) × (a ≡ true) × (k ≡ true)
chosen true p a k e = absurd (eqb-false too_short taken refl e)
chosen false false a k e = absurd (eqb-false out_of_range taken refl e)
chosen false true false k e = absurd (eqb-false code_awaited taken refl e)
chosen false true true false e = absurd (eqb-false column_above taken refl e)
chosen false true true true e = (refl, refl, refl, refl)

pub opened : (r : Registers) (size : ℕ) → access r size ≡ taken → Open r size
unfolding access
opened r size e =
    let found = chosen (ltb size memory_size) (ltb r.page pages) (eqb r.awaited 0) (leb r.column last_column) e in
    record {
      enough = ltb-false size memory_size found.0;
      page = ltb-true r.page pages found.1;
      awaited = eqb-true r.awaited 0 found.2;
      column = leb-true r.column last_column found.3;
    }

-- page and column then lie in the memory's 1,188 bytes
pub address_inside : (r : Registers) (size : ℕ) → access r size ≡ taken → address r.page r.column < memory_size
address_inside r size e = let o = opened r size e in omega (arith, o.page, o.column)

-- a data write or read that meets a refusal is refused with its number
module _ (r : Registers) (memory : List ℕ) (refusal : Refusal) (met : number_of_refusal refusal ≡ access r (length memory)) where
  not_taken : eqb (access r (length memory)) taken ≡ false
  not_taken = rw (← met) (refusal_not_taken refusal)

  pub write_refused : (byte : ℕ) → (Answer.Refused (number_of_refusal refusal) ≡ write r (length memory)) × (memory ≡ written byte r memory)
  unfolding write written
  write_refused byte = (rw (not_taken, met), rw not_taken)

  pub read_refused : Answer.Refused (number_of_refusal refusal) ≡ read r memory
  unfolding read
  read_refused = rw (not_taken, met)
