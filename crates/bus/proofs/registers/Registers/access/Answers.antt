-- `bus::registers::Registers::access` meets its contract: each answer is the definition's under the tests that led to it.
use mathlib.Core.Path.{◌≡◌}
use Prim.Native.Nat.{ℕ, ◌≤◌, ◌<◌}
use borrow.Author.Tests.{eq-eqb, ne_eqb, le-leb, lt-leb, lt-ltb, le-ltb}
use Rattle.constants.specs.Sizes.{last_column, pages, memory_size}
use Rattle.constants.specs.Numbers.{taken, too_short, out_of_range, code_awaited, column_above}
use Rattle.bus.specs.Events.{access}
use Rattle.bus.specs.declared.registers.Registers.{Registers}
use Rattle.bus.proofs.registers.Registers.access.Goals as goal

is_short : (r : Registers) (size : ℕ) → size < memory_size → too_short ≡ access r size
unfolding access
is_short r size s = rw (lt-ltb size memory_size s)

no_page : (r : Registers) (size : ℕ) → memory_size ≤ size → pages ≤ r.page → out_of_range ≡ access r size
unfolding access
no_page r size s p = rw (le-ltb size memory_size s, le-ltb r.page pages p)

awaiting : (r : Registers) (size : ℕ) → memory_size ≤ size → r.page < pages → (r.awaited ≡ 0 → ⊥) → code_awaited ≡ access r size
unfolding access
awaiting r size s p a = rw (le-ltb size memory_size s, lt-ltb r.page pages p, ne_eqb r.awaited 0 a)

above : (r : Registers) (size : ℕ) → memory_size ≤ size → r.page < pages → r.awaited ≡ 0 → last_column < r.column → column_above ≡ access r size
unfolding access
above r size s p a k = rw (le-ltb size memory_size s, lt-ltb r.page pages p, eq-eqb r.awaited 0 a, lt-leb r.column last_column k)

is_open : (r : Registers) (size : ℕ) → memory_size ≤ size → r.page < pages → r.awaited ≡ 0 → r.column ≤ last_column → taken ≡ access r size
unfolding access
is_open r size s p a k = rw (le-ltb size memory_size s, lt-ltb r.page pages p, eq-eqb r.awaited 0 a, le-leb r.column last_column k)

pub returns-then-memory-lt-MEMORY_SIZE : goal.returns-then-memory-lt-MEMORY_SIZE
returns-then-memory-lt-MEMORY_SIZE c = search is_short

pub returns-then-self-le-LAST_COLUMN : goal.returns-then-self-le-LAST_COLUMN
returns-then-self-le-LAST_COLUMN c = search (awaiting, above, is_open)

pub returns-then-self-eq0 : goal.returns-then-self-eq0
returns-then-self-eq0 c = search (awaiting, above, is_open)

pub returns-then-self-lt-PAGES : goal.returns-then-self-lt-PAGES
returns-then-self-lt-PAGES c = search (awaiting, above, is_open)

pub returns : goal.returns
returns c = search no_page
