-- What was recorded, replayed on the chip: what an event's answer says of the chip after it.
-- Assumes nothing.
use mathlib.Core.Path.{◌≡◌}
use mathlib.Core.Bool.{true, false, ◌||◌}
use mathlib.Core.List.{List}
use Prim.Native.Nat.{ℕ}
use lib.Dec.{eqb}
use Rattle.constants.specs.Numbers.{read_differs}
use Rattle.bus.specs.Chip.{Event, step, data_read}
use Rattle.bus.specs.declared.registers.Registers.{Registers}
use Rattle.bus.specs.Answer.{After}
use Rattle.bus.specs.Answer.{Answer}
use Rattle.bus.specs.Result.{refuses, gives}
use Rattle.bus.specs.Recorded.{event, read_as, chip_of, happened, compared, replay}

module _ (e : Event) (r : Registers) (memory : List ℕ) {answer : Answer} (a : answer ≡ (step e r memory).answer) where
  pub event_taken : {left : List ℕ} {after : After} → left ≡ (step e r memory).memory → answer ≡ Answer.Taken after → replay (event e) (chip_of r memory) ≡ gives (chip_of after.registers left)
  unfolding replay happened
  event_taken l t = rw (← a, t, ← l)

  pub event_refused : {number : ℕ} → answer ≡ Answer.Refused number → replay (event e) (chip_of r memory) ≡ refuses number
  unfolding replay happened
  event_refused t = rw (← a, t)

module _ (byte : ℕ) (r : Registers) (memory : List ℕ) {answer : Answer} (a : answer ≡ (step data_read r memory).answer) where
  pub read_agrees : {after : After} → answer ≡ Answer.Taken after → (after.dummy || eqb after.byte byte) ≡ true → replay (read_as byte) (chip_of r memory) ≡ gives (chip_of after.registers (step data_read r memory).memory)
  unfolding replay compared
  read_agrees t same = rw (← a, t, same)

  pub read_differs_lem : {after : After} → answer ≡ Answer.Taken after → (after.dummy || eqb after.byte byte) ≡ false → replay (read_as byte) (chip_of r memory) ≡ refuses read_differs
  unfolding replay compared
  read_differs_lem t same = rw (← a, t, same)

  pub read_refused : {number : ℕ} → answer ≡ Answer.Refused number → replay (read_as byte) (chip_of r memory) ≡ refuses number
  unfolding replay compared
  read_refused t = rw (← a, t)
