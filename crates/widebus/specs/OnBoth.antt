-- Events on the states of both chips, whose ranges were asked before: for functions inside the crate.
use Rattle.std.specs.Prelude.{ℕ, ◌≤◌, ◌≡◌, true, cond, ◌&&◌, List, [], length, eqb, Ok, Err}
use Rattle.constants.specs.Sizes.{image_size}
use Rattle.constants.specs.Numbers.{taken}
use Rattle.constants.specs.Refusals.{Met}
use Rattle.constants.specs.declared.refusal.Refusal.{Refusal}
use Rattle.bus.specs.Events.{access}
use Rattle.bus.specs.Image.{legal}
use Rattle.bus.specs.Chip.{Event, command_byte}
use Rattle.bus.specs.OnState.{on_state}
use Rattle.widebus.specs.Pair.{Pair, Lent}
use Rattle.widebus.specs.Asked.{any_short}
use Rattle.widebus.specs.WideCalls.{WideCalled, call_both}
use Rattle.widebus.specs.declared.both.Both.{Both}

-- What the lengths of all that is lent meet,
unfoldable pub lengths_met : Pair Lent → Met
lengths_met all = cond (any_short all) (Err Refusal.TooShort) (Ok tt)

-- and then the ranges of both images.
unfoldable pub ranges_met : Pair Lent → Met
ranges_met all = cond (any_short all) (Err Refusal.TooShort) (cond (legal all.left.state && legal all.right.state) (Ok tt) (Err Refusal.OutOfRange))

-- An event for both, by what each does of its own.
abbrev pub on_both : Event → Pair Lent → WideCalled
on_both event all = call_both (on_state event all.left.state all.left.memory) (on_state event all.right.state all.right.memory) all

-- The number that a command byte meets, whatever the memory is.
abbrev pub command_meets : ℕ → List ℕ → ℕ
command_meets byte state = (on_state (command_byte byte) state []).reply.number

-- A state that is long enough, in its ranges.
pub record Ranged (state : List ℕ) : Type 0 where
  pub enough : image_size ≤ length state
  pub in_ranges : legal state ≡ true

-- What a data write for both meets, by the lengths of their memories: the left's number where both refuse.
unfoldable pub access_both : Both → ℕ → ℕ → ℕ
access_both registers left_memory right_memory = cond (eqb (access registers.left left_memory) taken) (access registers.right right_memory) (access registers.left left_memory)
