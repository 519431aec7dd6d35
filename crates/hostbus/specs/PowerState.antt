-- The power state as C sees it: a number, and the power state's own number.
use Rattle.std.specs.Prelude.{ℕ, List}
use Rattle.constants.specs.Numbers.{taken}
use Rattle.bus.specs.Registers.{power_state}
use Rattle.bus.specs.Image.{asked_state}
use Rattle.bus.specs.Answer.{Asked}
use Rattle.bus.specs.declared.registers.PowerState.{PowerState}

-- Each power state by its number.
unfoldable pub number_of_power : PowerState → ℕ
number_of_power PowerState.Awake = 0
number_of_power PowerState.Sleep = 1
number_of_power PowerState.Standby = 2

-- The number and the power state.
pub record PowerReply : Type 0 where
  pub number : ℕ
  pub power : ℕ

abbrev pub power_reply : ℕ → ℕ → PowerReply
power_reply answer state = record { number = answer; power = state }

-- What a state that was asked is held to be; 0 stands beside a refusal.
unfoldable pub of_asked : Asked → PowerReply
of_asked (Asked.Found r) = power_reply taken (number_of_power (power_state r))
of_asked (Asked.Refused number) = power_reply number 0

-- The power state of a lent state.
abbrev pub power_state_of : List ℕ → PowerReply
power_state_of state = of_asked (asked_state state)
