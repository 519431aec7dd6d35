-- Any two results that satisfy what an exported call states are equal: its answer, and what it leaves of everything lent to be changed. A field has the name of its call.
use Rattle.std.specs.Prelude.{ℕ, ◌≡◌, List}
use Rattle.constants.specs.Settles.{Settles}
use Rattle.bus.specs.Chip.{command_byte, data_written, data_read, reset_pulse}
use Rattle.bus.specs.Calls.{call}
use Rattle.bus.specs.Start.{started, start_of}
use Rattle.bus.specs.declared.start.Hung.{Hung}
use Rattle.hostbus.specs.Events.{state_reply, write_reply, read_reply, of_state, of_both, of_read}
use Rattle.hostbus.specs.PowerState.{power_reply, power_state_of}

pub record Settled : Type 0 where
  -- number, state, memory
  pub ssd1815b_start : (state memory : List ℕ) → Settles (λ (o : ℕ × List ℕ × List ℕ). started o.0 o.1 o.2 ≡ start_of Hung.UpsideDown state memory)
  -- number, state, memory
  pub ssd1815b_start_upright : (state memory : List ℕ) → Settles (λ (o : ℕ × List ℕ × List ℕ). started o.0 o.1 o.2 ≡ start_of Hung.Upright state memory)
  -- number, state
  pub ssd1815b_command : (state memory : List ℕ) (byte : ℕ) → Settles (λ (o : ℕ × List ℕ). state_reply o.0 o.1 ≡ of_state (call (command_byte byte) state memory))
  -- number, state, memory
  pub ssd1815b_write : (state memory : List ℕ) (byte : ℕ) → Settles (λ (o : ℕ × List ℕ × List ℕ). write_reply o.0 o.1 o.2 ≡ of_both (call (data_written byte) state memory))
  -- number, byte, dummy mark, state
  pub ssd1815b_read : (state memory : List ℕ) → Settles (λ (o : ℕ × ℕ × ℕ × List ℕ). read_reply o.0 o.1 o.2 o.3 ≡ of_read (call data_read state memory))
  -- number, state
  pub ssd1815b_reset : (state memory : List ℕ) → Settles (λ (o : ℕ × List ℕ). state_reply o.0 o.1 ≡ of_state (call reset_pulse state memory))
  -- number, power state
  pub ssd1815b_power_state : (state : List ℕ) → Settles (λ (o : ℕ × ℕ). power_reply o.0 o.1 ≡ power_state_of state)
