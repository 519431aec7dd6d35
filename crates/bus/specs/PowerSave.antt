-- Document 01, "Display off with entire on is power save: sleep with the indicator off, standby with it on."
use Rattle.std.specs.Prelude.{◌≡◌, ◌⊎◌}
use Rattle.bus.specs.Registers.{power_state}
use Rattle.bus.specs.declared.registers.Registers.{Registers}
use Rattle.bus.specs.declared.registers.PowerState.{PowerState}

pub record PowerSave (r : Registers) : Type 0 where
  -- Sleep with the indicator off,
  pub sleep : r.on ≡ 0 → r.entire ≡ 1 → r.indicator ≡ 0 → power_state r ≡ PowerState.Sleep
  -- standby with it on.
  pub standby : r.on ≡ 0 → r.entire ≡ 1 → r.indicator ≡ 1 → power_state r ≡ PowerState.Standby
  -- With the display on, or entire on off, the chip is awake.
  pub awake : (r.on ≡ 1) ⊎ (r.entire ≡ 0) → power_state r ≡ PowerState.Awake
