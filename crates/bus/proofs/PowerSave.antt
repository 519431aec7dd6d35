-- Sleep, standby and awake, by display on, entire on and indicator.
-- Assumes nothing.
use mathlib.Core.Path.{◌≡◌, refl}
use mathlib.Core.Bool.{Bool, true, false, cond, ◌&&◌}
use mathlib.Core.Logic.{⊎_elim}
use lib.Dec.{eqb}
use Rattle.bus.specs.Registers.{power_state}
use Rattle.bus.specs.PowerSave.{PowerSave}
use Rattle.bus.specs.declared.registers.Registers.{Registers}
use Rattle.bus.specs.declared.registers.PowerState.{PowerState}

-- entire off leaves it awake, whatever the display is
entire_off : (on : Bool) (other : PowerState) → cond (on && false) other PowerState.Awake ≡ PowerState.Awake
entire_off true other = refl
entire_off false other = refl

pub power_save : (r : Registers) → PowerSave r
unfolding power_state
power_save r = record {
  sleep = λ off lit dark. rw (off, lit, dark);
  standby = λ off lit shown. rw (off, lit, shown);
  awake = ⊎_elim (λ on. rw on) (λ dark. rw dark (entire_off (eqb r.on 0) _));
}
