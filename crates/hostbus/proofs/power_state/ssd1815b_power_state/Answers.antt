-- `hostbus::power_state::ssd1815b_power_state` meets its contract: what the state is found to be, by number.
use Rattle.hostbus.specs.PowerState.{of_asked, number_of_power}
use Rattle.hostbus.proofs.power_state.ssd1815b_power_state.Goals as goal

pub returns-in-Ok : goal.returns-in-Ok
unfolding of_asked
returns-in-Ok c = rw (← c.ask_state.ensures, c.in-Ok.is, c.power_number.ensures, c.power_state.ensures)

pub returns-in-Err : goal.returns-in-Err
unfolding of_asked number_of_power
returns-in-Err c = rw (← c.ask_state.ensures, c.in-Err.is, c.power_number-in-Err.ensures, c.from.ensures)
