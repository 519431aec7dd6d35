-- What each exported call states has one result: both results are of the one outcome.
-- Assumes nothing.
use mathlib.Core.Path.{◌∙◌, sym, ap}
use Rattle.bus.specs.Start.{Started}
use Rattle.hostbus.specs.Events.{StateReply, WriteReply, ReadReply}
use Rattle.hostbus.specs.PowerState.{PowerReply}
use Rattle.hostbus.specs.Settled.{Settled}

pub settled : Settled
settled = record {
  ssd1815b_start = λ state memory a b p q. ap (λ (o : Started). (o.number, o.state, o.memory)) (p ∙ sym q);
  ssd1815b_start_upright = λ state memory a b p q. ap (λ (o : Started). (o.number, o.state, o.memory)) (p ∙ sym q);
  ssd1815b_command = λ state memory byte a b p q. ap (λ (o : StateReply). (o.number, o.state)) (p ∙ sym q);
  ssd1815b_write = λ state memory byte a b p q. ap (λ (o : WriteReply). (o.number, o.state, o.memory)) (p ∙ sym q);
  ssd1815b_read = λ state memory a b p q. ap (λ (o : ReadReply). (o.number, o.byte, o.dummy, o.state)) (p ∙ sym q);
  ssd1815b_reset = λ state memory a b p q. ap (λ (o : StateReply). (o.number, o.state)) (p ∙ sym q);
  ssd1815b_power_state = λ state a b p q. ap (λ (o : PowerReply). (o.number, o.power)) (p ∙ sym q);
}
