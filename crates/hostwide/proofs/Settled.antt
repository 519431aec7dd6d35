-- What each exported call states has one result: both results are of the one outcome.
-- Assumes nothing.
use mathlib.Core.Path.{◌∙◌, sym, ap}
use Rattle.picture.specs.Draw.{Drawn}
use Rattle.hostwide.specs.Events.{StatesReply, LentReply, ReadReply}
use Rattle.hostwide.specs.Page.{PageReply}
use Rattle.hostwide.specs.List.{ListReply}
use Rattle.hostwide.specs.Settled.{Settled}

pub settled : Settled
settled = record {
  ssd1815b_wide_command = λ all selection byte a b p q. ap (λ (o : StatesReply). (o.number, o.left, o.right)) (p ∙ sym q);
  ssd1815b_wide_write = λ all selection byte a b p q. ap (λ (o : LentReply). (o.number, o.lent)) (p ∙ sym q);
  ssd1815b_wide_read = λ all selection a b p q. ap (λ (o : ReadReply). (o.number, o.byte, o.dummy, o.left, o.right)) (p ∙ sym q);
  ssd1815b_wide_reset = λ all selection a b p q. ap (λ (o : StatesReply). (o.number, o.left, o.right)) (p ∙ sym q);
  ssd1815b_wide_draw = λ all frame a b p q. ap (λ (o : Drawn). (o.number, o.frame)) (p ∙ sym q);
  ssd1815b_wide_list = λ number offset frame text a b p q. ap (λ (o : ListReply). (o.number, o.size, o.text)) (p ∙ sym q);
  ssd1815b_wide_page = λ left right side page a b p q. ap (λ (o : PageReply). (o.number, o.place, o.length)) (p ∙ sym q);
}
