-- What each public call states has one result.
-- Assumes nothing.
use mathlib.Core.Path.{◌∙◌, sym, ap}
use Rattle.tracelisting.specs.TraceListing.{Printed}
use Rattle.tracelisting.specs.Settled.{Settled}

pub settled : Settled
settled = record {
  list_input = λ hung input text a b p q. ap (λ (o : Printed). (o.size, o.text)) (p ∙ sym q);
  word::begins_with = λ text word a b p q. p ∙ sym q;
}
