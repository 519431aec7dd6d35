-- What the public call states has one result.
-- Assumes nothing.
use Rattle.picture.proofs.Settled.{drawn_settled}
use Rattle.widepicture.specs.Settled.{Settled}

pub settled : Settled
settled = record { «draw::draw» = λ all was. drawn_settled _ }
