-- What the public call states has one result.
-- Assumes nothing.
use Rattle.constants.proofs.Settles.{equation}
use Rattle.codes.specs.Settled.{Settled}

pub settled : Settled
settled = record { meaning_of = λ awaited byte. equation _ }
