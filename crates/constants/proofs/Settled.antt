-- What each public call states has one result.
-- Assumes nothing.
use mathlib.Core.Path.{sym, ◌∙◌}
use Rattle.constants.proofs.Settles.{equation}
use Rattle.constants.specs.Settled.{Settled}

pub settled : Settled
settled = record {
  «u8::from» = λ refusal. equation _;
  refusal::number_met = λ met. equation _;
  refusal::hand_count = λ counted first second p q. rw (p.0 ∙ sym q.0, p.1 ∙ sym q.1);
}
