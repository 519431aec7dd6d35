-- Any two results that satisfy what the public call of this crate states are equal. The field has the name of its call.
use Rattle.std.specs.Prelude.{ℕ, ◌≡◌}
use Rattle.constants.specs.Settles.{Settles}
use Rattle.codes.specs.Table.{meaning_of}
use Rattle.codes.specs.declared.Command.{Command}

pub record Settled : Type 0 where
  pub meaning_of : (awaited byte : ℕ) → Settles (λ (r : Command). r ≡ meaning_of awaited byte)
