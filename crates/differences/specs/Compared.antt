-- What a comparison answers: the count of entries listed, or a refusal number.
use Rattle.std.specs.Prelude.{ℕ, Result, Ok, Err}
use Rattle.constants.specs.Refusals.{number_of_refusal}
use Rattle.constants.specs.declared.refusal.Refusal.{Refusal}

pub data Compared : Type 0 where
  Listed : ℕ → Compared
  Refused : ℕ → Compared

-- What the code's result stands for.
abbrev pub compared_of : Result ℕ Refusal → Compared
compared_of (Ok count) = Compared.Listed count
compared_of (Err refusal) = Compared.Refused (number_of_refusal refusal)
