-- For functions inside the crate: a lent state and memory asked by themselves, before anything is loaded.
use Rattle.std.specs.Prelude.{ℕ, ◌≡◌, List, Ok, Err}
use Rattle.constants.specs.Refusals.{Met, number_of_refusal}
use Rattle.bus.specs.Answer.{Asked}
use Rattle.bus.specs.Image.{Accepted, asked}

-- Accepted, or refused as what is asked first refuses them.
abbrev pub Accepts : Met → List ℕ → List ℕ → Type 0
Accepts (Ok done) state memory = Accepted state memory
Accepts (Err refusal) state memory = asked state memory ≡ Asked.Refused (number_of_refusal refusal)
