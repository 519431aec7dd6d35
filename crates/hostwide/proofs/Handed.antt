-- A count as C is handed it is what the outcome of the call below stands for.
-- Assumes nothing.
use mathlib.Core.Path.{◌≡◌, refl}
use mathlib.Core.List.{List}
use Prim.Native.Nat.{ℕ}
use Rattle.std.specs.Prelude.{Result, Ok, Err}
use Rattle.constants.specs.Refusals.{number_counted, count_handed}
use Rattle.constants.specs.declared.refusal.Refusal.{Refusal}
use Rattle.framelisting.specs.Listing.{outcome, listed_of}
use Rattle.hostwide.specs.List.{list_reply, of_answer, of_listed}

pub listed_handed : (counted : Result ℕ Refusal) (text : List ℕ) → list_reply (number_counted counted) (count_handed counted) text ≡ of_listed (outcome (listed_of counted) text)
unfolding of_answer
listed_handed (Ok count) text = refl
listed_handed (Err refusal) text = refl
