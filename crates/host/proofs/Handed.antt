-- A count as C is handed it is what the outcome of the call below stands for.
-- Assumes nothing.
use mathlib.Core.Path.{◌≡◌, refl}
use mathlib.Core.List.{List}
use Prim.Native.Nat.{ℕ}
use Rattle.std.specs.Prelude.{Result, Ok, Err}
use Rattle.constants.specs.Refusals.{number_counted, count_handed}
use Rattle.constants.specs.declared.refusal.Refusal.{Refusal}
use Rattle.differences.specs.Compare as differences
use Rattle.differences.specs.Compared.{compared_of}
use Rattle.framelisting.specs.Listing as framelisting
use Rattle.host.specs.Compare.{compare_reply, of_compared}
use Rattle.host.specs.List.{list_reply, of_answer, of_listed}

pub compared_handed : (counted : Result ℕ Refusal) (list : List ℕ) → compare_reply (number_counted counted) (count_handed counted) list ≡ of_compared (differences.outcome (compared_of counted) list)
unfolding differences.number_of differences.count_of
compared_handed (Ok count) list = refl
compared_handed (Err refusal) list = refl

pub listed_handed : (counted : Result ℕ Refusal) (text : List ℕ) → list_reply (number_counted counted) (count_handed counted) text ≡ of_listed (framelisting.outcome (framelisting.listed_of counted) text)
unfolding of_answer
listed_handed (Ok count) text = refl
listed_handed (Err refusal) text = refl
