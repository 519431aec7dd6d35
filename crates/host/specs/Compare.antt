-- A comparison as C sees it: a number, the count of entries and the list buffer.
use Rattle.std.specs.Prelude.{ℕ, List}
use Rattle.differences.specs.Compare.{Outcome, number_of, count_of}

pub record CompareReply : Type 0 where
  pub number : ℕ
  pub count : ℕ
  pub list : List ℕ

abbrev pub compare_reply : ℕ → ℕ → List ℕ → CompareReply
compare_reply answer many later = record { number = answer; count = many; list = later }

-- The number and the count that an answer stands for; a refusal has count 0.
abbrev pub of_compared : Outcome → CompareReply
of_compared outcome = compare_reply (number_of outcome.answer) (count_of outcome.answer) outcome.list
