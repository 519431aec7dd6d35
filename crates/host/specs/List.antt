-- The listing as C sees it: a number, the text's length and the text.
use Rattle.std.specs.Prelude.{ℕ, List}
use Rattle.constants.specs.Numbers.{taken}
use Rattle.framelisting.specs.Listing.{Listed, Outcome}

pub record ListReply : Type 0 where
  pub number : ℕ
  pub size : ℕ
  pub text : List ℕ

abbrev pub list_reply : ℕ → ℕ → List ℕ → ListReply
list_reply answer long later = record { number = answer; size = long; text = later }

-- The number and the length that each answer stands for; a refusal has length 0.
unfoldable pub of_answer : Listed → List ℕ → ListReply
of_answer (Listed.Written long) later = list_reply taken long later
of_answer (Listed.Refused number) later = list_reply number 0 later

abbrev pub of_listed : Outcome → ListReply
of_listed outcome = of_answer outcome.answer outcome.text
