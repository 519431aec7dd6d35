-- Document 01, the listing program: "reads a trace of at most 65,536 bytes ...; longer input prints only `input too long`".
use Rattle.std.specs.Prelude.{ℕ, ◌≤◌, ◌<◌, ◌≡◌, List, length}
use Rattle.bus.specs.declared.start.Hung.{Hung}
use Rattle.framelisting.specs.Ascii.{ascii}
use Rattle.tracelisting.specs.TraceListing.{listing_of_trace, text_for}

pub record InputLength (hung : Hung) (input : List ℕ) : Type 0 where
  -- at most 65,536 bytes are listed
  pub listed : length input ≤ 65536 → text_for hung input ≡ listing_of_trace hung input
  -- more print one line
  pub too_long : 65536 < length input → text_for hung input ≡ ascii "input too long\n"

-- For each start and each input.
abbrev pub OfInputLength : Type 0
OfInputLength = (hung : Hung) (input : List ℕ) → InputLength hung input
