-- How a piece of text is put into a lent buffer.
use Rattle.std.specs.Prelude.{ℕ, ◌+◌, ◌<◌, ◌^◌, ◌≡◌, List, length}
use Rattle.std.proofs.lemmas.List.Edits.{sets}

-- The place after the piece is a number that the machine has.
abbrev pub Countable : ℕ → List ℕ → Type 0
Countable at piece = at + length piece < 2 ^ 64

-- The piece stands in the buffer from `at` on, as far as the buffer goes, nothing else changes, and `next` is the place after it.
pub record Put (text : List ℕ) (at : ℕ) (piece : List ℕ) (next : ℕ) (later : List ℕ) : Type 0 where
  pub counted : next ≡ at + length piece
  pub stored : later ≡ sets text at piece
