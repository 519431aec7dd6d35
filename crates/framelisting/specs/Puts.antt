-- How a piece of text is put into a lent buffer after what is there.
use Rattle.std.specs.Prelude.{ℕ, ◌+◌, ◌≡◌, List, length}
use Rattle.std.proofs.lemmas.List.Edits.{sets}
use Rattle.framelisting.specs.declared.text.Text.{Text}

-- The piece stands in the buffer from the text's place on, as far as the buffer goes, nothing else changes, the place is then the one after it, and the buffer is the one that was lent.
pub record Puts (text : Text) (piece : List ℕ) (later : Text) : Type 0 where
  pub counted : later.at ≡ text.at + length piece
  pub stored : later.buffer.now ≡ sets text.buffer.now text.at piece
  pub same : later.buffer.ghost_name ≡ text.buffer.ghost_name
