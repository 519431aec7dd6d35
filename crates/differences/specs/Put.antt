-- What the code's own functions state: how they put entries into a list buffer that has room for them, rows that are the same, and a row that is one run.
use Rattle.std.specs.Prelude.{ℕ, ◌+◌, ◌*◌, ◌≤◌, ◌<◌, ◌≡◌, List, length, get_or}
use Rattle.std.proofs.lemmas.List.Edits.{sets}
use Rattle.differences.specs.Entries.{entries}

-- The buffer has room for the entries, of so many bytes each, from number `at` on.
abbrev pub Room : {A : Type 0} → ℕ → List ℕ → ℕ → List A → Type 0
Room size list at found = (at + length found) * size ≤ length list

-- The entries stand in the buffer from number `at` on, nothing else changes, and `next` is the number after them.
pub record Put {A : Type 0} (size : ℕ) (entry : A → List ℕ) (list : List ℕ) (at : ℕ) (found : List A) (next : ℕ) (later : List ℕ) : Type 0 where
  pub counted : next ≡ at + length found
  pub stored : later ≡ sets list (at * size) (entries entry found)

-- All places of a row of w hold the same.
abbrev pub Uniform : ℕ → List ℕ → Type 0
Uniform w row = (x : ℕ) → x < w → get_or row x 0 ≡ get_or row 0 0

-- A row differs in one way throughout.
abbrev pub OneRun : ℕ → List ℕ → List ℕ → Type 0
OneRun w a b = (get_or a 0 0 ≡ get_or b 0 0 → ⊥) × Uniform w a × Uniform w b

-- The n rows of w places from row p on are the same in both frames.
abbrev pub SameRows : ℕ → ℕ → ℕ → List ℕ → List ℕ → Type 0
SameRows w n p f g = (i : ℕ) → i < n * w → get_or f (p * w + i) 0 ≡ get_or g (p * w + i) 0
