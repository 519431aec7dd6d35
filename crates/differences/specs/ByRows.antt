-- What is found row by row in two things that are rows of w bytes one after the other: the rows of a frame, or the pages of a memory.
use Rattle.std.specs.Prelude.{ℕ, zero, suc, List, [], ◌++◌}
use Rattle.picture.specs.Frame.{row_of}

-- What each of n rows from row p on gives, one after the other.
unfoldable pub by_rows : {A : Type 0} → ℕ → (ℕ → List ℕ → List ℕ → List A) → List ℕ → List ℕ → ℕ → ℕ → List A
by_rows w each f g zero p = []
by_rows w each f g (suc n) p = each p (row_of w p f) (row_of w p g) ++ by_rows w each f g n (suc p)
