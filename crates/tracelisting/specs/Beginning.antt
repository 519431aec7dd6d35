-- Whether a text begins with a word, by which the old start is asked for.
use Rattle.std.specs.Prelude.{ℕ, ◌≡◌, ◌↔◌, Bool, true, false, ◌&&◌, List, [], ◌∷◌, ◌++◌, eqb}

-- Whether a text begins with a word.
unfoldable pub begins : List ℕ → List ℕ → Bool
begins [] text = true
begins (letter ∷ word) [] = false
begins (letter ∷ word) (first ∷ text) = eqb first letter && begins word text

-- It does exactly when it is the word with something after it.
abbrev pub Begins : Type 0
Begins = (word text : List ℕ) → begins word text ≡ true ↔ ((rest : List ℕ) × (text ≡ word ++ rest))
