-- Lists that stand in an order, and what is said of one of a list.
use Rattle.std.specs.Prelude.{List, [], ◌∷◌, ◌⊎◌}
use Rattle.bus.specs.Bytes.{All}

-- One of a list has the property.
abbrev pub Some : {A : Type 0} → (A → Type 0) → List A → Type 0
Some P [] = ⊥
Some P (a ∷ rest) = P a ⊎ Some P rest

-- Each stands before all that follow it.
abbrev pub InOrder : {A : Type 0} → (A → A → Type 0) → List A → Type 0
InOrder Before [] = Unit {0}
InOrder Before (a ∷ rest) = All (Before a) rest × InOrder Before rest
