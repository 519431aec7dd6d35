-- What it is for a statement to have one result.
use Rattle.std.specs.Prelude.{◌≡◌}

-- A statement settles what it speaks of: what a call answers and what it leaves of everything lent.
abbrev pub Settles : {A : Type 0} → (A → Type 0) → Type 0
Settles {A} statement = (first second : A) → statement first → statement second → first ≡ second
