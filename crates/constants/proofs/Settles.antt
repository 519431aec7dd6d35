-- Statements that are one equation have one result.
-- Assumes nothing.
use mathlib.Core.Path.{◌≡◌, sym, ◌∙◌, ap}
use Rattle.constants.specs.Settles.{Settles}

-- an equation with what is stated settles its left side
pub equation : {A : Type 0} (stated : A) → Settles (λ (r : A). r ≡ stated)
equation stated first second p q = p ∙ sym q

-- so does one with what a result stands for, where the result can be told from that
pub told_from : {A B : Type 0} (stands_for : A → B) (told : B → A) → ((a : A) → told (stands_for a) ≡ a) → (stated : B) → Settles (λ (a : A). stands_for a ≡ stated)
told_from stands_for told back stated first second p q = sym (back first) ∙ ap told (p ∙ sym q) ∙ back second
