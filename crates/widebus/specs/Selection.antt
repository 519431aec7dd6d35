-- Document 02, Order 4: 1 selects left, 2 right, 3 both.
use Rattle.std.specs.Prelude as std
use Rattle.std.specs.Prelude.{ℕ, cond, eqb, Ok, Err}
use Rattle.constants.specs.Numbers.{no_selection}
use Rattle.constants.specs.Refusals.{number_of_refusal}
use Rattle.constants.specs.declared.refusal.Refusal.{Refusal}
use Rattle.bus.specs.Result.{Result, refuses, gives}
use Rattle.widebus.specs.declared.selection.Selection.{Selection}
use Rattle.widebus.specs.declared.selection.Side.{Side}

-- What a number selects; one that is not 1 to 3 is refused 13.
unfoldable pub selection_of : ℕ → Result Selection
selection_of number =
    cond (eqb number 1) (gives Selection.Left)
    (cond (eqb number 2) (gives Selection.Right)
    (cond (eqb number 3) (gives Selection.Both)
    (refuses no_selection)))

-- The side of a number; one that is not 1 or 2 is refused 13.
unfoldable pub side_of : ℕ → Result Side
side_of number =
    cond (eqb number 1) (gives Side.Left)
    (cond (eqb number 2) (gives Side.Right)
    (refuses no_selection))

-- The code's own answer as a result.
abbrev pub result_of : {S : Type 0} → std.Result S Refusal → Result S
result_of (Ok some) = gives some
result_of (Err refusal) = refuses (number_of_refusal refusal)
