-- What a call over two chips asks first: 1 asks every buffer that is lent, and then 2 asks both images, whichever chips are selected.
use Rattle.std.specs.Prelude.{ℕ, Bool, cond, ◌||◌, Result, Ok, Err}
use Rattle.constants.specs.Numbers.{too_short}
use Rattle.constants.specs.Refusals.{number_of_refusal}
use Rattle.constants.specs.declared.refusal.Refusal.{Refusal}
use Rattle.bus.specs.Image.{short, asked_state}
use Rattle.bus.specs.Answer.{Asked}
use Rattle.widebus.specs.Pair.{Pair, Lent}
use Rattle.widebus.specs.declared.both.Both.{Both}

-- What two lent states and memories are found to be: taken up, with the registers of both chips, or refused 1 or 2.
pub data BothAsked : Type 0 where
  Found : Both → BothAsked
  Refused : ℕ → BothAsked

-- The code's own answer.
abbrev pub both_asked_of : Result Both Refusal → BothAsked
both_asked_of (Ok registers) = BothAsked.Found registers
both_asked_of (Err refusal) = BothAsked.Refused (number_of_refusal refusal)

-- A lent state or memory of either chip is too short.
abbrev pub any_short : Pair Lent → Bool
any_short all = short all.left.state all.left.memory || short all.right.state all.right.memory

-- The registers of both, or a refusal.
unfoldable pub both_found : Asked → Asked → BothAsked
both_found (Asked.Found l) (Asked.Found r) = BothAsked.Found (record { left = l; right = r })
both_found (Asked.Found l) (Asked.Refused number) = BothAsked.Refused number
both_found (Asked.Refused number) (Asked.Found r) = BothAsked.Refused number
both_found (Asked.Refused number) (Asked.Refused other) = BothAsked.Refused number

unfoldable pub asked_both : Pair Lent → BothAsked
asked_both all = cond (any_short all) (BothAsked.Refused too_short) (both_found (asked_state all.left.state) (asked_state all.right.state))
