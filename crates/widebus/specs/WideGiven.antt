-- Documents 01 and 02, the numbers given, for the call of a single event over two chips: each number exactly when its line says so. What a chip's own call gives, and when, is bus/specs/Given.
use Rattle.std.specs.Prelude.{ℕ, ◌≡◌, true, false, List, ◌∷◌, ◌↔◌, ◌⊎◌, ◌≢◌}
use Rattle.constants.specs.Numbers.{taken, too_short, out_of_range, no_selection, both_selected}
use Rattle.codes.specs.OneOf.{one_of}
use Rattle.bus.specs.Given.{event_numbers, call_numbers}
use Rattle.bus.specs.Chip.{Event, data_read, reset_pulse}
use Rattle.bus.specs.Answer.{Reply}
use Rattle.widebus.specs.Pair.{Pair, Lent}
use Rattle.widebus.specs.OneAndTwo.{EitherShort, BothLong, EitherOutside, BothLegal}
use Rattle.widebus.specs.WideCalls.{call_on, wide_call}

-- What the call of an event replies, and the number in it.
abbrev pub wide_reply_to : ℕ → Event → Pair Lent → Reply
wide_reply_to number event all = (wide_call number event all).reply

abbrev pub wide_number : ℕ → Event → Pair Lent → ℕ
wide_number number event all = (wide_reply_to number event all).number

-- What the call of one chip replies on what it is lent.
abbrev pub reply_on : Event → Lent → Reply
reply_on event one = (call_on event one).reply

-- Neither 1 nor 2 holds of what is lent: all of it long enough, and both images in their ranges, which a single reset-pin event does not ask.
pub record TakenUp (event : Event) (all : Pair Lent) : Type 0 where
  pub long_enough : BothLong all
  pub in_ranges : event ≢ reset_pulse → BothLegal all

-- Each selected chip takes the event, which is no read where both are selected.
abbrev pub EachTakes : ℕ → Event → Pair Lent → Type 0
EachTakes number event all =
    ((number ≡ 1) × ((reply_on event all.left).number ≡ taken)) ⊎
    ((number ≡ 2) × ((reply_on event all.right).number ≡ taken)) ⊎
    ((number ≡ 3) × (event ≢ data_read) × ((reply_on event all.left).number ≡ taken) × ((reply_on event all.right).number ≡ taken))

-- A selected chip refuses the event with this number: the one that is selected alone; or of both, if it is no read, the left, or the right where the left takes it.
abbrev pub ChipRefuses : ℕ → ℕ → Event → Pair Lent → Type 0
ChipRefuses refusal number event all =
    ((number ≡ 1) × ((reply_on event all.left).number ≡ refusal)) ⊎
    ((number ≡ 2) × ((reply_on event all.right).number ≡ refusal)) ⊎
    ((number ≡ 3) × (event ≢ data_read) × (((reply_on event all.left).number ≡ refusal) ⊎ (((reply_on event all.left).number ≡ taken) × ((reply_on event all.right).number ≡ refusal))))

-- All that a call can give.
abbrev pub wide_call_numbers : List ℕ
wide_call_numbers = no_selection ∷ both_selected ∷ call_numbers

pub record WideGiven (number : ℕ) (event : Event) (all : Pair Lent) : Type 0 where
  -- 0: each selected chip takes the event.
  pub number0 : wide_number number event all ≡ taken ↔ TakenUp event all × EachTakes number event all
  -- 1: a lent state or memory of either chip is too short.
  pub number1 : wide_number number event all ≡ too_short ↔ EitherShort all
  -- 2: either image is out of its ranges, whichever chip is selected (not asked at a single reset-pin event), where 1 does not go first.
  pub number2 : wide_number number event all ≡ out_of_range ↔ BothLong all × (event ≢ reset_pulse) × EitherOutside all
  -- 13: the selection's number is not 1, 2 or 3, where neither 1 nor 2 goes first.
  pub number13 : wide_number number event all ≡ no_selection ↔ TakenUp event all × (number ≢ 1) × (number ≢ 2) × (number ≢ 3)
  -- 14: a read with both selected, where none of these goes first.
  pub number14 : wide_number number event all ≡ both_selected ↔ TakenUp event all × (number ≡ 3) × (event ≡ data_read)
  -- Otherwise, with the left chip selected, its own reply.
  pub left_replies : TakenUp event all → number ≡ 1 → wide_reply_to number event all ≡ reply_on event all.left
  -- With the right chip selected, its own.
  pub right_replies : TakenUp event all → number ≡ 2 → wide_reply_to number event all ≡ reply_on event all.right
  -- With both selected, the left's number where the left refuses,
  pub left_refuses : TakenUp event all → number ≡ 3 → event ≢ data_read → (reply_on event all.left).number ≢ taken → wide_number number event all ≡ (reply_on event all.left).number
  -- else the right's.
  pub right_reply_counts : TakenUp event all → number ≡ 3 → event ≢ data_read → (reply_on event all.left).number ≡ taken → wide_number number event all ≡ (reply_on event all.right).number
  -- 3 to 7 and 15: a selected chip's own number, and it passes unchanged.
  pub chips : (refusal : ℕ) → one_of event_numbers refusal ≡ true → wide_number number event all ≡ refusal ↔ TakenUp event all × ChipRefuses refusal number event all
  -- No other number is given.
  pub no_other : one_of wide_call_numbers (wide_number number event all) ≡ true
  -- A refusal, and each taken event but a read, replies byte 0 and not "dummy".
  pub silent : (wide_number number event all ≢ taken) ⊎ (event ≢ data_read) → ((wide_reply_to number event all).byte ≡ 0) × ((wide_reply_to number event all).dummy ≡ false)
