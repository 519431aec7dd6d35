-- Any two results that satisfy what a public call of this crate states are equal: its answer, and what it leaves of everything lent to be changed. A field has the name of its call.
use Rattle.std.specs.Prelude.{ℕ, ◌≡◌, List, map, Option, Result}
use Rattle.constants.specs.Settles.{Settles}
use Rattle.constants.specs.Refusals.{Met}
use Rattle.constants.specs.declared.refusal.Refusal.{Refusal}
use Rattle.bus.specs.Chip.{command_byte, data_written, data_read, reset_pulse}
use Rattle.bus.specs.Recorded.{recorded_command, recorded_write}
use Rattle.bus.specs.Stretch.{stretch}
use Rattle.bus.specs.Answer.{reply_to, reply_to_read}
use Rattle.widebus.specs.Selection.{selection_of, side_of, result_of}
use Rattle.widebus.specs.Pair.{both_lent, chips_of}
use Rattle.widebus.specs.Asked.{both_asked_of, asked_both}
use Rattle.widebus.specs.Events.{replay_on}
use Rattle.widebus.specs.WideCalls.{wide_called, wide_call}
use Rattle.widebus.specs.WideStretch.{WideStretch, wide_stretch_of}
use Rattle.widebus.specs.Page.{handed_of, page_of}
use Rattle.widebus.specs.declared.both.Both.{Both}
use Rattle.widebus.specs.declared.selection.Side.{Side}
use Rattle.widebus.specs.declared.selection.Selection.{Selection}

pub record Settled : Type 0 where
  pub «both::ask» : (left_state left_memory right_state right_memory : List ℕ) → Settles (λ (r : Result Both Refusal). both_asked_of r ≡ asked_both (both_lent left_state left_memory right_state right_memory))
  pub «calls::command» : (left_state left_memory right_state right_memory : List ℕ) (selection byte : ℕ)
      → Settles (λ (o : Met × List ℕ × List ℕ). wide_called (reply_to o.0) (both_lent o.1 left_memory o.2 right_memory) ≡ wide_call selection (command_byte byte) (both_lent left_state left_memory right_state right_memory))
  pub «calls::write» : (left_state left_memory right_state right_memory : List ℕ) (selection byte : ℕ)
      → Settles (λ (o : Met × List ℕ × List ℕ × List ℕ × List ℕ). wide_called (reply_to o.0) (both_lent o.1 o.2 o.3 o.4) ≡ wide_call selection (data_written byte) (both_lent left_state left_memory right_state right_memory))
  pub «calls::read» : (left_state left_memory right_state right_memory : List ℕ) (selection : ℕ)
      → Settles (λ (o : Result (Option ℕ) Refusal × List ℕ × List ℕ). wide_called (reply_to_read o.0) (both_lent o.1 left_memory o.2 right_memory) ≡ wide_call selection data_read (both_lent left_state left_memory right_state right_memory))
  pub calls::reset_pin : (left_state left_memory right_state right_memory : List ℕ) (selection : ℕ)
      → Settles (λ (o : Met × List ℕ × List ℕ). wide_called (reply_to o.0) (both_lent o.1 left_memory o.2 right_memory) ≡ wide_call selection reset_pulse (both_lent left_state left_memory right_state right_memory))
  pub «page::page» : (side : Side) (left right : List ℕ) (page : ℕ) → Settles (λ (r : Result (List ℕ) Refusal). handed_of r ≡ page_of side left right page)
  -- the two `try_from`
  pub selection::selection_of : (number : ℕ) → Settles (λ (r : Result Selection Refusal). result_of r ≡ selection_of number)
  pub selection::side_of : (number : ℕ) → Settles (λ (r : Result Side Refusal). result_of r ≡ side_of number)
  pub «stretch::commands» : (selection : Selection) (registers : Both) (bytes : List ℕ)
      → Settles (λ (r : WideStretch). (left right : List ℕ) → wide_stretch_of r left right ≡ stretch (replay_on selection) (map recorded_command bytes) (chips_of registers left right))
  pub «stretch::writes» : (selection : Selection) (registers : Both) (left_memory right_memory bytes : List ℕ)
      → Settles (λ (o : WideStretch × List ℕ × List ℕ). wide_stretch_of o.0 o.1 o.2 ≡ stretch (replay_on selection) (map recorded_write bytes) (chips_of registers left_memory right_memory))
