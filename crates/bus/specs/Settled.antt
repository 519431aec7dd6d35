-- Any two results that satisfy what a public call of this crate states are equal: its answer, and what it leaves of everything lent to be changed. A field has the name of its call.
use Rattle.std.specs.Prelude.{Option, Result, Err, ℕ, ◌≡◌, Bool, List, [], ◌∷◌, map, length, get_or}
use Rattle.constants.specs.Refusals.{Met, number_of_refusal, number_met}
use Rattle.constants.specs.Settles.{Settles}
use Rattle.constants.specs.declared.refusal.Refusal.{Refusal}
use Rattle.bus.specs.Places.{column, awaited, fresh}
use Rattle.bus.specs.Registers.{image_of, ◌with◌≔◌, power_on, power_state}
use Rattle.bus.specs.Memory.{kept}
use Rattle.bus.specs.Events.{access, command, write, written, read, reset_pin, silently}
use Rattle.bus.specs.Chip.{command_byte, data_written, data_read, reset_pulse}
use Rattle.bus.specs.Recorded as recorded
use Rattle.bus.specs.Recorded.{chip_of, replay}
use Rattle.bus.specs.Stretch.{stretch, stretch_of}
use Rattle.bus.specs.Image.{short, legal, asked_state, asked, stored}
use Rattle.bus.specs.Start.{started, start_of}
use Rattle.bus.specs.Calls.{called, reply_of, state_after, call}
use Rattle.bus.specs.OnState.{on_state, access_on}
use Rattle.bus.specs.declared.registers.Registers.{Registers}
use Rattle.bus.specs.declared.registers.PowerState.{PowerState}
use Rattle.bus.specs.Answer.{Answer, Reply, answer_of, answer_of_read, asked_of, reply_to, reply_to_read}
use Rattle.bus.specs.declared.answer.Read.{Read}
use Rattle.bus.specs.Stretch.{Stretch}
use Rattle.bus.specs.declared.start.Hung.{Hung}

pub record Settled : Type 0 where
  pub «calls::command» : (byte : ℕ) (state memory : List ℕ) → Settles (λ (o : Met × List ℕ). called (reply_to o.0) o.1 memory ≡ call (command_byte byte) state memory)
  pub «calls::write» : (byte : ℕ) (state memory : List ℕ) → Settles (λ (o : Met × List ℕ × List ℕ). called (reply_to o.0) o.1 o.2 ≡ call (data_written byte) state memory)
  pub «calls::read» : (state memory : List ℕ) → Settles (λ (o : Result (Option ℕ) Refusal × List ℕ). called (reply_to_read o.0) o.1 memory ≡ call data_read state memory)
  pub calls::reset_pin : (state memory : List ℕ) → Settles (λ (o : Met × List ℕ). called (reply_to o.0) o.1 memory ≡ call reset_pulse state memory)
  -- An answer as a reply with the state after it, and a refusal as a reply; below, the results that code answers in the reply's place.
  pub «calls::conclude» : (answer : Answer) (state : List ℕ) → Settles (λ (o : Reply × List ℕ). (o.0 ≡ reply_of answer) × (o.1 ≡ state_after answer state))
  pub «calls::refuse» : (number : ℕ) → Settles (λ (r : Reply). r ≡ reply_of (Answer.Refused number))
  pub conclude_answers : (answer : Answer) (state : List ℕ) → Settles (λ (o : Met × List ℕ). (reply_to o.0 ≡ reply_of answer) × (o.1 ≡ state_after answer state))
  pub refuse_answers : (refusal : Refusal) → Settles (λ (met : Met). (met ≡ Err refusal) × (reply_to met ≡ reply_of (Answer.Refused (number_of_refusal refusal))))
  pub «Registers::command» : (byte : ℕ) (self : Registers) → Settles (λ (r : Result Registers Refusal). answer_of r ≡ command byte self)
  pub Registers::reset_pin : (self : Registers) → Settles (λ (r : Registers). silently r ≡ reset_pin self)
  pub «Registers::write» : (self : Registers) (memory : List ℕ) (byte : ℕ) → Settles (λ (o : Result Registers Refusal × List ℕ). (answer_of o.0 ≡ write self (length memory)) × (o.1 ≡ written byte self memory))
  pub «Registers::read» : (self : Registers) (memory : List ℕ) → Settles (λ (r : Result Read Refusal). answer_of_read r ≡ read self memory)
  pub «Registers::access» : (self : Registers) (memory : ℕ) → Settles (λ (r : Met). number_met r ≡ access self memory)
  pub «Registers::store» : (self : Registers) (state : List ℕ) → Settles (λ (later : List ℕ). later ≡ stored self state)
  pub «Registers::image» : (self : Registers) → Settles (λ (r : List ℕ). r ≡ image_of self)
  pub Registers::power_on : Settles (λ (r : Registers). r ≡ power_on)
  pub Registers::power_state : (self : Registers) → Settles (λ (r : PowerState). r ≡ power_state self)
  pub Registers::with_column : (self : Registers) (value : ℕ) → Settles (λ (r : Registers). r ≡ (self with column ≔ value))
  pub Registers::with_fresh : (self : Registers) (value : ℕ) → Settles (λ (r : Registers). r ≡ (self with fresh ≔ value))
  pub «data::kept» : (page byte : ℕ) → Settles (λ (r : ℕ). r ≡ kept page byte)
  pub «image::ask» : (state memory : List ℕ) → Settles (λ (r : Result Registers Refusal). asked_of r ≡ asked state memory)
  pub image::ask_state : (state : List ℕ) → Settles (λ (r : Result Registers Refusal). asked_of r ≡ asked_state state)
  pub «image::short» : (state memory : List ℕ) → Settles (λ (r : Bool). r ≡ short state memory)
  pub «image::legal» : (image : List ℕ) → Settles (λ (r : Bool). r ≡ legal image)
  pub «start::start» : (hung : Hung) (state memory : List ℕ) → Settles (λ (o : Met × List ℕ × List ℕ). started (number_met o.0) o.1 o.2 ≡ start_of hung state memory)
  pub «stretch::commands» : (registers : Registers) (bytes : List ℕ) → Settles (λ (r : Stretch). (memory : List ℕ) → stretch_of r memory ≡ stretch replay (map recorded.recorded_command bytes) (chip_of registers memory))
  pub «stretch::writes» : (registers : Registers) (memory bytes : List ℕ) → Settles (λ (o : Stretch × List ℕ). stretch_of o.0 o.1 ≡ stretch replay (map recorded.recorded_write bytes) (chip_of registers memory))
  pub «stretch::reads» : (registers : Registers) (memory bytes : List ℕ) → Settles (λ (r : Stretch). stretch_of r memory ≡ stretch replay (map recorded.read_as bytes) (chip_of registers memory))
  pub stretch::reset_pin : (registers : Registers) → Settles (λ (r : Stretch). (memory : List ℕ) → stretch_of r memory ≡ stretch replay (recorded.event reset_pulse ∷ []) (chip_of registers memory))

-- The same of events on a state that was asked before.
pub record SettledOnState : Type 0 where
  pub «accepted::command» : (state : List ℕ) (byte : ℕ) → Settles (λ (o : Met × List ℕ). (memory : List ℕ) → called (reply_to o.0) o.1 memory ≡ on_state (command_byte byte) state memory)
  pub «accepted::write» : (state memory : List ℕ) (byte : ℕ) → Settles (λ (o : Met × List ℕ × List ℕ). called (reply_to o.0) o.1 o.2 ≡ on_state (data_written byte) state memory)
  pub «accepted::read» : (state memory : List ℕ) → Settles (λ (o : Result (Option ℕ) Refusal × List ℕ). called (reply_to_read o.0) o.1 memory ≡ on_state data_read state memory)
  pub «accepted::access» : (state memory : List ℕ) → Settles (λ (r : Met). number_met r ≡ access_on state memory)
  pub «accepted::awaited» : (state : List ℕ) → Settles (λ (r : ℕ). r ≡ get_or state awaited 0)
