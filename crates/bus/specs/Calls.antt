-- The event calls on a lent state and memory: the whole outcome as one function of what is lent.
use Rattle.std.specs.Prelude.{ℕ, cond, List}
use Rattle.constants.specs.Numbers.{too_short}
use Rattle.bus.specs.Registers.{registers_of}
use Rattle.bus.specs.Events.{number_of, byte_of, dummy_of}
use Rattle.bus.specs.Chip.{Event, command_byte, data_written, data_read, reset_pulse, Outcome, step}
use Rattle.bus.specs.Image.{short, asked, stored}
use Rattle.bus.specs.Answer.{Answer}
use Rattle.bus.specs.Answer.{Asked}
use Rattle.bus.specs.Answer.{Reply}

-- What a call replies, and the state and memory that it leaves.
pub record Called : Type 0 where
  pub reply : Reply
  pub state : List ℕ
  pub memory : List ℕ

abbrev pub called : Reply → List ℕ → List ℕ → Called
called r later left = record { reply = r; state = later; memory = left }

-- An answer as a reply: its number, byte and dummy mark.
unfoldable pub reply_of : Answer → Reply
unfolding number_of byte_of dummy_of
reply_of answer = record { number = number_of answer; byte = byte_of answer; dummy = dummy_of answer }

-- A refusal leaves state and memory as they were.
unfoldable pub refused : ℕ → List ℕ → List ℕ → Called
refused number state memory = called (reply_of (Answer.Refused number)) state memory

-- The state after an answer: the image of the registers that a taken event leaves.
unfoldable pub state_after : Answer → List ℕ → List ℕ
state_after (Answer.Taken after) state = stored after.registers state
state_after (Answer.Refused number) state = state

-- An event's outcome as a call's.
unfoldable pub concluded : Outcome → List ℕ → Called
concluded outcome state = called (reply_of outcome.answer) (state_after outcome.answer state) outcome.memory

-- What is asked before an event: lengths and ranges, but of a single pulse on the reset pin the lengths alone.
unfoldable pub asked_before : Event → List ℕ → List ℕ → Asked
asked_before (command_byte b) state memory = asked state memory
asked_before (data_written b) state memory = asked state memory
asked_before data_read state memory = asked state memory
asked_before reset_pulse state memory = cond (short state memory) (Asked.Refused too_short) (Asked.Found (registers_of state))

-- An event on what was asked before it.
unfoldable pub call_on : Asked → Event → List ℕ → List ℕ → Called
call_on (Asked.Found r) event state memory = concluded (step event r memory) state
call_on (Asked.Refused number) event state memory = refused number state memory

-- The call of an event.
unfoldable pub call : Event → List ℕ → List ℕ → Called
call event state memory = call_on (asked_before event state memory) event state memory
